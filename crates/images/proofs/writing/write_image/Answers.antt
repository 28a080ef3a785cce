use Rattle.std.proofs.Common.{◌≡◌, ◌+◌, ◌*◌, ◌≤◌, List, ℕ, length, refl, ap, ◌∙◌, subst, inl, inr, arith}
use Rattle.postings.specs.Prices.{ask_prices}
use Rattle.images.specs.Bytes.{bytes_of}
use Rattle.images.specs.Laying.{laid}
use Rattle.images.proofs.Written.{writes, written_opens}
use Rattle.images.proofs.writing.write_image.Goals as goal

pub returns-then-count-gt-MOST_POSTINGS-clause-cases : goal.returns-then-count-gt-MOST_POSTINGS-clause-cases
returns-then-count-gt-MOST_POSTINGS-clause-cases g c =
    let same : c.in-Ok.prices.now ≡ c.args.prices.now = c.in-Ok.ensures.1.same in
    let priced : length c.args.prices.now ≡ 24 = c.in-Ok.ensures.1.long in
    let limited = subst (λ (ps : List ℕ). (ask_prices ps).holds) same c.in_ok-check_prices.ensures.cases in
    record { refused = inr (priced, inr (limited, inl (refl, λ h. omega arith))); same = refl }

pub returns-then-out-length-clause-cases : goal.returns-then-out-length-clause-cases
returns-then-out-length-clause-cases g c =
    let same : c.in-Ok.prices.now ≡ c.args.prices.now = c.in-Ok.ensures.1.same in
    let priced : length c.args.prices.now ≡ 24 = c.in-Ok.ensures.1.long in
    let limited = subst (λ (ps : List ℕ). (ask_prices ps).holds) same c.in_ok-check_prices.ensures.cases in
    let few : length (g.B.Book.list c.args.book.now) ≤ 2048 = omega arith in
    record { refused = inr (priced, inr (limited, inr (few, inl (refl, λ h. omega arith)))); same = refl }

pub returns : goal.returns
returns g c =
    let rows = g.B.Book.list c.args.book.now in
    let same : c.in-Ok.prices.now ≡ c.args.prices.now = c.in-Ok.ensures.1.same in
    let priced : length c.args.prices.now ≡ 24 = c.in-Ok.ensures.1.long in
    let limited = subst (λ (ps : List ℕ). (ask_prices ps).holds) same c.in_ok-check_prices.ensures.cases in
    let few : length (g.B.Book.list c.args.book.now) ≤ 2048 = omega arith in
    let room : 100 + 13 * length (g.B.Book.list c.args.book.now) ≤ length c.args.out.now = omega arith in
    let put = c.put_day.ensures.after ∙ ap (λ (ps : List ℕ). laid c.args.out.now 0 (bytes_of ps rows)) same in
    let w = writes c.args.prices.now rows c.args.out.now c.put_day.new.out (100 + 13 * c.count-count.result) (priced, (limited, (few, (room, tt)))) (omega arith) put in
    record { cases = w; opens = written_opens c.args.prices.now rows c.args.out.now c.put_day.new.out _ w c.count-count.ensures.lawful }
