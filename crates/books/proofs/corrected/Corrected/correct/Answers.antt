-- Each refusal leaves all as it was; an accepted correction is the latest at its place.
use Rattle.std.proofs.Common.{◌≡◌, ℕ, Ok, Result, sym, refl, subst, ◌∙◌, inl, inr, arith, rules}
use Rattle.faults.specs.declared.fault.Fault.{Fault}
use Rattle.books.specs.Layers.{volume_at, layered, corrected_places, Corrects}
use Rattle.books.proofs.Amends.{no_posting, posting_there, allowed_there, layered_noted}
use Rattle.books.proofs.corrected.Corrected.correct.Goals as goal

pub returns-in_default : goal.returns-in_default
returns-in_default g c =
    let rows = g.B.Book.list c.args.self.now.lower in
    record {
      lower = refl;
      cases = record { refused = inl (refl, no_posting (volume_at c.args.self.now.corrections) rows c.args.place c.in_default.ensures.value); same = refl; places = refl };
    }

pub returns-then-not-allows_volume-clause-cases : goal.returns-then-not-allows_volume-clause-cases
returns-then-not-allows_volume-clause-cases g c =
    let f = volume_at c.args.self.now.corrections in
    let rows = g.B.Book.list c.args.self.now.lower in
    let at = c.in-Some.ensures.value in
    let allowed = allowed_there f rows c.args.place c.args.volume c.in-Some.posting.row at ∙ sym c.if-not-allows_volume.ensures.value in
    record {
      refused = inr (posting_there f rows c.args.place c.in-Some.posting.row at, inl (refl, λ yes. let z : ◌≡◌ {A = ℕ} 0 1 = cc in omega arith));
      same = refl;
      places = refl;
    }

pub returns-in_err-note : goal.returns-in_err-note
returns-in_err-note g c =
    let k = c.args.self.now.corrections in
    let new = c.note.new.self in
    let rows = g.B.Book.list c.args.self.now.lower in
    let p = layered_noted k new rows c.args.place c.args.volume c.in-Some.posting.row c.note.result c.in-Some.ensures.value (sym c.if-not-allows_volume.ensures.value) c.note.ensures.cases in
    let e : c.note.result ≡ c.from_residual.result = search rules in
    let to : Result (Unit {0}) Fault → Type 0 = λ a. Corrects (layered k rows) (corrected_places k) c.args.place c.args.volume a (layered new rows) (corrected_places new) in
    record { cases = subst to e p; lower = refl }

pub returns : goal.returns
returns g c = record {
  cases = layered_noted c.args.self.now.corrections c.note.new.self (g.B.Book.list c.args.self.now.lower) c.args.place c.args.volume c.in-Some.posting.row (Ok tt)
      c.in-Some.ensures.value (sym c.if-not-allows_volume.ensures.value) c.in_ok-note.ensures.cases;
  lower = refl;
}
