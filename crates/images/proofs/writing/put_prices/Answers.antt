-- Each price takes the next four bytes.
use Rattle.std.proofs.Common.{◌≡◌, ◌+◌, ◌*◌, ◌<◌, [], length, drop, get_or, sym, refl, ap, ◌∙◌, arith}
use Rattle.std.specs.List.{flat_map}
use Rattle.std.proofs.lemmas.List.{length-drop, nil_from_length}
use Rattle.std.proofs.lemmas.Option.{slice_get-get_or}
use Rattle.books.proofs.Places.{drop_place}
use Rattle.images.specs.Bytes.{u32_of}
use Rattle.images.specs.Laying.{laid}
use Rattle.images.proofs.Laying.{laid_none, laid_turn}
use Rattle.images.proofs.writing.put_prices.Goals as goal

pub loop-hour-init : goal.loop-hour-init
loop-hour-init c = (refl, omega arith)

pub loop-hour-preserved : goal.loop-hour-preserved
loop-hour-preserved c =
    let inside : c.loop-hour.hour < length c.args.prices.now = omega arith in
    let first = drop_place c.args.prices.now c.loop-hour.hour (get_or c.args.prices.now c.loop-hour.hour 0) (sym (slice_get-get_or _ _ 0 inside)) in
    let put = c.put.ensures.after ∙ ap (laid c.loop-hour.out (2 + 4 * c.loop-hour.hour)) c.to_be_bytes.ensures in
    let t = laid_turn u32_of 4 (λ p. refl) c.loop-hour.out c.put.new.out (2 + 4 * c.loop-hour.hour) (2 + 4 * (c.loop-hour.hour + 1)) _ _ _ first (omega arith) put c.loop-hour.invariant.1 in
    (t.0 ∙ c.loop-hour.invariant.0, t.1)

pub returns : goal.returns
returns c =
    let none : drop c.loop-hour.hour c.args.prices.now ≡ [] = nil_from_length _ (simp length-drop (omega arith)) in
    record { after = laid_none c.loop-hour.out _ ∙ ap (λ ps. laid c.loop-hour.out (2 + 4 * c.loop-hour.hour) (flat_map u32_of ps)) (sym none) ∙ c.loop-hour.invariant.0 }
