-- The part that is written takes the place of as many bytes.
use Rattle.std.proofs.Common.{◌≡◌, ℕ, ◌+◌, ◌-◌, List, ◌++◌, length, take, drop, ap, ◌∙◌, arith}
use Rattle.std.proofs.lemmas.List.{drop-drop}
use Rattle.images.specs.Laying.{laid}
use Rattle.images.proofs.writing.put.Goals as goal

over : (old xs ys : List ℕ) (at n : ℕ) → ys ≡ xs → n ≡ at + length xs → take at old ++ (ys ++ drop (n - at) (drop at old)) ≡ laid old at xs
unfolding laid
over old xs ys at n e h =
    ap (λ (zs : List ℕ). take at old ++ (zs ++ drop (n - at) (drop at old))) e
    ∙ ap (λ (zs : List ℕ). take at old ++ (xs ++ zs)) (drop-drop (n - at) at old ∙ ap (λ (k : ℕ). drop k old) (omega arith))

pub returns : goal.returns
returns c = record { after = over c.args.out.now c.args.bytes.now _ c.args.at _ c.copy_from_slice.ensures.after (omega arith) }
