-- Bytes laid over others, piece by piece.
use Rattle.std.proofs.Common.{◌≡◌, ℕ, ◌+◌, ◌*◌, ◌≤◌, List, [], ◌∷◌, ◌++◌, length, take, drop, sym, refl, ap, ◌∙◌, ap₂, append_assoc, add-zero, mul-zero, mul-suc, mul-add, arith}
use Rattle.std.specs.List.{flat_map}
use Rattle.std.proofs.lemmas.List.{length-append, length-take-le, length-drop, take-append-drop, take_at}
use Rattle.std.proofs.lemmas.Slice.{drop-append-drop}
use Rattle.images.specs.Laying.{laid}

-- nothing laid over the bytes
pub laid_none : (old : List ℕ) (at : ℕ) → old ≡ laid old at []
unfolding laid
laid_none old at = sym (ap (λ (k : ℕ). take at old ++ drop k old) (add-zero at) ∙ take-append-drop at old)

front_long : (old : List ℕ) (at : ℕ) (xs : List ℕ) → at + length xs ≤ length old → length (take at old ++ xs) ≡ at + length xs
front_long old at xs h = length-append (take at old) xs ∙ omega (arith, length-take-le at old (omega arith))

-- the bytes up to the end of what was laid, and past it
pub laid_front : (old : List ℕ) (at : ℕ) (xs : List ℕ) (end : ℕ) → end ≡ at + length xs → end ≤ length old → take end (laid old at xs) ≡ take at old ++ xs
unfolding laid
laid_front old at xs end e h =
    ap (take end) (sym (append_assoc (take at old) xs (drop (at + length xs) old)))
    ∙ take_at (take at old ++ xs) (drop (at + length xs) old) end (front_long old at xs (omega arith) ∙ sym e)

pub laid_past : (old : List ℕ) (at : ℕ) (xs : List ℕ) (end : ℕ) → at + length xs ≤ end → at + length xs ≤ length old → drop end (laid old at xs) ≡ drop end old
unfolding laid
laid_past old at xs end e h =
    ap (drop end) (sym (append_assoc (take at old) xs (drop (at + length xs) old)))
    ∙ drop-append-drop (at + length xs) old (take at old ++ xs) end e (front_long old at xs h)

laid_is : (old : List ℕ) (at : ℕ) (xs : List ℕ) → laid old at xs ≡ take at old ++ (xs ++ drop (at + length xs) old)
unfolding laid
laid_is old at xs = refl

pub length_laid : (old : List ℕ) (at : ℕ) (xs : List ℕ) → at + length xs ≤ length old → length (laid old at xs) ≡ length old
unfolding laid
length_laid old at xs h =
    length-append (take at old) (xs ++ drop (at + length xs) old)
    ∙ omega (arith, length-take-le at old (omega arith), length-append xs (drop (at + length xs) old), length-drop (at + length xs) old)

-- one piece after another
pub laid_laid : (old : List ℕ) (at : ℕ) (xs ys : List ℕ) (next : ℕ) → next ≡ at + length xs → next + length ys ≤ length old → laid (laid old at xs) next ys ≡ laid old at (xs ++ ys)
laid_laid old at xs ys next e h =
    laid_is (laid old at xs) next ys
    ∙ ap₂ (λ (f p : List ℕ). f ++ (ys ++ p)) (laid_front old at xs next e (omega arith)) (laid_past old at xs (next + length ys) (omega arith) (omega arith))
    ∙ append_assoc (take at old) xs (ys ++ drop (next + length ys) old)
    ∙ ap (λ (p : List ℕ). take at old ++ p) (sym (append_assoc xs ys (drop (next + length ys) old)))
    ∙ ap (λ (k : ℕ). take at old ++ ((xs ++ ys) ++ drop k old)) (omega (arith, length-append xs ys))
    ∙ sym (laid_is old at (xs ++ ys))

module _ {X : Type 0} (f : X → List ℕ) where
  -- pieces of one length
  pub length_joined : (w : ℕ) → ((x : X) → length (f x) ≡ w) → (xs : List X) → length (flat_map f xs) ≡ w * length xs
  length_joined w each [] = sym (mul-zero w)
  length_joined w each (x ∷ xs) =
      length-append (f x) (flat_map f xs) ∙ omega (arith, each x, length_joined w each xs, mul-suc w (length xs))

  -- a turn of a loop that lays the pieces of a list, each w long: what is left to lay goes over what was laid
  pub laid_turn : (w : ℕ) → ((x : X) → length (f x) ≡ w) → (now new : List ℕ) (at next : ℕ) (left more : List X) (x : X) → left ≡ x ∷ more → next ≡ at + w → new ≡ laid now at (f x) → at + w * length left ≤ length now
      → (laid new next (flat_map f more) ≡ laid now at (flat_map f left)) × (next + w * length more ≤ length new)
  laid_turn w each now new at next left more x e h t room =
      let long = length_joined w each more in
      let n : length left ≡ length more + 1 = omega (arith, ap length e) in
      let all : w * length left ≡ w * length more + w = ap (λ (k : ℕ). w * k) n ∙ omega (arith, mul-add w (length more) 1) in (
        ap (λ (o : List ℕ). laid o next (flat_map f more)) t
            ∙ laid_laid now at (f x) (flat_map f more) next (omega (arith, each x)) (omega arith)
            ∙ ap (λ (xs : List X). laid now at (flat_map f xs)) (sym e),
        omega (arith, ap length t, length_laid now at (f x) (omega (arith, each x))),
      )
