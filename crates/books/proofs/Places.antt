-- The entries of a list by their places, as a book answers them.
use Rattle.std.proofs.Common.{◌≡◌, ℕ, zero, suc, ◌+◌, ◌<◌, List, [], ◌∷◌, ◌++◌, length, take, drop, Some, None, refl, ap, add-one, arith}
use Rattle.std.specs.List.{slice_get}

module _ {X : Type 0} where
  -- a place below the count has an entry
  pub some_below : (xs : List X) (i : ℕ) → i < length xs → None ≡ slice_get xs i → ⊥
  some_below [] i h e = omega arith
  some_below (x ∷ xs) zero h e = let z : ◌≡◌ {A = ℕ} 0 1 = cc in omega arith
  some_below (x ∷ xs) (suc i) h e = some_below xs i (omega arith) e

  -- a place with an entry is below the count
  pub below_some : (xs : List X) (i : ℕ) (x : X) → Some x ≡ slice_get xs i → i < length xs
  below_some [] i x e = let z : ◌≡◌ {A = ℕ} 0 1 = cc in omega arith
  below_some (y ∷ xs) zero x e = omega arith
  below_some (y ∷ xs) (suc i) x e = let h : i < length xs = below_some xs i x e in omega arith

  -- the entry that was put last
  pub nth_push : (xs : List X) (x : X) → slice_get (xs ++ (x ∷ [])) (length xs) ≡ Some x
  nth_push [] x = refl
  nth_push (y ∷ xs) x = nth_push xs x

  take_suc : (xs : List X) (i : ℕ) (x : X) → Some x ≡ slice_get xs i → take (suc i) xs ≡ take i xs ++ (x ∷ [])
  take_suc [] i x e = let z : ◌≡◌ {A = ℕ} 0 1 = cc in absurd (omega arith)
  take_suc (y ∷ xs) zero x e = let q : y ≡ x = cc in ap (λ (z : X). z ∷ []) q
  take_suc (y ∷ xs) (suc i) x e = ap (λ (zs : List X). y ∷ zs) (take_suc xs i x e)

  -- one entry more
  pub take_place : (xs : List X) (i : ℕ) (x : X) → Some x ≡ slice_get xs i → take (i + 1) xs ≡ take i xs ++ (x ∷ [])
  take_place xs i x e = rw add-one (take_suc xs i x e)

  drop_suc : (xs : List X) (i : ℕ) (x : X) → Some x ≡ slice_get xs i → drop i xs ≡ x ∷ drop (suc i) xs
  drop_suc [] i x e = let z : ◌≡◌ {A = ℕ} 0 1 = cc in absurd (omega arith)
  drop_suc (y ∷ xs) zero x e = let q : y ≡ x = cc in ap (λ (z : X). z ∷ xs) q
  drop_suc (y ∷ xs) (suc i) x e = drop_suc xs i x e

  -- the entries from a place on, the first apart
  pub drop_place : (xs : List X) (i : ℕ) (x : X) → Some x ≡ slice_get xs i → drop i xs ≡ x ∷ drop (i + 1) xs
  drop_place xs i x e = rw add-one (drop_suc xs i x e)

  drop_first : (xs ys : List X) (i : ℕ) (x : X) → drop i xs ≡ x ∷ ys → (Some x ≡ slice_get xs i) × (drop (suc i) xs ≡ ys)
  drop_first [] ys zero x e = let z : ◌≡◌ {A = ℕ} 0 1 = cc in absurd (omega arith)
  drop_first [] ys (suc i) x e = let z : ◌≡◌ {A = ℕ} 0 1 = cc in absurd (omega arith)
  drop_first (y ∷ xs) ys zero x e = (cc, cc)
  drop_first (y ∷ xs) ys (suc i) x e = drop_first xs ys i x e

  -- the first of the entries from a place on is the one at that place, and the others follow it
  pub first_place : (xs ys : List X) (i : ℕ) (x : X) → drop i xs ≡ x ∷ ys → (Some x ≡ slice_get xs i) × (drop (i + 1) xs ≡ ys)
  first_place xs ys i x e = rw add-one (drop_first xs ys i x e)
