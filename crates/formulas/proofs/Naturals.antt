-- Sums of naturals, and of whole numbers against them: order, scale and exchange.
use Rattle.std.proofs.Common.{◌≡◌, ℕ, suc, ◌+◌, ◌*◌, ◌≤◌, Bool, true, false, cond, ◌&&◌, ◌||◌, List, [], ◌∷◌, length, ℤ, pos, nat_abs, All, sum_by, sym, refl, ap, ◌∙◌, mul-add, arith}
use Rattle.std.proofs.lemmas.List.Sums.{sum_by-cons}
use Rattle.integers.specs.Sums.{int_sum_by}
use Rattle.integers.proofs.Size.{size_plus}
use Rattle.formulas.specs.Sums.{sum_where, int_sum_where}

module _ {X : Type 0} where
  pub sum_below : (f g : X → ℕ) → ((x : X) → f x ≤ g x) → (xs : List X) → sum_by f xs ≤ sum_by g xs
  sum_below f g h [] = omega arith
  sum_below f g h (x ∷ xs) = omega (arith, sum_by-cons f x xs, sum_by-cons g x xs, h x, sum_below f g h xs)

  pub sum_two : (f g : X → ℕ) (xs : List X) → sum_by (λ x. f x + g x) xs ≡ sum_by f xs + sum_by g xs
  sum_two f g [] = refl
  sum_two f g (x ∷ xs) =
      omega (arith, sum_two f g xs, sum_by-cons f x xs, sum_by-cons g x xs, sum_by-cons (λ y. f y + g y) x xs)

  -- a sum whose terms are at most c times their weights
  pub weighed : (P : X → Type 0) (f : X → ℤ) (w : X → ℕ) (c : ℕ) → ((x : X) → P x → nat_abs (f x) ≤ c * w x) →
      (xs : List X) → All P xs → nat_abs (int_sum_by f xs) ≤ c * sum_by w xs
  weighed P f w c h [] a = omega arith
  weighed P f w c h (x ∷ xs) a =
      let k : c * sum_by w (x ∷ xs) ≡ c * (w x + sum_by w xs) = ap (λ (t : ℕ). c * t) (sum_by-cons w x xs) in
      omega (arith, weighed P f w c h xs (λ k d lt. a (suc k) d (omega arith)), h x (a 0 x (omega arith)), mul-add c (w x) (sum_by w xs), size_plus (f x) (int_sum_by f xs))

  pub weighed_all : (f : X → ℤ) (w : X → ℕ) (c : ℕ) → ((x : X) → nat_abs (f x) ≤ c * w x) → (xs : List X) → nat_abs (int_sum_by f xs) ≤ c * sum_by w xs
  weighed_all f w c h [] = omega arith
  weighed_all f w c h (x ∷ xs) =
      let k : c * sum_by w (x ∷ xs) ≡ c * (w x + sum_by w xs) = ap (λ (t : ℕ). c * t) (sum_by-cons w x xs) in
      omega (arith, weighed_all f w c h xs, h x, mul-add c (w x) (sum_by w xs), size_plus (f x) (int_sum_by f xs))

module _ {Y : Type 0} where
  nothing : (ys : List Y) → sum_by (λ (y : Y). 0) ys ≡ 0
  nothing [] = refl
  nothing (y ∷ ys) = omega (arith, nothing ys, sum_by-cons (λ (y : Y). 0) y ys)

module _ {X Y : Type 0} where
  -- a double sum, taken by rows or by columns
  pub exchanged : (f : X → Y → ℕ) (xs : List X) (ys : List Y) → sum_by (λ x. sum_by (λ y. f x y) ys) xs ≡ sum_by (λ y. sum_by (λ x. f x y) xs) ys
  exchanged f [] ys = sym (nothing ys)
  exchanged f (x ∷ xs) ys =
      sum_by-cons (λ z. sum_by (λ y. f z y) ys) x xs
      ∙ ap (λ (t : ℕ). sum_by (λ y. f x y) ys + t) (exchanged f xs ys)
      ∙ sym (sum_two (f x) (λ y. sum_by (λ z. f z y) xs) ys)
      ∙ same ys
    where
      same : (zs : List Y) → sum_by (λ y. f x y + sum_by (λ z. f z y) xs) zs ≡ sum_by (λ y. sum_by (λ z. f z y) (x ∷ xs)) zs
      same [] = refl
      same (z ∷ zs) =
          omega (arith, sum_by-cons (λ y. f x y + sum_by (λ z. f z y) xs) z zs, sum_by-cons (λ y. sum_by (λ z. f z y) (x ∷ xs)) z zs, same zs, sum_by-cons (λ t. f t z) x xs)

-- tests
pub and_cond : (x b : Bool) (v : ℕ) → cond (x && b) v 0 ≤ cond x (cond b v 0) 0
and_cond true b v = omega arith
and_cond false b v = omega arith

pub cond_least : (b : Bool) (k : ℕ) → cond b k 0 ≤ k
cond_least true k = omega arith
cond_least false k = omega arith

pub or_cond : (a b : Bool) (k : ℕ) → cond b k 0 ≤ cond (a || b) k 0
or_cond true b k = cond_least b k
or_cond false b k = omega arith

pub cond_size : (b : Bool) (z : ℤ) (k c : ℕ) → (b ≡ true → nat_abs z ≤ c * k) → nat_abs (cond b z (pos 0)) ≤ c * cond b k 0
cond_size true z k c h = h refl
cond_size false z k c h = omega arith

pub scaled : {X : Type 0} (f w : X → ℕ) (c : ℕ) → ((x : X) → f x ≤ c * w x) → (xs : List X) → sum_by f xs ≤ c * sum_by w xs
scaled f w c h [] = omega arith
scaled f w c h (x ∷ xs) =
    let k : c * sum_by w (x ∷ xs) ≡ c * (w x + sum_by w xs) = ap (λ (t : ℕ). c * t) (sum_by-cons w x xs) in
    omega (arith, scaled f w c h xs, h x, mul-add c (w x) (sum_by w xs), sum_by-cons f x xs)

pub ones : {X : Type 0} (xs : List X) → sum_by (λ (x : X). 1) xs ≡ length xs
ones [] = refl
ones (x ∷ xs) = omega (arith, ones xs, sum_by-cons (λ y. 1) x xs)

-- a sum over those that pass a test, whose terms are at most c times their weights
pub weighed_where : {X : Type 0} (P : X → Type 0) (p : X → Bool) (f : X → ℤ) (w : X → ℕ) (c : ℕ) →
    ((x : X) → P x → p x ≡ true → nat_abs (f x) ≤ c * w x) → (xs : List X) → All P xs → nat_abs (int_sum_where p f xs) ≤ c * sum_where p w xs
weighed_where P p f w c h xs a =
    weighed P (λ x. cond (p x) (f x) (pos 0)) (λ x. cond (p x) (w x) 0) c (λ x q. cond_size (p x) (f x) (w x) c (h x q)) xs a

-- more pass a wider test
pub wider : {X : Type 0} (p q : X → Bool) (f : X → ℕ) (xs : List X) → sum_where q f xs ≤ sum_where (λ x. p x || q x) f xs
wider p q f xs = sum_below (λ x. cond (q x) (f x) 0) (λ x. cond (p x || q x) (f x) 0) (λ x. or_cond (p x) (q x) (f x)) xs
