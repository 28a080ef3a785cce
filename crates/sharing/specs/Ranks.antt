-- In a strict order of numbers, of n numbers exactly m have fewer than m before them, for each m up to n.
use Rattle.std.specs.Prelude.{◌≡◌, ℕ, zero, suc, ◌+◌, ◌-◌, ◌<◌, ◌≤◌, min, Bool, true, false, cond, ltb, ◌⊎◌, count_by, ◌≢◌, nat_lt, refl}
use Rattle.std.proofs.Common.{arith, sym, ◌∙◌, ap, inl, inr, ⊎_elim}
use Rattle.std.specs.List.{range_with_len}
use Rattle.std.proofs.lemmas.List.FromFn.{length-range_with_len}
use Rattle.std.proofs.lemmas.List.Sums.{sum_by-cons, count_by-le-length}
use Rattle.std.proofs.lemmas.Bool.{cases_Bool, cases_eq, lt-ltb}
use Rattle.std.proofs.lemmas.Bool.Decides.{nat_tests}
use Rattle.integers.proofs.Places.{count_mono}

-- no number is before itself, what is before is so along a chain, and of two numbers one is before the other
pub record Strict (before : ℕ → ℕ → Bool) : Type 0 where
  pub not_self : (k : ℕ) → before k k ≡ false
  pub chain : (i j k : ℕ) → before i j ≡ true → before j k ≡ true → before i k ≡ true
  pub either : (j k : ℕ) → (j ≢ k) → before j k ≡ false → before k j ≡ true

-- the first of a range, and the others
count_cons : (p : ℕ → Bool) (a n : ℕ) → count_by p (range_with_len a (suc n)) ≡ cond (p a) 1 0 + count_by p (range_with_len (a + 1) n)
count_cons p a n = sum_by-cons (λ j. cond (p j) 1 0) a (range_with_len (a + 1) n)

-- as many, where the same ones of the range are let through
pub count_same : (p q : ℕ → Bool) (a n : ℕ) → ((k : ℕ) → a ≤ k → k < a + n → p k ≡ q k) → count_by p (range_with_len a n) ≡ count_by q (range_with_len a n)
count_same p q a zero h = refl
count_same p q a (suc n) h =
    let e : p a ≡ q a = h a (omega arith) (omega arith) in
    let t = count_same p q (a + 1) n (λ k l u. h k (omega arith) (omega arith)) in
    rw (count_cons p a n, count_cons q a n, e, t)

-- no fewer, where all of the range that were let through still are
count_within : (p q : ℕ → Bool) (a n : ℕ) → ((k : ℕ) → a ≤ k → k < a + n → p k ≡ true → q k ≡ true) → count_by p (range_with_len a n) ≤ count_by q (range_with_len a n)
count_within p q a zero h = omega arith
count_within p q a (suc n) h =
    let t = count_within p q (a + 1) n (λ k l u. h k (omega arith) (omega arith)) in
    let e : p a ≡ true → q a ≡ true = h a (omega arith) (omega arith) in
    rw (count_cons p a n, count_cons q a n) (grind (arith, nat_tests, e))

-- all of a range
count_all : (a n : ℕ) → count_by (λ k. true) (range_with_len a n) ≡ n
count_all a zero = refl
count_all a (suc n) = rw (count_cons (λ k. true) a n, count_all (a + 1) n) (omega arith)

-- strictly more, where one is let through that was not
count_lt : (p q : ℕ → Bool) (a n y : ℕ) → ((k : ℕ) → p k ≡ true → q k ≡ true) → a ≤ y → y < a + n → p y ≡ false → q y ≡ true → count_by p (range_with_len a n) < count_by q (range_with_len a n)
count_lt p q a zero y h l u f t = absurd (omega arith)
count_lt p q a (suc n) y h l u f t =
    rw (count_cons p a n, count_cons q a n) (⊎_elim (λ e. at e) (λ ne. past (count_lt p q (a + 1) n y h (omega arith) (omega arith) f t)) (cases_eq y a))
  where
    at : y ≡ a → cond (p a) 1 0 + count_by p (range_with_len (a + 1) n) < cond (q a) 1 0 + count_by q (range_with_len (a + 1) n)
    at e = let g : p a ≡ false = ap p (sym e) ∙ f in let k : q a ≡ true = ap q (sym e) ∙ t in rw (g, k) (omega (arith, count_mono p q h (range_with_len (a + 1) n)))

    past : count_by p (range_with_len (a + 1) n) < count_by q (range_with_len (a + 1) n) → cond (p a) 1 0 + count_by p (range_with_len (a + 1) n) < cond (q a) 1 0 + count_by q (range_with_len (a + 1) n)
    past i = grind (arith, nat_tests, h a)

module _ (before : ℕ → ℕ → Bool) (o : Strict before) where
  -- of the numbers a .. a + n - 1, those before k
  abbrev ranked : ℕ → ℕ → ℕ → ℕ
  ranked a n k = count_by (λ j. before j k) (range_with_len a n)

  -- who is before k has no more before it, and who is not has more
  below : (a n k : ℕ) → a ≤ k → k < a + n → (x : ℕ) → (x ≢ k) → ((before x k ≡ true) × (ranked a n x ≤ ranked a n k)) ⊎ ((before x k ≡ false) × (ranked a n k < ranked a n x))
  below a n k l u x ne =
      ⊎_elim (λ t. inl (t, count_mono (λ j. before j x) (λ j. before j k) (λ j e. o.chain j x k e t) (range_with_len a n)))
      (λ f. inr (f, count_lt (λ j. before j k) (λ j. before j x) a n k (λ j e. o.chain j k x e (o.either x k ne f)) l u (o.not_self k) (o.either x k ne f)))
      (cases_Bool (before x k))

  -- the lowest number takes one of the first m places, or none, and the others keep their order
  shifted : (a n m k : ℕ) → a + 1 ≤ k → k < a + 1 + n → nat_lt (ranked a (suc n) k) m ≡ nat_lt (ranked (a + 1) n k) (m - cond (nat_lt (ranked (a + 1) n a) m) 1 0)
  shifted a n m k l u =
      rw (count_cons (λ j. before j k) a n) (⊎_elim (λ c. rw c.0 (grind (arith, nat_tests))) (λ c. rw c.0 (grind (arith, nat_tests))) (below (a + 1) n k l u a (omega arith)))

  -- the lowest number is not before itself
  own : (a n : ℕ) → ranked a (suc n) a ≡ ranked (a + 1) n a
  own a n = count_cons (λ j. before j a) a n ∙ rw (o.not_self a) (omega arith)

  -- m of n numbers have fewer than m before them
  pub first_ones : (a n m : ℕ) → count_by (λ k. ltb (ranked a n k) m) (range_with_len a n) ≡ min m n
  first_ones a zero m = omega arith
  first_ones a (suc n) m =
      let t = count_same (λ k. ltb (ranked a (suc n) k) m) (λ k. ltb (ranked (a + 1) n k) (m - cond (nat_lt (ranked (a + 1) n a) m) 1 0)) (a + 1) n (shifted a n m) in
      let r = first_ones (a + 1) n (m - cond (nat_lt (ranked (a + 1) n a) m) 1 0) in
      let l = count_by-le-length (λ j. before j a) (range_with_len (a + 1) n) in
      let s = length-range_with_len (a + 1) n in
      count_cons (λ k. ltb (ranked a (suc n) k) m) a n ∙ rw (own a n, t, r) (grind (arith, nat_tests))

  -- two numbers that have as many before them are one
  pub distinct : (n j k : ℕ) → j < n → k < n → ranked 0 n j ≡ ranked 0 n k → j ≡ k
  distinct n j k u v e = ⊎_elim (λ s. s) (λ ne. absurd (⊎_elim (λ t. one_way j k u v t e) (λ f. one_way k j v u (o.either j k ne f) (sym e)) (cases_Bool (before j k)))) (cases_eq j k)
    where
      one_way : (x y : ℕ) → x < n → y < n → before x y ≡ true → ranked 0 n x ≢ ranked 0 n y
      one_way x y u v t e = omega (arith, count_lt (λ i. before i x) (λ i. before i y) 0 n x (λ i s. o.chain i x y s t) (omega arith) (omega arith) (o.not_self x) t)

  -- the first m are not all, where m is below n
  pub not_all : (n m : ℕ) → m < n → ((k : ℕ) → k < n → ranked 0 n k < m) → ⊥
  not_all n m h all = omega (arith, count_all 0 n, first_ones 0 n m, count_within (λ k. true) (λ k. ltb (ranked 0 n k) m) 0 n (λ k l u t. lt-ltb _ _ (all k (omega arith))))

  -- a number that is not among the first m, while all before it are, has m before it
  pub next : (n m k : ℕ) → m < n → m ≤ ranked 0 n k → ((j : ℕ) → j < n → before j k ≡ true → ranked 0 n j < m) → ranked 0 n k ≡ m
  next n m k h l all = omega (arith, first_ones 0 n m, count_within (λ j. before j k) (λ j. ltb (ranked 0 n j) m) 0 n (λ j a u t. lt-ltb _ _ (all j (omega arith) t)))
