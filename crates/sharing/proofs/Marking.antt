-- To mark the first of the largest remainders that are not marked is to mark the members in the order of their ranks.
use Rattle.std.proofs.Common.{◌≡◌, ℕ, ◌+◌, ◌<◌, ◌≤◌, Bool, true, cond, ◌&&◌, eqb, ltb, List, length, get_or, set, ℤ, pos, negsuc, nat_abs, ◌≤ℤ◌, ◌<ℤ◌, sym, ap, ◌∙◌, ⊎_elim, arith}
use Rattle.std.proofs.lemmas.List.{get_or-set_same, get_or-set_other}
use Rattle.std.proofs.lemmas.Int.{ints}
use Rattle.std.proofs.lemmas.Bool.{cases_lt, cases_eq, cond-true, cond-false, lt-ltb, le-ltb, ltb-true, eqb-true, or_cases, and_parts}
use Rattle.std.proofs.lemmas.Bool.Decides.{nat_tests}
use Rattle.sharing.specs.Rules.{outranks, ahead, rank}
use Rattle.sharing.specs.Marks.{FromNil, FirstLargest, Marked, held, mark}
use Rattle.sharing.specs.Ranks.{distinct, not_all, next}
use Rattle.sharing.specs.LawL.{ahead_strict}

-- a number that is not larger, and is less where its place is lower, does not come before the other
not_before : (x y : ℤ) (j k : ℕ) → pos 0 ≤ℤ x → pos 0 ≤ℤ y → x ≤ℤ y → (j < k → x <ℤ y) → outranks (nat_abs x) j (nat_abs y) k ≡ true → ⊥
not_before x y j k nx ny le lt t =
    ⊎_elim (λ b. omega (arith, ints, ltb-true (nat_abs y) (nat_abs x) b)) (λ b. alike (and_parts (eqb (nat_abs x) (nat_abs y)) (ltb j k) b)) (or_cases (ltb (nat_abs y) (nat_abs x)) (eqb (nat_abs x) (nat_abs y) && ltb j k) t)
  where
    alike : (eqb (nat_abs x) (nat_abs y) ≡ true) × (ltb j k ≡ true) → ⊥
    alike p = omega (arith, ints, eqb-true (nat_abs x) (nat_abs y) p.0, lt (ltb-true j k p.1))

-- a rank that is not m is below m where it is below m + 1
one_on : (r m : ℕ) → (r ≡ m → ⊥) → ltb r m ≡ ltb r (m + 1)
one_on r m ne = grind (arith, nat_tests)

module _ (xs ys : List ℤ) (m k : ℕ) (nil : FromNil xs) (some : m < length xs) (same : length ys ≡ length xs)
    (marks : Marked xs m ys) (found : FirstLargest ys k) where
  -- how many come before j
  abbrev ranked : ℕ → ℕ
  ranked j = rank (held xs) (length xs) j

  -- the first m are marked, and the others have their remainder
  is_marked : (j : ℕ) → j < length xs → ranked j < m → get_or ys j (pos 0) ≡ negsuc 0
  is_marked j h l = marks j h ∙ cond-true _ _ _ (lt-ltb _ _ l)

  is_left : (j : ℕ) → j < length xs → m ≤ ranked j → get_or ys j (pos 0) ≡ get_or xs j (pos 0)
  is_left j h l = marks j h ∙ cond-false _ _ _ (le-ltb _ _ l)

  inside : k < length xs
  inside = omega (arith, found.within)

  -- not all are marked, so that the largest is not
  not_marked : m ≤ ranked k
  not_marked = ⊎_elim (λ l. absurd (not_all (ahead (held xs)) (ahead_strict (held xs)) (length xs) m some (λ j h. ⊎_elim (λ i. i) (λ i. absurd (above j h i l)) (cases_lt (ranked j) m)))) (λ l. l) (cases_lt (ranked k) m)
    where
      above : (j : ℕ) → j < length xs → m ≤ ranked j → ranked k < m → ⊥
      above j h i l = omega (arith, ints, is_marked k inside l, is_left j h i, nil j h, found.largest j (omega arith))

  -- and all that come before it are marked
  before_marked : (j : ℕ) → j < length xs → ahead (held xs) j k ≡ true → ranked j < m
  before_marked j h t = ⊎_elim (λ l. l) (λ l. absurd (none l)) (cases_lt (ranked j) m)
    where
      none : m ≤ ranked j → ⊥
      none l =
          let left-j = is_left j h l in let left-k = is_left k inside not_marked in
          not_before (get_or xs j (pos 0)) (get_or xs k (pos 0)) j k (nil j h) (nil k inside) (omega (arith, ints, found.largest j (omega arith))) (λ i. omega (arith, ints, found.first j i)) t

  -- so it is the next in rank
  picked : ranked k ≡ m
  picked = next (ahead (held xs)) (ahead_strict (held xs)) (length xs) m k some not_marked before_marked

  -- and with it one more is marked
  pub marked_more : Marked xs (m + 1) (set ys k (negsuc 0))
  marked_more j h = ⊎_elim (λ e. at e) (λ ne. past ne) (cases_eq j k)
    where
      at : j ≡ k → get_or (set ys k (negsuc 0)) j (pos 0) ≡ mark xs (m + 1) j
      at e =
          ap (λ (i : ℕ). get_or (set ys k (negsuc 0)) i (pos 0)) e ∙ get_or-set_same ys k (negsuc 0) (pos 0) found.within
          ∙ sym (cond-true _ _ _ (lt-ltb (ranked j) (m + 1) (omega (arith, picked, ap ranked e))))

      past : (j ≡ k → ⊥) → get_or (set ys k (negsuc 0)) j (pos 0) ≡ mark xs (m + 1) j
      past ne =
          get_or-set_other ys k j (negsuc 0) (pos 0) ne ∙ marks j h
          ∙ ap (λ (b : Bool). cond b (negsuc 0) (get_or xs j (pos 0))) (one_on (ranked j) m (λ e. ne (distinct (ahead (held xs)) (ahead_strict (held xs)) (length xs) j k h inside (e ∙ sym picked))))
