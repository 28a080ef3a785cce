-- Rule L keeps the sharing law.
use Rattle.std.specs.Prelude.{◌≡◌, ℕ, ◌+◌, ◌*◌, ◌<◌, ◌≤◌, Bool, cond, ltb, List, length, ℤ, pos, ◌+ℤ◌, ◌-ℤ◌, ◌*ℤ◌, ◌≤ℤ◌, sum_by, sum, count_by, nat_lt, slice_index, slice_index_or, unsigned_abs, refl}
use Rattle.std.proofs.Common.{arith, le_of_mul-le-mul_right, sym, ◌∙◌, ap, subst, inl, inr, ⊎_elim}
use Rattle.std.proofs.lemmas.List.FromFn.{length-range_with_len, length-map-range_with_len, get_or-map-range_with_len}
use Rattle.std.proofs.lemmas.List.{get_or_past}
use Rattle.std.proofs.lemmas.List.Sums.{count_by-le-length, get_or-le-sum_by}
use Rattle.std.proofs.lemmas.Int.{ints}
use Rattle.std.proofs.lemmas.Bool.{cases_lt, cases_Bool, lt-ltb, le-ltb, ltb-true}
use Rattle.std.proofs.lemmas.Bool.Decides.{nat_tests}
use Rattle.integers.specs.Floor.{floor_div, floor_mod}
use Rattle.integers.specs.Sums.{int_sum_by}
use Rattle.integers.proofs.Ring.{minus_times, times_nil, nil_times}
use Rattle.integers.proofs.Order.{times_cancel_le}
use Rattle.integers.proofs.Floor.{floor_rest, rest_below}
use Rattle.integers.proofs.Sums.{sum_map, sum_same, sum_plus, sum_times, sum_pos}
use Rattle.sharing.specs.Law.{Rounded, SharingLaw}
use Rattle.sharing.specs.Rules.{members, rounded_down, remainder, ahead, rank, left_over, part_l, parts_l}
use Rattle.integers.proofs.Places.{sum_places, spread, sum_le_some, count_mono}
use Rattle.sharing.specs.Ranks.{Strict, first_ones}

-- to come before is a strict order
pub ahead_strict : (r : ℕ → ℕ) → Strict (ahead r)
ahead_strict r = record {
  not_self = λ k. grind (arith, nat_tests);
  chain = λ i j k p q. grind (arith, nat_tests);
  either = λ j k ne f. grind (arith, nat_tests);
}

-- s × W is the parts rounded down × W, and the remainders
exact : (s : ℤ) (ws : List ℕ) → 0 < sum ws → int_sum_by (rounded_down s ws) (members ws) *ℤ pos (sum ws) +ℤ pos (sum_by (remainder s ws) (members ws)) ≡ s *ℤ pos (sum ws)
unfolding rounded_down remainder
exact s ws p =
    let m = members ws in
    let w : ℕ → ℤ = λ k. s *ℤ pos (slice_index ws k) in
    omega (arith, ints, sum_times (rounded_down s ws) (pos (sum ws)) m, sum_pos (remainder s ws) m, sum_plus (λ k. rounded_down s ws k *ℤ pos (sum ws)) (λ k. pos (remainder s ws k)) m, sum_same (λ k. rounded_down s ws k *ℤ pos (sum ws) +ℤ pos (remainder s ws k)) w (λ k. floor_rest (w k) (sum ws) p) m, spread s (λ k. slice_index ws k) m, ap (λ (n : ℕ). s *ℤ pos n) (sum_places ws))

-- what is left over is missing of s, and is a W-th of the remainders
pub leftover : (s : ℤ) (ws : List ℕ) → 0 < sum ws → (s ≡ int_sum_by (rounded_down s ws) (members ws) +ℤ pos (left_over s ws)) × (left_over s ws * sum ws ≡ sum_by (remainder s ws) (members ws))
unfolding left_over
leftover s ws p =
    let all = int_sum_by (rounded_down s ws) (members ws) in
    let e = exact s ws p in
    let d = minus_times s all (pos (sum ws)) in
    let h : pos 0 ≤ℤ (s -ℤ all) = times_cancel_le (pos 0) (s -ℤ all) (sum ws) p (omega (arith, ints, nil_times (pos (sum ws)))) in
    let n : pos (unsigned_abs (s -ℤ all)) ≡ s -ℤ all = omega (arith, ints) in
    rw (lt-ltb 0 (sum ws) p) (omega (arith, ints), omega (arith, ints, ap (λ (z : ℤ). z *ℤ pos (sum ws)) n))

-- a remainder is below W
pub rest_lt : (s : ℤ) (ws : List ℕ) (k : ℕ) → 0 < sum ws → remainder s ws k < sum ws
unfolding remainder
rest_lt s ws k p = rest_below (s *ℤ pos (slice_index ws k)) (sum ws) p

-- at least as many members have a remainder as are left over
some_rest : (s : ℤ) (ws : List ℕ) → 0 < sum ws → left_over s ws ≤ count_by (λ k. ltb 0 (remainder s ws k)) (members ws)
some_rest s ws p =
    le_of_mul-le-mul_right (omega (arith, (leftover s ws p).1, sum_le_some (remainder s ws) (sum ws) (λ k. omega (arith, rest_lt s ws k p)) (members ws))) p

-- no more is left over than there are members
pub left_le : (s : ℤ) (ws : List ℕ) → 0 < sum ws → left_over s ws ≤ length ws
left_le s ws p =
    omega (arith, some_rest s ws p, count_by-le-length (λ k. ltb 0 (remainder s ws k)) (members ws), length-range_with_len 0 (length ws))

-- who gets one more has a remainder
part_l_rest : (s : ℤ) (ws : List ℕ) (k : ℕ) → 0 < sum ws → rank (remainder s ws) (length ws) k < left_over s ws → 0 < remainder s ws k
part_l_rest s ws k p h =
    ⊎_elim (λ l. l) (λ z. absurd (omega (arith, some_rest s ws p, count_mono (λ j. ltb 0 (remainder s ws j)) (λ j. ahead (remainder s ws) j k) (λ j e. grind (arith, nat_tests)) (members ws)))) (cases_lt 0 (remainder s ws k))

-- a part is near the exact share
part_l_near : (s : ℤ) (ws : List ℕ) (k : ℕ) → 0 < sum ws → Rounded (s *ℤ pos (slice_index ws k)) (sum ws) (part_l s ws k)
unfolding rounded_down remainder
part_l_near s ws k p =
    ⊎_elim (λ t. rw t (inr (record { one_more = refl; remains = part_l_rest s ws k p (ltb-true _ _ t) }))) (λ f. rw f (inl (omega (arith, ints)))) (cases_Bool (nat_lt (rank (remainder s ws) (length ws) k) (left_over s ws)))

-- the parts add up to s
part_l_all : (s : ℤ) (ws : List ℕ) → 0 < sum ws → int_sum_by (part_l s ws) (members ws) ≡ s
part_l_all s ws p =
    let one : ℕ → ℕ = λ k. cond (nat_lt (rank (remainder s ws) (length ws) k) (left_over s ws)) 1 0 in
    omega (arith, ints, sum_plus (rounded_down s ws) (λ k. pos (one k)) (members ws), sum_pos one (members ws), first_ones (ahead (remainder s ws)) (ahead_strict (remainder s ws)) 0 (length ws) (left_over s ws), left_le s ws p, (leftover s ws p).0)

-- with no weight a part is nil
part_l_nil : (s : ℤ) (ws : List ℕ) (k : ℕ) → sum ws ≡ 0 → k < length ws → part_l s ws k ≡ pos 0
unfolding rounded_down left_over
part_l_nil s ws k e h =
    let w : slice_index_or ws k 0 ≡ 0 = omega (arith, get_or-le-sum_by (λ x. x) ws k 0 h) in
    let z : floor_div (s *ℤ pos 0) 0 ≡ pos 0 = ap (λ (z : ℤ). floor_div z 0) (times_nil s) in
    rw (w, e, z) (ap (λ (b : Bool). pos (0 + cond b 1 0)) (le-ltb (rank (remainder s ws) (length ws) k) 0 (omega arith)))

pub law_l : SharingLaw parts_l
law_l = record {
  one_each = λ s ws. length-map-range_with_len (part_l s ws) 0 (length ws);
  whole = λ s ws p. sum_map (λ z. z) (part_l s ws) (members ws) ∙ part_l_all s ws p;
  near = λ s ws k p h. subst (Rounded (s *ℤ pos (slice_index ws k)) (sum ws)) (sym (get_or-map-range_with_len (part_l s ws) 0 (length ws) k k (pos 0) h (omega arith))) (part_l_near s ws k p);
  nothing = λ s ws k e. ⊎_elim (λ h. get_or-map-range_with_len (part_l s ws) 0 (length ws) k k (pos 0) h (omega arith) ∙ part_l_nil s ws k e h)
      (λ h. get_or_past (parts_l s ws) k (pos 0) (rw (length-map-range_with_len (part_l s ws) 0 (length ws)) h)) (cases_lt k (length ws));
}

-- what the code computes for a member, where total is the sum of the weights
module _ (s : ℤ) (ws : List ℕ) (k all : ℕ) (e : all ≡ sum ws) where
  pub low_here : floor_div (s *ℤ pos (slice_index ws k)) all ≡ rounded_down s ws k
  unfolding rounded_down
  low_here = ap (floor_div (s *ℤ pos (slice_index ws k))) e

  pub rest_here : floor_mod (s *ℤ pos (slice_index ws k)) all ≡ remainder s ws k
  unfolding remainder
  rest_here = ap (floor_mod (s *ℤ pos (slice_index ws k))) e

-- with no weight nothing is left over
pub left_none : (s : ℤ) (ws : List ℕ) → sum ws ≡ 0 → left_over s ws ≡ 0
unfolding left_over
left_none s ws e = rw e

-- a remainder is at most W, whatever W is
pub rest_le : (s : ℤ) (ws : List ℕ) (k : ℕ) → k < length ws → remainder s ws k ≤ sum ws
unfolding remainder
rest_le s ws k h = ⊎_elim (λ p. omega (arith, rest_lt s ws k p)) (λ z. omega (arith, none (omega arith))) (cases_lt 0 (sum ws))
  where
    none : sum ws ≡ 0 → remainder s ws k ≡ 0
    none e =
        let w : slice_index_or ws k 0 ≡ 0 = omega (arith, get_or-le-sum_by (λ x. x) ws k 0 h) in
        rw (w, e) (ap (λ (z : ℤ). floor_mod z 0) (times_nil s))
