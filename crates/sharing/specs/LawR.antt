-- Rule R keeps the sharing law.
use Rattle.std.specs.Prelude.{◌≡◌, ℕ, ◌+◌, ◌<◌, List, length, take, ℤ, pos, ◌+ℤ◌, ◌-ℤ◌, ◌*ℤ◌, sum, slice_index}
use Rattle.std.proofs.Common.{arith, zero-add, sym, ◌∙◌, ap, subst, ⊎_elim}
use Rattle.std.proofs.lemmas.List.FromFn.{length-map-range_with_len, get_or-map-range_with_len}
use Rattle.std.proofs.lemmas.List.{get_or_past, take_all}
use Rattle.std.proofs.lemmas.List.Sums.{sum_by_more, sum_by-take-le}
use Rattle.std.proofs.lemmas.Int.{ints}
use Rattle.std.proofs.lemmas.Bool.{cases_lt}
use Rattle.integers.specs.Floor.{floor_div}
use Rattle.integers.proofs.Ring.{times_pos_plus, times_nil}
use Rattle.integers.proofs.Floor.{floor_whole, floor_nil}
use Rattle.integers.proofs.Sums.{sum_map}
use Rattle.sharing.specs.Law.{Rounded, SharingLaw}
use Rattle.sharing.specs.Rules.{reached, part_r, parts_r, members}
use Rattle.integers.proofs.Places.{telescope}
use Rattle.sharing.specs.Rounds.{step_rounded}

-- the first k + 1 have what the first k have, and the share of the next
reached_more : (s : ℤ) (ws : List ℕ) (k : ℕ) → k < length ws → reached s ws (k + 1) ≡ floor_div (s *ℤ pos (sum (take k ws)) +ℤ s *ℤ pos (slice_index ws k)) (sum ws)
unfolding reached
reached_more s ws k h =
    ap (λ (n : ℕ). floor_div (s *ℤ pos n) (sum ws)) (sum_by_more (λ x. x) ws k 0 h) ∙ ap (λ (z : ℤ). floor_div z (sum ws)) (times_pos_plus s (sum (take k ws)) (slice_index ws k))

-- a part is near the exact share
part_r_near : (s : ℤ) (ws : List ℕ) (k : ℕ) → 0 < sum ws → k < length ws → Rounded (s *ℤ pos (slice_index ws k)) (sum ws) (part_r s ws k)
unfolding reached
part_r_near s ws k p h = rw (reached_more s ws k h) (step_rounded (s *ℤ pos (sum (take k ws))) (s *ℤ pos (slice_index ws k)) (sum ws) p)

-- nothing is reached before the first member, and all of s with the last
pub first : (s : ℤ) (ws : List ℕ) → reached s ws 0 ≡ pos 0
unfolding reached
first s ws = ap (λ (z : ℤ). floor_div z (sum ws)) (times_nil s) ∙ floor_nil (sum ws)

last : (s : ℤ) (ws : List ℕ) → 0 < sum ws → reached s ws (length ws) ≡ s
unfolding reached
last s ws p = rw (take_all (length ws) ws (omega arith)) (floor_whole s (sum ws) p)

-- with no weight nothing is reached
empty : (s : ℤ) (ws : List ℕ) (k : ℕ) → sum ws ≡ 0 → reached s ws k ≡ pos 0
unfolding reached
empty s ws k e =
    let n : sum (take k ws) ≡ 0 = omega (arith, sum_by-take-le (λ x. x) ws k) in
    rw (n, e) (ap (λ (z : ℤ). floor_div z 0) (times_nil s))

pub law_r : SharingLaw parts_r
law_r = record {
  one_each = λ s ws. length-map-range_with_len (part_r s ws) 0 (length ws);
  whole = λ s ws p. sum_map (λ z. z) (part_r s ws) (members ws) ∙ telescope (reached s ws) 0 (length ws) ∙ ends s ws p;
  near = λ s ws k p h. subst (Rounded (s *ℤ pos (slice_index ws k)) (sum ws)) (sym (get_or-map-range_with_len (part_r s ws) 0 (length ws) k k (pos 0) h (omega arith))) (part_r_near s ws k p h);
  nothing = λ s ws k e. ⊎_elim (λ h. get_or-map-range_with_len (part_r s ws) 0 (length ws) k k (pos 0) h (omega arith) ∙ omega (arith, ints, empty s ws k e, empty s ws (k + 1) e))
      (λ h. get_or_past (parts_r s ws) k (pos 0) (rw (length-map-range_with_len (part_r s ws) 0 (length ws)) h)) (cases_lt k (length ws));
}
  where
    ends : (s : ℤ) (ws : List ℕ) → 0 < sum ws → reached s ws (0 + length ws) -ℤ reached s ws 0 ≡ s
    ends s ws p = omega (arith, ints, ap (reached s ws) (zero-add (length ws)), first s ws, last s ws p)

-- what the code adds up to, where it has come to
pub reached_here : (s : ℤ) (ws : List ℕ) (k running : ℕ) → k < length ws → running ≡ sum (take k ws) → floor_div (s *ℤ pos (running + slice_index ws k)) (sum ws) ≡ reached s ws (k + 1)
unfolding reached
reached_here s ws k running h e = ap (λ (n : ℕ). floor_div (s *ℤ pos n) (sum ws)) (omega (arith, sum_by_more (λ x. x) ws k 0 h))
