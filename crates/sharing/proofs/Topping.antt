-- What the lists of rule L's code come to: the remainders, the marks and the parts.
use Rattle.std.proofs.Common.{◌≡◌, ℕ, ◌/◌, ◌<◌, Bool, true, false, cond, ltb, List, map, length, get_or, ℤ, pos, negsuc, ◌+ℤ◌, nat_abs, sum_by, sum, sym, refl, ap, ◌∙◌, ap₂, ⊎_elim, mul-div_cancel, arith}
use native.Mathlib.Nat.{div-zero}
use lib.Signed.{lt_z}
use Rattle.std.proofs.lemmas.List.FromFn.{fill_by_all}
use Rattle.std.proofs.lemmas.List.{get_or-map, length-map}
use Rattle.std.proofs.lemmas.List.Sums.{sum-map}
use Rattle.std.proofs.lemmas.Bool.{cases_lt, le-ltb}
use Rattle.sharing.specs.Rules.{members, rounded_down, remainder, outranks, ahead, rank, left_over, part_l, parts_l}
use Rattle.sharing.specs.Marks.{RemaindersOf, Marked, Topped, held, mark, topped}
use Rattle.sharing.specs.Ranks.{count_same}
use Rattle.sharing.specs.LawL.{leftover, left_none}

-- a remainder is no mark
not_below_lem : (n : ℕ) → lt_z (pos n) (pos 0) ≡ false
not_below_lem n = le-ltb n 0 (omega arith)

module _ (s : ℤ) (ws : List ℕ) (xs : List ℤ) (same : length ws ≡ length xs) (rests : RemaindersOf s ws xs) where
  -- they add up to all remainders
  all_rests : sum_by nat_abs xs ≡ sum_by (remainder s ws) (members ws)
  all_rests =
      sym (sum-map nat_abs xs) ∙ ap sum (fill_by_all (remainder s ws) (map nat_abs xs) (length ws) 0 (length-map xs nat_abs ∙ sym same) (λ k h. get_or-map nat_abs xs k (pos 0) 0 (omega arith) ∙ ap nat_abs (rests k (omega arith)))) ∙ sum-map (remainder s ws) (members ws)

  -- and make up W as often as kuruş are left over
  pub spare_is : sum_by nat_abs xs / sum ws ≡ left_over s ws
  spare_is = ap (λ (n : ℕ). n / sum ws) all_rests ∙ ⊎_elim (λ p. ap (λ (n : ℕ). n / sum ws) (sym (leftover s ws p).1) ∙ mul-div_cancel (left_over s ws) p) (λ z. none (omega arith)) (cases_lt 0 (sum ws))
    where
      none : sum ws ≡ 0 → sum_by (remainder s ws) (members ws) / sum ws ≡ left_over s ws
      none e = ap (λ (n : ℕ). sum_by (remainder s ws) (members ws) / n) e ∙ div-zero _ ∙ sym (left_none s ws e)

  -- the members rank by xs as by their remainders
  same_rank : (k : ℕ) → k < length xs → rank (held xs) (length xs) k ≡ rank (remainder s ws) (length ws) k
  same_rank k h =
      count_same (λ j. ahead (held xs) j k) (λ j. ahead (remainder s ws) j k) 0 (length xs) (λ j l u. ap₂ (λ (a b : ℕ). outranks a j b k) (ap nat_abs (rests j (omega arith))) (ap nat_abs (rests k h)))
      ∙ ap (λ (n : ℕ). rank (remainder s ws) n k) (sym same)

  -- a member is marked where its part is one more
  topped_is : (marks : List ℤ) (k : ℕ) → k < length xs → get_or marks k (pos 0) ≡ mark xs (left_over s ws) k → topped s ws marks k ≡ part_l s ws k
  topped_is marks k h f =
      ap (λ (b : Bool). rounded_down s ws k +ℤ pos (cond b 1 0)) (ap (λ (z : ℤ). lt_z z (pos 0)) f ∙ sign (ltb (rank (held xs) (length xs) k) (left_over s ws)) ∙ ap (λ (n : ℕ). ltb n (left_over s ws)) (same_rank k h))
    where
      sign : (b : Bool) → lt_z (cond b (negsuc 0) (get_or xs k (pos 0))) (pos 0) ≡ b
      sign true = refl
      sign false = ap (λ (z : ℤ). lt_z z (pos 0)) (rests k h) ∙ not_below_lem (remainder s ws k)

  -- so the list of parts is the rule's
  pub parts_are : (marks ys : List ℤ) → length ys ≡ length xs → Marked xs (left_over s ws) marks → Topped s ws marks ys → ys ≡ parts_l s ws
  parts_are marks ys long m t =
      fill_by_all (part_l s ws) ys (length ws) (pos 0) (omega arith) (λ k h. t k (omega arith) ∙ topped_is marks k (omega arith) (m k (omega arith)))
