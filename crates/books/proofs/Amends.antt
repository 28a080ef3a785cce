-- The list of a correction layer.
use Rattle.std.proofs.Common.{◌≡◌, ℕ, zero, suc, ◌+◌, ◌<◌, ◌≤◌, true, false, cond, eqb, ◌⊎◌, List, [], ◌∷◌, ◌++◌, length, Some, None, Ok, Err, Option, Result, sym, refl, ap, ◌∙◌, inl, inr, ⊎_elim, add-zero, add-suc, suc-add, zero-add, arith}
use Rattle.std.specs.Map.{update}
use Rattle.std.specs.List.{slice_get}
use Rattle.std.proofs.lemmas.Bool.{eq-eqb, ne_eqb, cond-true, cond-false, cond_both}
use Rattle.faults.specs.declared.making.MakingFault.TheVariants.{Volume}
use Rattle.faults.specs.declared.fault.Fault.{Fault}
use Rattle.faults.specs.declared.fault.Fault.TheVariants.{Making, NoPosting, CorrectionsFull}
use Rattle.faults.proofs.Asks.{AllDecided, decided_ask, true_or_not, lt_or_not}
use Rattle.postings.specs.declared.row.PostingRow.{PostingRow}
use Rattle.postings.specs.Volumes.{volume_allowed, with_volume}
use Rattle.books.specs.declared.corrections.Corrections.{Corrections}
use Rattle.books.specs.Books.{Posted}
use Rattle.books.specs.Layers.{amend, amended, with_volume_at, among, RoomFor, allowed_at, to_correct, volume_at, corrected_places, layered, Noted, Corrects}
use Rattle.books.proofs.Places.{some_below, below_some}

pub length_amended : (f : ℕ → Option ℕ) (i : ℕ) (rs : List PostingRow) → length (amended f i rs) ≡ length rs
length_amended f i [] = refl
length_amended f i (r ∷ rs) = ap suc (length_amended f (suc i) rs)

-- the row at a place is the lower one, at the volume noted for that place
abbrev pub amended_at : (ℕ → Option ℕ) → ℕ → Option PostingRow → Option PostingRow
amended_at f i None = None
amended_at f i (Some r) = Some (amend r (f i))

nth_from : (f : ℕ → Option ℕ) (i : ℕ) (rs : List PostingRow) (k : ℕ) → slice_get (amended f i rs) k ≡ amended_at f (i + k) (slice_get rs k)
nth_from f i [] k = refl
nth_from f i (r ∷ rs) zero = ap (λ (j : ℕ). Some (amend r (f j))) (sym (add-zero i))
nth_from f i (r ∷ rs) (suc k) =
    nth_from f (suc i) rs k ∙ ap (λ (j : ℕ). amended_at f j (slice_get rs k)) (suc-add i k ∙ sym (add-suc i k))

pub nth_amended : (f : ℕ → Option ℕ) (rs : List PostingRow) (k : ℕ) → slice_get (amended f 0 rs) k ≡ amended_at f k (slice_get rs k)
nth_amended f rs k = nth_from f 0 rs k ∙ ap (λ (j : ℕ). amended_at f j (slice_get rs k)) (zero-add k)

-- where f and g agree at the places of the rows, the lists are one
same_from : (f g : ℕ → Option ℕ) (i : ℕ) (rs : List PostingRow) → ((k : ℕ) → i ≤ k → k < i + length rs → f k ≡ g k) → amended f i rs ≡ amended g i rs
same_from f g i [] h = refl
same_from f g i (r ∷ rs) h =
    ap (λ (o : Option ℕ). amend r o ∷ amended f (suc i) rs) (h i (omega arith) (omega arith))
    ∙ ap (λ (xs : List PostingRow). amend r (g i) ∷ xs) (same_from f g (suc i) rs (λ k a b. h k (omega arith) (omega arith)))

push_from : (f : ℕ → Option ℕ) (i : ℕ) (rs : List PostingRow) (r : PostingRow) → amended f i (rs ++ (r ∷ [])) ≡ amended f i rs ++ (amend r (f (i + length rs)) ∷ [])
push_from f i [] r = ap (λ (j : ℕ). amend r (f j) ∷ []) (sym (add-zero i))
push_from f i (x ∷ rs) r =
    ap (λ (xs : List PostingRow). amend x (f i) ∷ xs)
    (push_from f (suc i) rs r ∙ ap (λ (j : ℕ). amended f (suc i) rs ++ (amend r (f j) ∷ [])) (suc-add i (length rs) ∙ sym (add-suc i (length rs))))

-- a row that is posted where no place is corrected enters as it is, and the others stay
pub amended_push : (f : ℕ → Option ℕ) (rs : List PostingRow) (r : PostingRow) → f (length rs) ≡ None → amended f 0 (rs ++ (r ∷ [])) ≡ amended f 0 rs ++ (r ∷ [])
amended_push f rs r here =
    push_from f 0 rs r
    ∙ (ap (λ (j : ℕ). amended f 0 rs ++ (amend r (f j) ∷ [])) (zero-add (length rs))
    ∙ ap (λ (o : Option ℕ). amended f 0 rs ++ (amend r o ∷ [])) here)

-- no correction changes nothing
pub amended_none : (f : ℕ → Option ℕ) (i : ℕ) (rs : List PostingRow) → ((k : ℕ) → f k ≡ None) → amended f i rs ≡ rs
amended_none f i [] h = refl
amended_none f i (r ∷ rs) h =
    ap (λ (o : Option ℕ). amend r o ∷ amended f (suc i) rs) (h i) ∙ ap (λ (xs : List PostingRow). r ∷ xs) (amended_none f (suc i) rs h)

-- the volume at one place is replaced
again : (r : PostingRow) (o : Option ℕ) (v : ℕ) → volume_allowed r v ≡ true → amend r (Some v) ≡ with_volume (amend r o) v
again r None v h = cond-true _ _ _ h
again r (Some w) v h =
    cond-true _ _ _ h ∙ (elim (volume_allowed r w) as (λ b. with_volume r v ≡ with_volume (cond b (with_volume r w) r) v) [ true ↦ refl | false ↦ refl ])

replaced_from : (f g : ℕ → Option ℕ) (i p v : ℕ) (rs : List PostingRow) (r : PostingRow) → slice_get rs p ≡ Some r → volume_allowed r v ≡ true → ((q : ℕ) → g q ≡ update eqb f (i + p) (Some v) q) → amended g i rs ≡ with_volume_at (amended f i rs) p v
replaced_from f g i p v [] r e h u = refl
replaced_from f g i zero v (x ∷ rs) r e h u =
    let same : x ≡ r = cc in
    let allows : volume_allowed x v ≡ true = ap (λ (y : PostingRow). volume_allowed y v) same ∙ h in
    let here : g i ≡ Some v = u i ∙ cond-true _ _ _ (eq-eqb (i + 0) i (omega arith)) in
    ap (λ (y : PostingRow). y ∷ amended g (suc i) rs) (ap (amend x) here ∙ again x (f i) v allows)
    ∙ ap (λ (xs : List PostingRow). with_volume (amend x (f i)) v ∷ xs)
    (same_from g f (suc i) rs (λ k a b. u k ∙ cond-false _ _ _ (ne_eqb (i + 0) k (λ q. omega arith))))
replaced_from f g i (suc p) v (x ∷ rs) r e h u =
    ap (λ (o : Option ℕ). amend x o ∷ amended g (suc i) rs) (u i ∙ cond-false _ _ _ (ne_eqb (i + suc p) i (λ q. omega arith)))
    ∙ ap (λ (xs : List PostingRow). amend x (f i) ∷ xs)
    (replaced_from f g (suc i) p v rs r e h (λ q. u q ∙ ap (λ (j : ℕ). update eqb f j (Some v) q) (add-suc i p ∙ sym (suc-add i p))))

pub replaced : (f g : ℕ → Option ℕ) (p v : ℕ) (rs : List PostingRow) (r : PostingRow) → slice_get rs p ≡ Some r → volume_allowed r v ≡ true → ((q : ℕ) → g q ≡ update eqb f p (Some v) q) → amended g 0 rs ≡ with_volume_at (amended f 0 rs) p v
replaced f g p v rs r e h u =
    replaced_from f g 0 p v rs r e h (λ q. u q ∙ ap (λ (j : ℕ). update eqb f j (Some v) q) (sym (zero-add p)))

-- what the layer answers at a place, by what the lower book answers
pub at_none : (f : ℕ → Option ℕ) (rs : List PostingRow) (k : ℕ) → None ≡ slice_get rs k → None ≡ slice_get (amended f 0 rs) k
at_none f rs k e = ap (amended_at f k) e ∙ sym (nth_amended f rs k)

pub at_some : (f : ℕ → Option ℕ) (rs : List PostingRow) (k : ℕ) (r x : PostingRow) (o : Option ℕ) → Some r ≡ slice_get rs k → o ≡ f k → x ≡ amend r o → Some x ≡ slice_get (amended f 0 rs) k
at_some f rs k r x o e h d = ap Some (d ∙ ap (amend r) h) ∙ (ap (amended_at f k) e ∙ sym (nth_amended f rs k))

-- a correction's asks, by what the lower book answers
pub no_posting : (f : ℕ → Option ℕ) (rs : List PostingRow) (p : ℕ) → None ≡ slice_get rs p → p < length (amended f 0 rs) → ⊥
no_posting f rs p e h = some_below (amended f 0 rs) p h (at_none f rs p e)

pub posting_there : (f : ℕ → Option ℕ) (rs : List PostingRow) (p : ℕ) (r : PostingRow) → Some r ≡ slice_get rs p → p < length (amended f 0 rs)
posting_there f rs p r e = rw length_amended (below_some rs p r e)

allowed_amend : (r : PostingRow) (o : Option ℕ) (v : ℕ) → volume_allowed (amend r o) v ≡ volume_allowed r v
allowed_amend r None v = refl
allowed_amend r (Some w) v = cond_both (volume_allowed r w) (with_volume r w) r (λ x. volume_allowed x v ≡ volume_allowed r v) (λ e. refl) (λ e. refl)

pub allowed_there : (f : ℕ → Option ℕ) (rs : List PostingRow) (p v : ℕ) (r : PostingRow) → Some r ≡ slice_get rs p → allowed_at (slice_get (amended f 0 rs) p) v ≡ volume_allowed r v
allowed_there f rs p v r e =
    ap (λ (o : Option PostingRow). allowed_at o v) (sym (at_some f rs p r (amend r (f p)) (f p) e refl refl)) ∙ allowed_amend r (f p) v

-- what a correction at a posting's place, with a volume that its kind allows, does to the layer
pub layered_noted : (old new : Corrections) (rs : List PostingRow) (p v : ℕ) (r : PostingRow) (answer : Result (Unit {0}) Fault) → Some r ≡ slice_get rs p → volume_allowed r v ≡ true → Noted old p v answer new
    → Corrects (layered old rs) (corrected_places old) p v answer (layered new rs) (corrected_places new)
layered_noted old new rs p v r (Ok _) at allows n = record {
  met = (posting_there (volume_at old) rs p r at, (allowed_there (volume_at old) rs p v r at ∙ allows, (n.room, tt)));
  after = replaced (volume_at old) (volume_at new) p v rs r (sym at) allows n.volumes;
  places = n.places;
}
layered_noted old new rs p v r (Err fault) at allows n = record {
  refused = inr (posting_there (volume_at old) rs p r at, inr (allowed_there (volume_at old) rs p v r at ∙ allows, inl (n.value, n.room)));
  same = ap (λ (c : Corrections). layered c rs) n.same;
  places = ap corrected_places n.same;
}

-- a correction has one answer
room_or_not : (ps : List ℕ) (p : ℕ) → RoomFor ps p ⊎ (RoomFor ps p → ⊥)
room_or_not ps p =
    ⊎_elim (λ yes. inl (inl yes)) (λ no. ⊎_elim (λ less. inl (inr less)) (λ full. inr (⊎_elim no full)) (lt_or_not (length ps) 32)) (true_or_not (among p ps))

pub correcting_decided : (rs : List PostingRow) (ps : List ℕ) (p v : ℕ) → AllDecided (to_correct rs ps p v)
correcting_decided rs ps p v = (
  decided_ask NoPosting _ (lt_or_not p (length rs)),
  (decided_ask (Making Volume) _ (true_or_not (allowed_at (slice_get rs p) v)), (decided_ask CorrectionsFull _ (room_or_not ps p), tt)),
)

-- what a post does to the lower list it does to the layer's
pub layered_posted : (f : ℕ → Option ℕ) (rs new : List PostingRow) (largest : ℕ) (r : PostingRow) (answer : Result ℕ Fault) → f (length rs) ≡ None → Posted rs largest r answer new → Posted (amended f 0 rs) largest r answer (amended f 0 new)
layered_posted f rs new largest r (Ok place) here p = record {
  met = simp length_amended p.met;
  value = p.value ∙ sym (length_amended f 0 rs);
  after = ap (amended f 0) p.after ∙ amended_push f rs r here;
}
layered_posted f rs new largest r (Err fault) here p = record { refused = simp length_amended p.refused; same = ap (amended f 0) p.same }
