-- Corrections by their places: which one stands first at a place, and the volumes once one is set or put last.
use Rattle.std.proofs.Common.{◌≡◌, ℕ, zero, suc, ◌+◌, ◌<◌, Bool, true, false, cond, eqb, List, [], ◌∷◌, ◌++◌, All, map, drop, length, get_or, set, Some, None, Ok, Err, Option, Result, sym, refl, ap, ◌∙◌, arith}
use Rattle.std.specs.List.{find, position, position_from, refill}
use Rattle.std.specs.Map.{update}
use Rattle.std.specs.Option.{option_map}
use Rattle.std.proofs.lemmas.List.{length-set, take-append-le, take_all}
use Rattle.std.proofs.lemmas.List.Elements.{All-head, All-tail, All-push}
use Rattle.std.proofs.lemmas.Bool.{or_left, or_right, or_from, ne_eqb, cond-false, cond_both}
use Rattle.std.proofs.lemmas.Bool.Decides.{nat_tests}
use Rattle.std.proofs.lemmas.Iterator.Adapters.{position_from-zero}
use Rattle.faults.specs.declared.fault.Fault.{Fault}
use Rattle.books.specs.declared.corrections.Correction.{Correction}
use Rattle.books.specs.declared.corrections.Corrections.{Corrections}
use Rattle.books.specs.Layers.{among, joined, corrected_places, Noted}

-- the correction is of the place p
abbrev pub is_at : ℕ → Correction → Bool
is_at p e = eqb e.place p

-- the latest volume at the place p
abbrev pub noted : ℕ → List Correction → Option ℕ
noted p es = option_map (λ (e : Correction). e.volume) (find (is_at p) es)

abbrev pub places : List Correction → List ℕ
places es = map (λ (e : Correction). e.place) es

-- the first correction of the place p stands at index i
abbrev pub Hit : ℕ → List Correction → ℕ → Type 0
Hit p [] i = ⊥
Hit p (e ∷ es) zero = is_at p e ≡ true
Hit p (e ∷ es) (suc i) = (is_at p e ≡ false) × Hit p es i

-- no correction is of the place p
abbrev pub Missing : ℕ → List Correction → Type 0
Missing p [] = Unit {0}
Missing p (e ∷ es) = (is_at p e ≡ false) × Missing p es

hit_from : (p j : ℕ) (es : List Correction) (i : ℕ) → Some i ≡ position_from (is_at p) j es → (k : ℕ) × (i ≡ j + k) × Hit p es k
hit_from p j [] i e = let z : ◌≡◌ {A = ℕ} 0 1 = cc in absurd (omega arith)
hit_from p j (x ∷ es) i e = step (is_at p x) refl e (hit_from p (j + 1) es i)
  where
    step : (b : Bool) → is_at p x ≡ b → Some i ≡ cond b (Some j) (position_from (is_at p) (j + 1) es)
        → (Some i ≡ position_from (is_at p) (j + 1) es → (k : ℕ) × (i ≡ j + 1 + k) × Hit p es k) → (k : ℕ) × (i ≡ j + k) × Hit p (x ∷ es) k
    step true h f more = let q : i ≡ j = cc in (0, omega arith, h)
    step false h f more = let r = more f in (suc r.0, omega (arith, r.1), (h, r.2))

pub hit : (p : ℕ) (es : List Correction) (i : ℕ) → Some i ≡ position (is_at p) es → Hit p es i
hit p es i e =
    let r = hit_from p 0 es i (e ∙ position_from-zero (is_at p) es) in
    let q : r.0 ≡ i = omega (arith, r.1) in
    rw (sym q) r.2

missing_from : (p j : ℕ) (es : List Correction) → None ≡ position_from (is_at p) j es → Missing p es
missing_from p j [] e = tt
missing_from p j (x ∷ es) e = step (is_at p x) refl e (missing_from p (j + 1) es)
  where
    step : (b : Bool) → is_at p x ≡ b → None ≡ cond b (Some j) (position_from (is_at p) (j + 1) es) → (None ≡ position_from (is_at p) (j + 1) es → Missing p es) → Missing p (x ∷ es)
    step true h f more = let z : ◌≡◌ {A = ℕ} 0 1 = cc in absurd (omega arith)
    step false h f more = (h, more f)

pub missing : (p : ℕ) (es : List Correction) → None ≡ position (is_at p) es → Missing p es
missing p es e = missing_from p 0 es (e ∙ position_from-zero (is_at p) es)

-- equal either way round
flip : (x y : ℕ) → eqb x y ≡ eqb y x
flip x y = grind (arith, nat_tests)

pub among_hit : (p : ℕ) (es : List Correction) (i : ℕ) → Hit p es i → among p (places es) ≡ true
among_hit p [] i h = absurd h
among_hit p (x ∷ es) zero h = or_left (eqb p x.place) (among p (places es)) (flip p x.place ∙ h)
among_hit p (x ∷ es) (suc i) h = or_right (eqb p x.place) (among p (places es)) (among_hit p es i h.1)

pub among_missing : (p : ℕ) (es : List Correction) → Missing p es → among p (places es) ≡ false
among_missing p [] h = refl
among_missing p (x ∷ es) h = or_from (eqb p x.place) (among p (places es)) (flip p x.place ∙ h.0) (among_missing p es h.1)

-- one correction more before others
noted_cons : (q : ℕ) (e : Correction) (es : List Correction) → noted q (e ∷ es) ≡ cond (is_at q e) (Some e.volume) (noted q es)
noted_cons q e es =
    elim (is_at q e) as (λ b. option_map (λ (d : Correction). d.volume) (cond b (Some e) (find (is_at q) es)) ≡ cond b (Some e.volume) (noted q es)) [ true ↦ refl | false ↦ refl ]

one_here : (p q w x v : ℕ) (o : Option ℕ) → eqb x p ≡ true → cond (eqb x q) (Some w) o ≡ cond (eqb p q) (Some w) (cond (eqb x q) (Some v) o)
one_here p q w x v o e = grind (arith, nat_tests)

one_step : (p q w x v : ℕ) (o : Option ℕ) → eqb x p ≡ false → cond (eqb x q) (Some v) (cond (eqb p q) (Some w) o) ≡ cond (eqb p q) (Some w) (cond (eqb x q) (Some v) o)
one_step p q w x v o e = grind (arith, nat_tests)

-- the correction at index i with another volume
abbrev pub at_volume_of : Correction → ℕ → Correction
at_volume_of e w = record { place = e.place; volume = w }

pub noted_set : (p w q : ℕ) (es : List Correction) (i : ℕ) (d : Correction) → Hit p es i → noted q (set es i (at_volume_of (get_or es i d) w)) ≡ update eqb (λ r. noted r es) p (Some w) q
noted_set p w q [] i d h = absurd h
noted_set p w q (x ∷ es) zero d h =
    noted_cons q (at_volume_of x w) es ∙ one_here p q w x.place x.volume (noted q es) h
    ∙ ap (λ (o : Option ℕ). cond (eqb p q) (Some w) o) (sym (noted_cons q x es))
noted_set p w q (x ∷ es) (suc i) d h =
    noted_cons q x (set es i (at_volume_of (get_or es i d) w)) ∙ ap (λ (o : Option ℕ). cond (is_at q x) (Some x.volume) o) (noted_set p w q es i d h.1)
    ∙ one_step p q w x.place x.volume (noted q es) h.0
    ∙ ap (λ (o : Option ℕ). cond (eqb p q) (Some w) o) (sym (noted_cons q x es))

pub places_set : (w : ℕ) (es : List Correction) (i : ℕ) (d : Correction) → places (set es i (at_volume_of (get_or es i d) w)) ≡ places es
places_set w [] i d = refl
places_set w (x ∷ es) zero d = refl
places_set w (x ∷ es) (suc i) d = ap (λ (ps : List ℕ). x.place ∷ ps) (places_set w es i d)

pub noted_push : (p w q : ℕ) (es : List Correction) → Missing p es → noted q (es ++ (record { place = p; volume = w } ∷ [])) ≡ update eqb (λ r. noted r es) p (Some w) q
noted_push p w q [] m = noted_cons q (record { place = p; volume = w }) []
noted_push p w q (x ∷ es) m =
    noted_cons q x (es ++ (record { place = p; volume = w } ∷ [])) ∙ ap (λ (o : Option ℕ). cond (is_at q x) (Some x.volume) o) (noted_push p w q es m.1)
    ∙ one_step p q w x.place x.volume (noted q es) m.0
    ∙ ap (λ (o : Option ℕ). cond (eqb p q) (Some w) o) (sym (noted_cons q x es))

pub places_push : (es : List Correction) (e : Correction) → places (es ++ (e ∷ [])) ≡ places es ++ (e.place ∷ [])
places_push [] e = refl
places_push (x ∷ es) e = ap (λ (ps : List ℕ). x.place ∷ ps) (places_push es e)

-- what is written through a slice of all the corrections is what they are then
pub refill_set : (es : List Correction) (i : ℕ) (e : Correction) → refill (length es) es (set es i e) ≡ set es i e
refill_set es i e =
    let l : length (set es i e) ≡ length es = length-set es i e in
    take-append-le (length es) (set es i e) (drop (length (set es i e)) es) (omega arith) ∙ take_all (length es) (set es i e) (omega arith)

-- where no place is corrected, or each is below n, the place n has no volume
pub noted_none : (q : ℕ) (es : List Correction) → places es ≡ [] → noted q es ≡ None
noted_none q [] e = refl
noted_none q (x ∷ es) e = let z : ◌≡◌ {A = ℕ} 0 1 = cc in absurd (omega arith)

pub noted_above : (n : ℕ) (es : List Correction) → All (λ p. p < n) (places es) → noted n es ≡ None
noted_above n [] a = refl
noted_above n (x ∷ es) a =
    let l : x.place < n = All-head (λ (p : ℕ). p < n) x.place (places es) a in
    noted_cons n x es ∙ cond-false _ _ _ (ne_eqb x.place n (λ e. omega arith)) ∙ noted_above n es (All-tail (λ (p : ℕ). p < n) x.place (places es) a)

-- corrected places stay below n when a place below n joins them
pub below_joined : (n p : ℕ) (ps : List ℕ) → p < n → All (λ q. q < n) ps → All (λ q. q < n) (joined ps p)
below_joined n p ps l a =
    cond_both (among p ps) ps (ps ++ (p ∷ [])) (λ qs. All (λ q. q < n) qs) (λ e. a) (λ e. All-push (λ q. q < n) ps p a l)

pub below_noted : (n p v : ℕ) (old new : Corrections) (answer : Result (Unit {0}) Fault) → p < n → All (λ q. q < n) (corrected_places old) → Noted old p v answer new → All (λ q. q < n) (corrected_places new)
below_noted n p v old new (Ok _) l a h = rw h.places (below_joined n p (corrected_places old) l a)
below_noted n p v old new (Err fault) l a h = rw h.same a
