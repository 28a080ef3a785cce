-- The correction layer: what its corrections say, the list that it shows, and what correcting asks and answers.
use Rattle.std.specs.Prelude.{◌≡◌, ℕ, zero, suc, ◌<◌, Bool, true, false, cond, ◌||◌, ◌⊎◌, List, [], ◌∷◌, ◌++◌, length, map, Some, None, Ok, Err, Option, Result, ◌==◌, nat_eq}
use Rattle.std.specs.Map.{update}
use Rattle.std.specs.List.{slice_get, find}
use Rattle.std.specs.Option.{option_map}
use Rattle.faults.specs.declared.making.MakingFault.TheVariants.{Volume}
use Rattle.faults.specs.declared.fault.Fault.{Fault}
use Rattle.faults.specs.declared.fault.Fault.TheVariants.{Making, NoPosting, CorrectionsFull}
use Rattle.faults.specs.Asks.{Ask, ask, Met, Refused}
use Rattle.postings.specs.declared.row.PostingRow.{PostingRow}
use Rattle.postings.specs.Volumes.{volume_allowed, with_volume, at_volume}
use Rattle.books.specs.declared.corrections.Corrections.{Corrections}

-- the places that are corrected, in the order in which they first were
abbrev pub corrected_places : Corrections → List ℕ
corrected_places c = map (λ e. e.place) c.entries.items

-- the latest volume at a place
abbrev pub volume_at : Corrections → ℕ → Option ℕ
volume_at c place = option_map (λ e. e.volume) (find (λ e. e.place == place) c.entries.items)

-- a row at the volume noted for its place, where its kind allows it
abbrev pub amend : PostingRow → Option ℕ → PostingRow
amend r None = r
amend r (Some v) = at_volume r v

-- the rows from place i on, each at the volume that f has for its place
abbrev pub amended : (ℕ → Option ℕ) → ℕ → List PostingRow → List PostingRow
amended f i [] = []
amended f i (r ∷ rs) = amend r (f i) ∷ amended f (suc i) rs

-- the list of a layer: the lower list with the latest volume at each corrected place, where the posting's kind allows it
abbrev pub layered : Corrections → List PostingRow → List PostingRow
layered c rs = amended (volume_at c) 0 rs

-- a list with another volume at one place
abbrev pub with_volume_at : List PostingRow → ℕ → ℕ → List PostingRow
with_volume_at [] place v = []
with_volume_at (r ∷ rs) zero v = with_volume r v ∷ rs
with_volume_at (r ∷ rs) (suc place) v = r ∷ with_volume_at rs place v

-- the place is one of those
abbrev pub among : ℕ → List ℕ → Bool
among place [] = false
among place (x ∷ xs) = place == x || among place xs

-- the corrected places, this one with them
abbrev pub joined : List ℕ → ℕ → List ℕ
joined places place = cond (among place places) places (places ++ (place ∷ []))

-- the place is corrected already, or fewer than 32 places are
abbrev pub RoomFor : List ℕ → ℕ → Type 0
RoomFor places place = (among place places ≡ true) ⊎ (length places < 32)

-- the posting there allows the volume
abbrev pub allowed_at : Option PostingRow → ℕ → Bool
allowed_at (Some r) v = volume_allowed r v
allowed_at None v = false

-- what a correction asks, in the order 8, 3, 9
abbrev pub to_correct : List PostingRow → List ℕ → ℕ → ℕ → List (Ask Fault)
to_correct list places place volume =
    ask NoPosting (place < length list) ∷ ask (Making Volume) (allowed_at (slice_get list place) volume ≡ true)
    ∷ ask CorrectionsFull (RoomFor places place) ∷ []

-- the volume at the place is replaced, and nothing else changes
pub record Replaces (list : List PostingRow) (marked : List ℕ) (place volume : ℕ) (new : List PostingRow) (new_marked : List ℕ) : Type 0 where
  pub met : Met (to_correct list marked place volume)
  pub after : new ≡ with_volume_at list place volume
  pub places : new_marked ≡ joined marked place

-- the list and the corrected places stay as they were
pub record NotReplaced (list : List PostingRow) (marked : List ℕ) (place volume : ℕ) (fault : Fault) (new : List PostingRow) (new_marked : List ℕ) : Type 0 where
  pub refused : Refused (to_correct list marked place volume) fault
  pub same : new ≡ list
  pub places : new_marked ≡ marked

-- the list and the corrected places of a layer, a place and a volume, the answer, and the list and the corrected places then
abbrev pub Corrects : List PostingRow → List ℕ → ℕ → ℕ → Result (Unit {0}) Fault → List PostingRow → List ℕ → Type 0
Corrects list marked place volume (Ok _) new new_marked = Replaces list marked place volume new new_marked
Corrects list marked place volume (Err fault) new new_marked = NotReplaced list marked place volume fault new new_marked

-- a volume is noted at a place, or there is no room for the place
pub record Notes (old : Corrections) (place volume : ℕ) (new : Corrections) : Type 0 where
  pub room : RoomFor (corrected_places old) place
  pub places : corrected_places new ≡ joined (corrected_places old) place
  pub volumes : (q : ℕ) → volume_at new q ≡ update nat_eq (volume_at old) place (Some volume) q

pub record Crowded (old : Corrections) (place : ℕ) (fault : Fault) (new : Corrections) : Type 0 where
  pub room : RoomFor (corrected_places old) place → ⊥
  pub value : fault ≡ CorrectionsFull
  pub same : new ≡ old

-- the corrections, a place and a volume, the answer, and the corrections then
abbrev pub Noted : Corrections → ℕ → ℕ → Result (Unit {0}) Fault → Corrections → Type 0
Noted old place volume (Ok _) new = Notes old place volume new
Noted old place volume (Err fault) new = Crowded old place fault new
