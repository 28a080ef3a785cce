-- What a roll holds, and what a push does.
use Rattle.std.specs.Prelude.{◌≡◌, ℕ, ◌<◌, List, [], ◌∷◌, ◌++◌, length, take, Some, None, Option, slice_set}
use Rattle.books.specs.declared.roll.Roll.{Roll}

-- all that the host lent
abbrev pub slots : {T : Type 0} → Roll T → List T
slots r = r.slots.now

-- the entries, in their order
abbrev pub entries : {T : Type 0} → Roll T → List T
entries r = take r.len (slots r)

-- x is put last, at the place that is answered; no other slot changes
pub record Pushes {T : Type 0} (old : Roll T) (x : T) (place : ℕ) (new : Roll T) : Type 0 where
  pub value : place ≡ length (entries old)
  pub within : place < length (slots old)
  pub items : entries new ≡ entries old ++ (x ∷ [])
  pub after : slots new ≡ slice_set (slots old) place x

-- no slot is left, and nothing changes
pub record Full {T : Type 0} (old new : Roll T) : Type 0 where
  pub bound : length (entries old) ≡ length (slots old)
  pub items : entries new ≡ entries old
  pub after : slots new ≡ slots old

abbrev pub Pushed : {T : Type 0} → Roll T → T → Option ℕ → Roll T → Type 0
Pushed old x (Some place) new = Pushes old x place new
Pushed old x None new = Full old new
