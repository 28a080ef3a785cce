-- What comes of a day that was typed.
use Rattle.std.specs.Prelude.{◌≡◌, ℕ, ◌<◌, ◌≤◌, List, [], ◌∷◌, ◌++◌, length, take, drop, Ok, Err, Result}
use Rattle.faults.specs.declared.fault.Fault.{Fault}
use Rattle.faults.specs.declared.fault.Fault.TheVariants.{PriceCount, PriceAt}
use Rattle.faults.specs.Asks.{Ask, ask, Met, Refused}
use Rattle.images.specs.Checking.{to_check}

-- an hour has no price yet, and the price is at most 500,000
abbrev pub to_push : List ℕ → ℕ → List (Ask Fault)
to_push old price = ask PriceCount (length old < 24) ∷ ask (PriceAt (length old)) (price ≤ 500000) ∷ []

-- the price is that of the next hour
pub record Pushes (old : List ℕ) (price : ℕ) (new : List ℕ) : Type 0 where
  pub met : Met (to_push old price)
  pub after : new ≡ old ++ (price ∷ [])

-- the prices stay as they were
pub record NotPushed (old : List ℕ) (price : ℕ) (fault : Fault) (new : List ℕ) : Type 0 where
  pub refused : Refused (to_push old price) fault
  pub same : new ≡ old

-- the prices so far, one more, the answer, and the prices then
abbrev pub Pushed : List ℕ → ℕ → Result (Unit {0}) Fault → List ℕ → Type 0
Pushed old price (Ok _) new = Pushes old price new
Pushed old price (Err fault) new = NotPushed old price fault new

-- n bytes pass the check of an image, and the bytes past them are as they were
pub record Images (old : List ℕ) (n : ℕ) (new : List ℕ) : Type 0 where
  pub within : n ≤ length old
  pub met : Met (to_check (take n new))
  pub past : drop n new ≡ drop n old

-- the bytes of the image, the answer, and the bytes then: as they were where a line is refused
abbrev pub Imaged : {R : Type 0} → List ℕ → Result ℕ R → List ℕ → Type 0
Imaged old (Ok n) new = Images old n new
Imaged old (Err refusal) new = new ≡ old
