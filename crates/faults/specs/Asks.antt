-- What a call asks, in order, and the fault that comes where it is the first that does not hold.
use Rattle.std.specs.Prelude.{◌≡◌, ℕ, ◌<◌, ◌⊎◌, List, [], ◌∷◌, Ok, Err, Result}

-- one thing that has to hold, and the faults that come where it does not
pub record Ask (F : Type 0) : Type 1 where
  pub holds : Type 0
  pub refuses : F → Type 0

-- p has to hold, else the fault is f
abbrev pub ask : {F : Type 0} → F → Type 0 → Ask F
ask f p = record { holds = p; refuses = λ g. (g ≡ f) × (p → ⊥) }

-- p has to hold at each place below n, else the fault bears the lowest place at which it does not
abbrev pub ask_each : {F : Type 0} → (ℕ → F) → ℕ → (ℕ → Type 0) → Ask F
ask_each f n p = record {
  holds = (k : ℕ) → k < n → p k;
  refuses = λ g. (k : ℕ) × (g ≡ f k) × (k < n) × (p k → ⊥) × ((j : ℕ) → j < k → p j);
}

-- all that is asked holds
abbrev pub Met : {F : Type 0} → List (Ask F) → Type 0
Met [] = Unit {0}
Met (a ∷ more) = a.holds × Met more

-- the fault f comes from the first ask that does not hold
abbrev pub Refused : {F : Type 0} → List (Ask F) → F → Type 0
Refused [] f = ⊥
Refused (a ∷ more) f = a.refuses f ⊎ (a.holds × Refused more f)

-- what is asked at each place below n has to hold, else the fault carries the lowest place at which it does not, and the fault that comes there
abbrev pub ask_within : {F G : Type 0} → (ℕ → G → F) → ℕ → (ℕ → List (Ask G)) → Ask F
ask_within {G = G} f n asks = record {
  holds = (k : ℕ) → k < n → Met (asks k);
  refuses = λ g. (k : ℕ) × (h : G) × (g ≡ f k h) × (k < n) × Refused (asks k) h × ((j : ℕ) → j < k → Met (asks j));
}

-- one ask that was looked at: it holds, or its fault came
abbrev pub Answered : {F : Type 0} → Ask F → Result (Unit {0}) F → Type 0
Answered a (Ok _) = a.holds
Answered a (Err f) = a.refuses f
