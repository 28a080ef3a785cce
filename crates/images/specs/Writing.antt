-- What writing an image asks and answers.
use Rattle.std.specs.Prelude.{◌≡◌, ℕ, ◌+◌, ◌-◌, ◌*◌, ◌≤◌, List, [], ◌∷◌, ◌++◌, length, take, drop, replicate, Ok, Err, Result}
use Rattle.faults.specs.declared.fault.Fault.{Fault}
use Rattle.faults.specs.declared.fault.Fault.TheVariants.{PriceCount, ManyPostings, NoRoom}
use Rattle.faults.specs.Asks.{Ask, ask, Met, Refused}
use Rattle.postings.specs.declared.row.PostingRow.{PostingRow}
use Rattle.postings.specs.Prices.{ask_prices}
use Rattle.images.specs.Bytes.{bytes_of}
use Rattle.images.specs.Checking.{to_check}

-- 24 prices
abbrev pub ask_count : List ℕ → Ask Fault
ask_count prices = ask PriceCount (length prices ≡ 24)

-- the prices, then at most 2,048 postings, then room for 100 bytes and 13 for each posting
abbrev pub to_write : List ℕ → List PostingRow → ℕ → List (Ask Fault)
to_write prices list room =
    ask_count prices ∷ ask_prices prices ∷ ask ManyPostings (length list ≤ 2048)
    ∷ ask NoRoom (100 + 13 * length list ≤ room) ∷ []

-- n bytes are those of the day, and the bytes past them are as they were
pub record Writes (prices : List ℕ) (list : List PostingRow) (old : List ℕ) (n : ℕ) (new : List ℕ) : Type 0 where
  pub met : Met (to_write prices list (length old))
  pub value : n ≡ length (bytes_of prices list)
  pub after : take n new ≡ bytes_of prices list
  pub past : drop n new ≡ drop n old

-- no byte is written
pub record NotWritten (prices : List ℕ) (list : List PostingRow) (old : List ℕ) (fault : Fault) (new : List ℕ) : Type 0 where
  pub refused : Refused (to_write prices list (length old)) fault
  pub same : new ≡ old

-- the prices and the list of a day, the host's bytes, the answer, and the bytes then
abbrev pub Written : List ℕ → List PostingRow → List ℕ → Result ℕ Fault → List ℕ → Type 0
Written prices list old (Ok n) new = Writes prices list old n new
Written prices list old (Err fault) new = NotWritten prices list old fault new

-- an array of the host's own, nil at first: the image, and nil past it
pub record Holds (prices : List ℕ) (list : List PostingRow) (room : ℕ) (bytes : List ℕ) (n : ℕ) : Type 0 where
  pub met : Met (to_write prices list room)
  pub value : n ≡ length (bytes_of prices list)
  pub after : take n bytes ≡ bytes_of prices list
  pub past : drop n bytes ≡ replicate (room - n) 0

abbrev pub Held : List ℕ → List PostingRow → ℕ → Result (List ℕ × ℕ) Fault → Type 0
Held prices list room (Ok held) = Holds prices list room held.0 held.1
Held prices list room (Err fault) = Refused (to_write prices list room) fault

-- what a copy asks: the image's check, then room for it
abbrev pub to_copy : List ℕ → ℕ → List (Ask Fault)
to_copy image room = to_check image ++ (ask NoRoom (length image ≤ room) ∷ [])

-- n bytes are the image's own, and the bytes past them are as they were
pub record Copies (image old : List ℕ) (n : ℕ) (new : List ℕ) : Type 0 where
  pub met : Met (to_copy image (length old))
  pub value : n ≡ length image
  pub after : take n new ≡ image
  pub past : drop n new ≡ drop n old

pub record NotCopied (image old : List ℕ) (fault : Fault) (new : List ℕ) : Type 0 where
  pub refused : Refused (to_copy image (length old)) fault
  pub same : new ≡ old

-- an image, the host's bytes, the answer, and the bytes then
abbrev pub Copied : List ℕ → List ℕ → Result ℕ Fault → List ℕ → Type 0
Copied image old (Ok n) new = Copies image old n new
Copied image old (Err fault) new = NotCopied image old fault new
