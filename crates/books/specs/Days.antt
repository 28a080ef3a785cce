-- What opening a day and posting through it ask and answer.
use Rattle.std.specs.Prelude.{◌≡◌, ℕ, ◌<◌, List, [], ◌∷◌, ◌++◌, length, Ok, Err, Result}
use Rattle.faults.specs.declared.fault.Fault.{Fault}
use Rattle.faults.specs.declared.fault.Fault.TheVariants.{NotMember}
use Rattle.faults.specs.Asks.{Ask, ask, Met, Refused}
use Rattle.faults.specs.Members.{ask_count}
use Rattle.postings.specs.declared.row.PostingRow.{PostingRow}
use Rattle.books.specs.declared.day.OpenDay.{OpenDay}
use Rattle.books.specs.Books.{to_post}

-- a day has 1 to 64 members
abbrev pub to_open : ℕ → List (Ask Fault)
to_open members = ask_count members ∷ []

pub record Opens (members : ℕ) (day : OpenDay) : Type 0 where
  pub met : Met (to_open members)
  pub value : day.members ≡ members

-- an open day of so many members, or the refusal
abbrev pub Opened : ℕ → Result OpenDay Fault → Type 0
Opened members (Ok day) = Opens members day
Opened members (Err fault) = Refused (to_open members) fault

-- a day takes postings of its members, as far as its book does
abbrev pub to_post_in : ℕ → List PostingRow → ℕ → PostingRow → List (Ask Fault)
to_post_in members list largest row = ask NotMember (row.member < members) ∷ to_post list largest

-- the row goes to the end, and its place is answered
pub record PostsInDay (members : ℕ) (list : List PostingRow) (largest : ℕ) (row : PostingRow) (place : ℕ) (new : List PostingRow) : Type 0 where
  pub met : Met (to_post_in members list largest row)
  pub value : place ≡ length list
  pub after : new ≡ list ++ (row ∷ [])

-- the list stays as it was
pub record NotPostedInDay (members : ℕ) (list : List PostingRow) (largest : ℕ) (row : PostingRow) (fault : Fault) (new : List PostingRow) : Type 0 where
  pub refused : Refused (to_post_in members list largest row) fault
  pub same : new ≡ list

-- the members of a day, the list and the largest count of its book, a row that is posted, the answer, and the list then
abbrev pub PostedInDay : ℕ → List PostingRow → ℕ → PostingRow → Result ℕ Fault → List PostingRow → Type 0
PostedInDay members list largest row (Ok place) new = PostsInDay members list largest row place new
PostedInDay members list largest row (Err fault) new = NotPostedInDay members list largest row fault new
