-- The posting table: the nine kinds, what each allows, and the rows that keep it.
use Rattle.std.specs.Prelude.{ℕ, ◌+◌, ◌-◌, Bool, true, cond, ◌&&◌, List, [], ◌∷◌, ℤ, pos, negsuc, is_some, Some, None, Option, ◌==◌, int_le, nat_le, nat_lt}
use Rattle.postings.specs.declared.kind.Kind.{Kind}
use Rattle.postings.specs.declared.kind.Kind.TheVariants.{Injection, Withdrawal, HourlyPurchase, HourlySale, BlockPurchase, BlockSale, FlexibleSale, Up, Down}
use Rattle.postings.specs.declared.limits.Limits.{Limits}
use Rattle.postings.specs.declared.row.PostingRow.{PostingRow}

-- the code of each kind
abbrev pub code : Kind → ℕ
code Injection = 1
code Withdrawal = 2
code HourlyPurchase = 3
code HourlySale = 4
code BlockPurchase = 5
code BlockSale = 6
code FlexibleSale = 7
code Up = 8
code Down = 9

abbrev pub kinds : List Kind
kinds = Injection ∷ Withdrawal ∷ HourlyPurchase ∷ HourlySale ∷ BlockPurchase ∷ BlockSale ∷ FlexibleSale ∷ Up ∷ Down ∷ []

-- the first of some kinds that has the code n
abbrev pub coded : ℕ → List Kind → Option Kind
coded n [] = None
coded n (k ∷ ks) = cond (n == code k) (Some k) (coded n ks)

-- the kind that the code n stands for
unfoldable pub kind_of : ℕ → Option Kind
kind_of n = coded n kinds

-- fewest and most hours, largest volume, lowest and highest price, highest label
abbrev pub limits : ℕ → ℕ → ℕ → ℤ → ℤ → ℕ → Limits
limits s l v low high b = record { shortest = s; longest = l; volume = v; lowest = low; highest = high; label = b }

-- the table: readings and instructions count kWh, orders lots of 100 kWh
abbrev pub table : Kind → Limits
table Injection = limits 1 1 10000 (pos 0) (pos 0) 0
table Withdrawal = limits 1 1 10000 (pos 0) (pos 0) 0
table HourlyPurchase = limits 1 1 100 (pos 0) (pos 0) 0
table HourlySale = limits 1 1 100 (pos 0) (pos 0) 0
table BlockPurchase = limits 2 24 100 (negsuc 199999) (pos 200000) 0
table BlockSale = limits 2 24 100 (negsuc 199999) (pos 200000) 0
table FlexibleSale = limits 1 1 100 (negsuc 199999) (pos 200000) 0
table Up = limits 1 1 10000 (pos 0) (pos 500000) 1
table Down = limits 1 1 10000 (pos 0) (pos 500000) 1

-- no kind, no limits that a row could keep
abbrev pub allowed : Option Kind → Limits
allowed (Some k) = table k
allowed None = limits 0 0 0 (pos 0) (pos 0) 0

-- The columns. Hours are of one day and as many as allowed.
abbrev pub hours_within : Limits → ℕ → ℕ → Bool
hours_within l first last =
    (nat_le first last && nat_le last 23) && (nat_le l.shortest (last + 1 - first) && nat_le (last + 1 - first) l.longest)

abbrev pub volume_within : Limits → ℕ → Bool
volume_within l v = nat_le 1 v && nat_le v l.volume

abbrev pub price_within : Limits → ℤ → Bool
price_within l p = int_le l.lowest p && int_le p l.highest

abbrev pub label_within : Limits → ℕ → Bool
label_within l b = nat_le b l.label

-- The same of a row: its kind is one of the nine, and each column keeps to that kind's limits.
abbrev pub kind_kept : PostingRow → Bool
kind_kept r = is_some (kind_of r.kind)

abbrev pub limits_of : PostingRow → Limits
limits_of r = allowed (kind_of r.kind)

abbrev pub hours_kept : PostingRow → Bool
hours_kept r = hours_within (limits_of r) r.first r.last

abbrev pub volume_kept : PostingRow → Bool
volume_kept r = volume_within (limits_of r) r.volume

abbrev pub price_kept : PostingRow → Bool
price_kept r = price_within (limits_of r) r.price

abbrev pub label_kept : PostingRow → Bool
label_kept r = label_within (limits_of r) r.label

abbrev pub member_kept : PostingRow → Bool
member_kept r = nat_lt r.member 64

-- a row that keeps the table, with a member below 64
unfoldable pub lawful : PostingRow → Bool
lawful r = kind_kept r && (hours_kept r && (volume_kept r && (price_kept r && (label_kept r && member_kept r))))

-- every row of a list is lawful
abbrev pub all_lawful : List PostingRow → Bool
all_lawful [] = true
all_lawful (r ∷ rs) = lawful r && all_lawful rs
