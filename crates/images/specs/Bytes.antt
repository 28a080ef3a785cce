-- The bytes of a day. All numbers stand high byte first, and each section comes after its count.
use Rattle.std.specs.Prelude.{ℕ, suc, ◌-◌, ◌/◌, ◌%◌, List, [], ◌∷◌, ◌++◌, length, ℤ, pos, negsuc}
use Rattle.std.specs.List.{flat_map}
use Rattle.postings.specs.declared.row.PostingRow.{PostingRow}

-- a number of 2 bytes, and of 4
abbrev pub u16_of : ℕ → List ℕ
u16_of n = n / 256 % 256 ∷ n % 256 ∷ []

abbrev pub u32_of : ℕ → List ℕ
u32_of n = n / 16777216 % 256 ∷ n / 65536 % 256 ∷ n / 256 % 256 ∷ n % 256 ∷ []

-- two's complement of 32 bits: a number below nil stands as itself plus 2^32
abbrev pub unsigned : ℤ → ℕ
unsigned (pos n) = n
unsigned (negsuc n) = 4294967296 - suc n

-- a posting: kind, member, first hour, last hour, volume, price, label
abbrev pub row_bytes : PostingRow → List ℕ
row_bytes r =
    r.kind ∷ r.member ∷ r.first ∷ r.last ∷ (u32_of r.volume ++ (u32_of (unsigned r.price) ++ (r.label ∷ [])))

-- the count of prices, the prices, the count of postings, the postings
unfoldable pub bytes_of : List ℕ → List PostingRow → List ℕ
bytes_of prices list = u16_of (length prices) ++ (flat_map u32_of prices ++ (u16_of (length list) ++ flat_map row_bytes list))
