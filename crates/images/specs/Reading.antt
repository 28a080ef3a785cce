-- What stands in an image. All numbers have their high byte first; a byte past the end reads as 0.
use Rattle.std.specs.Prelude.{ℕ, ◌+◌, ◌*◌, cond, List, map, ℤ, pos, ◌-ℤ◌, nat_lt, slice_index}
use Rattle.std.specs.List.{range_with_len}
use Rattle.postings.specs.declared.row.PostingRow.{PostingRow}

abbrev pub byte : List ℕ → ℕ → ℕ
byte bytes i = slice_index bytes i

-- the number of two bytes, and of four
abbrev pub u16_at : List ℕ → ℕ → ℕ
u16_at bytes i = byte bytes i * 256 + byte bytes (i + 1)

abbrev pub u32_at : List ℕ → ℕ → ℕ
u32_at bytes i = u16_at bytes i * 65536 + u16_at bytes (i + 2)

-- two's complement of 32 bits: from 2^31 on a number stands for itself less 2^32
abbrev pub signed : ℕ → ℤ
signed n = cond (nat_lt n 2147483648) (pos n) (pos n -ℤ pos 4294967296)

unfoldable pub i32_at : List ℕ → ℕ → ℤ
i32_at bytes i = signed (u32_at bytes i)

-- the market price of an hour: 24 of them from byte 2 on
unfoldable pub price_at : List ℕ → ℕ → ℕ
price_at bytes hour = u32_at bytes (2 + 4 * hour)

-- the count of postings
unfoldable pub count_in : List ℕ → ℕ
count_in bytes = u16_at bytes 98

-- the posting at a place: 13 bytes each from byte 100 on
unfoldable pub row_at : List ℕ → ℕ → PostingRow
row_at bytes place = record {
  kind = byte bytes (100 + 13 * place);
  member = byte bytes (100 + 13 * place + 1);
  first = byte bytes (100 + 13 * place + 2);
  last = byte bytes (100 + 13 * place + 3);
  volume = u32_at bytes (100 + 13 * place + 4);
  price = i32_at bytes (100 + 13 * place + 8);
  label = byte bytes (100 + 13 * place + 12);
}

-- the 24 prices, and the first n rows
unfoldable pub prices_in : List ℕ → List ℕ
prices_in bytes = map (price_at bytes) (range_with_len 0 24)

unfoldable pub rows_up_to : List ℕ → ℕ → List PostingRow
rows_up_to bytes n = map (row_at bytes) (range_with_len 0 n)
