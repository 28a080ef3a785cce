-- A day and its image determine each other.
use Rattle.std.proofs.Common.{◌≡◌, ℕ, zero, suc, ◌+◌, ◌*◌, ◌<◌, ◌≤◌, true, List, [], ◌∷◌, ◌++◌, map, length, get_or, drop, ℤ, All, sym, refl, ap, ◌∙◌, subst, ap₂, append_assoc, add-zero, zero-add, add-one, arith}
use Rattle.std.specs.List.{range_with_len, flat_map, slice_get}
use Rattle.std.proofs.lemmas.List.FromFn.{length-map-range_with_len, get_or-map-range_with_len, map-range_with_len_more}
use Rattle.std.proofs.lemmas.List.{append-nil, drop_all, flat_map_more}
use Rattle.std.proofs.lemmas.List.Elements.{All-nil, All-cons, All-head, All-tail, All-from_get_or}
use Rattle.std.proofs.lemmas.Bool.{and_parts}
use Rattle.postings.proofs.Lawful.{lawful_met, lawful_nth}
use Rattle.postings.proofs.Bounds.{bounds}
use Rattle.faults.specs.Asks.{Met}
use Rattle.postings.specs.declared.row.PostingRow.{PostingRow}
use Rattle.postings.specs.Table.{lawful, all_lawful}
use Rattle.postings.specs.Bounds.{Bounds}
use Rattle.images.specs.Reading.{signed, byte, u16_at, u32_at, i32_at, price_at, count_in, row_at, prices_in, rows_up_to}
use Rattle.images.specs.Bytes.{u16_of, u32_of, unsigned, row_bytes, bytes_of}
use Rattle.images.specs.Checking.{to_check}
use Rattle.images.specs.Laws.{Day, DayOpens}
use Rattle.images.proofs.Rows.{rows_length, rows_nth}
use Rattle.images.proofs.Days.{bytes_long}
use Rattle.images.proofs.Numbers.{byte_there, u16_there, u32_there, u32_small, byte_read, rest_read, u16_read, u32_read, unsigned_signed, signed_unsigned, unsigned_small}

-- Pieces that follow one another from the place o 0 on, as they are read at the places o 0, o 1 and so on.
module _ {X : Type 0} (bs : List ℕ) (f : X → List ℕ) (g : ℕ → X) (o : ℕ → ℕ) where
  pieces_there : (n : ℕ) → ((k : ℕ) → k < n → drop (o k) bs ≡ f (g k) ++ drop (o (k + 1)) bs) → drop (o 0) bs ≡ flat_map f (map g (range_with_len 0 n)) ++ drop (o n) bs
  pieces_there zero h = refl
  pieces_there (suc n) h =
      pieces_there n (λ k l. h k (omega arith))
      ∙ ap (λ (r : List ℕ). flat_map f (map g (range_with_len 0 n)) ++ r) (h n (omega arith))
      ∙ sym (append_assoc (flat_map f (map g (range_with_len 0 n))) (f (g n)) (drop (o (n + 1)) bs))
      ∙ ap (λ (r : List ℕ). r ++ drop (o (n + 1)) bs) (flat_map_more f [] (map g (range_with_len 0 n)) (g n) ∙ ap (flat_map f) (sym (map-range_with_len_more g 0 n n (zero-add n))))
      ∙ ap (λ (k : ℕ). flat_map f (map g (range_with_len 0 k)) ++ drop (o k) bs) (add-one n)

count_is : (bs : List ℕ) → u16_at bs 98 ≡ count_in bs
unfolding count_in
count_is bs = refl

-- The rows and the prices of an image are there as their bytes.
module _ (bs : List ℕ) (small : (i : ℕ) → byte bs i < 256) where
  price_there : (k : ℕ) → 98 ≤ length bs → k < 24 → drop (2 + 4 * k) bs ≡ u32_of (price_at bs k) ++ drop (2 + 4 * (k + 1)) bs
  unfolding price_at
  price_there k h l = u32_there bs small (2 + 4 * k) (2 + 4 * (k + 1)) (omega arith) (omega arith)

  row_there : (k : ℕ) → 100 + 13 * (k + 1) ≤ length bs → drop (100 + 13 * k) bs ≡ row_bytes (row_at bs k) ++ drop (100 + 13 * (k + 1)) bs
  unfolding row_at i32_at
  row_there k h =
      let at = 100 + 13 * k in
      let end = 100 + 13 * (k + 1) in
      byte_there bs small at (at + 1) refl (omega arith)
      ∙ ap (λ (r : List ℕ). byte bs at ∷ r) (byte_there bs small (at + 1) (at + 2) (omega arith) (omega arith))
      ∙ ap (λ (r : List ℕ). byte bs at ∷ byte bs (at + 1) ∷ r) (byte_there bs small (at + 2) (at + 3) (omega arith) (omega arith))
      ∙ ap (λ (r : List ℕ). byte bs at ∷ byte bs (at + 1) ∷ byte bs (at + 2) ∷ r) (byte_there bs small (at + 3) (at + 4) (omega arith) (omega arith))
      ∙ ap (λ (r : List ℕ). byte bs at ∷ byte bs (at + 1) ∷ byte bs (at + 2) ∷ byte bs (at + 3) ∷ r)
      (u32_there bs small (at + 4) (at + 8) (omega arith) (omega arith)
      ∙ ap (λ (r : List ℕ). u32_of (u32_at bs (at + 4)) ++ r)
      (u32_there bs small (at + 8) (at + 12) (omega arith) (omega arith)
      ∙ ap₂ (λ (n : ℕ) (r : List ℕ). u32_of n ++ r) (sym (unsigned_signed (u32_at bs (at + 8)) (u32_small bs small (at + 8)))) (byte_there bs small (at + 12) end (omega arith) (omega arith))))

  pub image_is : Met (to_check bs) → bs ≡ bytes_of (prices_in bs) (rows_up_to bs (count_in bs))
  unfolding bytes_of prices_in rows_up_to
  image_is m =
      let long = m.0.long in
      let p : length (prices_in bs) ≡ 24 = length-map-range_with_len (price_at bs) 0 24 in
      let q : length (rows_up_to bs (count_in bs)) ≡ count_in bs = rows_length bs (count_in bs) in
      let end : drop (100 + 13 * count_in bs) bs ≡ [] = drop_all (100 + 13 * count_in bs) bs (omega arith) in
      u16_there bs small 0 2 refl (omega arith)
      ∙ ap₂ (λ (k : ℕ) (r : List ℕ). u16_of k ++ r) (m.0.priced ∙ sym p)
      (pieces_there bs u32_of (price_at bs) (λ k. 2 + 4 * k) 24 (λ k l. price_there k (omega arith) l)
      ∙ ap (λ (r : List ℕ). flat_map u32_of (prices_in bs) ++ r)
      (u16_there bs small 98 100 refl (omega arith)
      ∙ ap₂ (λ (k : ℕ) (r : List ℕ). u16_of k ++ r) (count_is bs ∙ sym q)
      (pieces_there bs row_bytes (row_at bs) (λ k. 100 + 13 * k) (count_in bs) (λ k l. row_there k (omega arith))
      ∙ ap (λ (r : List ℕ). flat_map row_bytes (rows_up_to bs (count_in bs)) ++ r) end
      ∙ append-nil (flat_map row_bytes (rows_up_to bs (count_in bs))))))

-- Pieces that stand one after the other are read there.
module _ {X : Type 0} (P : X → Type 0) (bs : List ℕ) (f : X → List ℕ) (g : ℕ → X) (o : ℕ → ℕ) where
  pieces_read : ((k : ℕ) (x : X) (rest : List ℕ) → P x → drop (o k) bs ≡ f x ++ rest → (g k ≡ x) × (drop (o (k + 1)) bs ≡ rest)) → (i : ℕ) (xs : List X) (rest : List ℕ) → All P xs → drop (o i) bs ≡ flat_map f xs ++ rest → (map g (range_with_len i (length xs)) ≡ xs) × (drop (o (i + length xs)) bs ≡ rest)
  pieces_read reads i [] rest p e = (refl, ap (λ (k : ℕ). drop (o k) bs) (add-zero i) ∙ e)
  pieces_read reads i (x ∷ xs) rest p e =
      let one = reads i x (flat_map f xs ++ rest) (All-head P x xs p) (e ∙ append_assoc (f x) (flat_map f xs) rest) in
      let more = pieces_read reads (i + 1) xs rest (All-tail P x xs p) one.1 in
      let n : i + suc (length xs) ≡ i + 1 + length xs = omega arith in
      (ap₂ (λ (y : X) (ys : List X). y ∷ ys) one.0 more.0, ap (λ (k : ℕ). drop (o k) bs) n ∙ more.1)

-- every lawful row keeps the bounds
all_bounds : (list : List PostingRow) → all_lawful list ≡ true → All Bounds list
all_bounds [] h = All-nil Bounds
all_bounds (r ∷ list) h = let p = and_parts (lawful r) (all_lawful list) h in All-cons Bounds r list (bounds r p.0) (all_bounds list p.1)

price_is : (bs prices : List ℕ) → prices_in bs ≡ prices → (k : ℕ) → k < 24 → price_at bs k ≡ get_or prices k 0
unfolding prices_in
price_is bs prices e k h = sym (get_or-map-range_with_len (price_at bs) 0 24 k k 0 h (omega arith)) ∙ ap (λ (ps : List ℕ). get_or ps k 0) e

pub prices_length : (bs : List ℕ) → length (prices_in bs) ≡ 24
unfolding prices_in
prices_length bs = length-map-range_with_len (price_at bs) 0 24

-- the prices of an image keep the limit where they do in its bytes
pub price_limited : (bs : List ℕ) → ((k : ℕ) → k < 24 → price_at bs k ≤ 500000) → (k : ℕ) → k < 24 → get_or (prices_in bs) k 0 ≤ 500000
price_limited bs h k l = subst (λ (p : ℕ). p ≤ 500000) (price_is bs (prices_in bs) refl k l) (h k l)

same_row : {kind kind' member member' first first' last last' volume volume' label label' : ℕ} {price price' : ℤ} → kind ≡ kind' → member ≡ member' → first ≡ first' → last ≡ last' → volume ≡ volume' → price ≡ price' → label ≡ label' → ◌≡◌ {A = PostingRow} (record { kind = kind; member = member; first = first; last = last; volume = volume; price = price; label = label }) (record { kind = kind'; member = member'; first = first'; last = last'; volume = volume'; price = price'; label = label' })
same_row a b c d e f g = cc

module _ (bs : List ℕ) where
  price_read : (k p : ℕ) (rest : List ℕ) → p ≤ 500000 → drop (2 + 4 * k) bs ≡ u32_of p ++ rest → (price_at bs k ≡ p) × (drop (2 + 4 * (k + 1)) bs ≡ rest)
  unfolding price_at
  price_read k p rest h e = (u32_read bs (2 + 4 * k) p rest (omega arith) e, rest_read bs _ (2 + 4 * k) 4 _ e (omega arith))

  row_read : (k : ℕ) (r : PostingRow) (rest : List ℕ) → Bounds r → drop (100 + 13 * k) bs ≡ row_bytes r ++ rest → (row_at bs k ≡ r) × (drop (100 + 13 * (k + 1)) bs ≡ rest)
  unfolding row_at i32_at
  row_read k r rest b e =
      let at = 100 + 13 * k in
      let kind : byte bs at ≡ r.kind = byte_read bs _ at 0 at e (omega arith) in
      let member : byte bs (at + 1) ≡ r.member = byte_read bs _ at 1 (at + 1) e refl in
      let first : byte bs (at + 2) ≡ r.first = byte_read bs _ at 2 (at + 2) e refl in
      let last : byte bs (at + 3) ≡ r.last = byte_read bs _ at 3 (at + 3) e refl in
      let volume : u32_at bs (at + 4) ≡ r.volume = u32_read bs (at + 4) r.volume _ (omega (arith, b.volume)) (rest_read bs _ at 4 (at + 4) e refl) in
      let price : i32_at bs (at + 8) ≡ r.price = ap signed (u32_read bs (at + 8) (unsigned r.price) _ (unsigned_small r.price b.price) (rest_read bs _ at 8 (at + 8) e refl)) ∙ signed_unsigned r.price b.price in
      let label : byte bs (at + 12) ≡ r.label = byte_read bs _ at 12 (at + 12) e refl in
      (same_row kind member first last volume price label, rest_read bs _ at 13 _ e (omega arith))

  -- what stands in the bytes of a day
  record Stands (prices : List ℕ) (list : List PostingRow) : Type 0 where
    priced : u16_at bs 0 ≡ 24
    counted : count_in bs ≡ length list
    prices_there : prices_in bs ≡ prices
    rows_there : rows_up_to bs (length list) ≡ list

  stands : (prices : List ℕ) (list : List PostingRow) → bs ≡ bytes_of prices list → Day prices list → Stands prices list
  unfolding bytes_of prices_in rows_up_to count_in
  stands prices list e d =
      let n = d.priced in
      let m = d.few in
      let two = rest_read bs _ 0 2 2 e refl in
      let ps = pieces_read (λ p. p ≤ 500000) bs u32_of (price_at bs) (λ k. 2 + 4 * k) price_read 0 prices _ (All-from_get_or (λ p. p ≤ 500000) prices 0 (λ k h. d.limited k (omega arith))) two in
      let long : 98 ≡ 2 + 4 * (0 + length prices) = omega arith in
      let next = ap (λ (k : ℕ). drop k bs) long ∙ ps.1 in
      let rs = pieces_read Bounds bs row_bytes (row_at bs) (λ k. 100 + 13 * k) row_read 0 list [] (all_bounds list d.lawful) (rest_read bs _ 98 2 100 next refl ∙ sym (append-nil (flat_map row_bytes list))) in
      record {
        priced = u16_read bs 0 (length prices) _ (omega arith) e ∙ n;
        counted = u16_read bs 98 (length list) _ (omega arith) next;
        prices_there = ap (λ (k : ℕ). map (price_at bs) (range_with_len 0 k)) (sym n) ∙ ps.0;
        rows_there = rs.0;
      }

-- the bytes of a day open as that day
pub day_opens : DayOpens
day_opens prices list d =
    let s = stands (bytes_of prices list) prices list refl d in
    let rows = ap (rows_up_to (bytes_of prices list)) s.counted ∙ s.rows_there in
    record {
      met = (
        record { priced = s.priced; few = omega (arith, s.counted, d.few); long = bytes_long prices list d.priced ∙ ap (λ (k : ℕ). 100 + 13 * k) (sym s.counted) },
        (
          (λ k h. subst (λ (p : ℕ). p ≤ 500000) (sym (price_is (bytes_of prices list) prices s.prices_there k h)) (d.limited k h)),
          ((λ k h. lawful_met _ (lawful_nth list k _ d.lawful (ap (λ (rs : List PostingRow). slice_get rs k) (sym rows) ∙ rows_nth (bytes_of prices list) (count_in (bytes_of prices list)) k h))), tt),
        ),
      );
      priced = s.prices_there;
      listed = rows;
    }
