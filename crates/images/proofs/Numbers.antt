-- Numbers and their bytes determine each other.
use Rattle.std.proofs.Common.{◌≡◌, ℕ, ◌+◌, ◌*◌, ◌/◌, ◌%◌, ◌<◌, ◌≤◌, List, [], ◌∷◌, ◌++◌, length, get_or, drop, ℤ, pos, negsuc, nat_abs, sym, refl, ap, ◌∙◌, ap₂, arith, w32, to_z, of_z}
use Rattle.std.proofs.lemmas.List.{drop_more, drop-drop, get_or-drop}
use Rattle.std.proofs.lemmas.Int.{ints, of_z-to_z}
use Rattle.std.proofs.lemmas.Bool.Decides.{nat_tests}
use Rattle.images.specs.Reading.{byte, u16_at, u32_at, signed}
use Rattle.images.specs.Bytes.{u16_of, u32_of, unsigned}

two : (a b : ℕ) → a < 256 → b < 256 → u16_of (a * 256 + b) ≡ a ∷ b ∷ []
two a b ha hb = ap₂ (λ (x y : ℕ). x ∷ y ∷ []) (omega arith) (omega arith)

four : (a b c d : ℕ) → a < 256 → b < 256 → c < 256 → d < 256 → u32_of ((a * 256 + b) * 65536 + (c * 256 + d)) ≡ a ∷ b ∷ c ∷ d ∷ []
four a b c d ha hb hc hd =
    ap₂ (λ (x : ℕ) (ys : List ℕ). x ∷ ys) (omega arith)
    (ap₂ (λ (x : ℕ) (ys : List ℕ). x ∷ ys) (omega arith) (ap₂ (λ (x y : ℕ). x ∷ y ∷ []) (omega arith) (omega arith)))

-- the sign is read as two's complement has it
pub signed_is : (n : ℕ) → n < 4294967296 → to_z w32 n ≡ signed n
signed_is n h = grind (arith, ints, nat_tests)

pub unsigned_signed : (n : ℕ) → n < 4294967296 → unsigned (signed n) ≡ n
unsigned_signed n h = ap (of_z w32) (sym (signed_is n h)) ∙ of_z-to_z w32 n h

nested : (n : ℕ) → n < 4294967296 → (n / 256 / 256 / 256 % 256 * 256 + n / 256 / 256 % 256) * 65536 + (n / 256 % 256 * 256 + n % 256) ≡ n
nested n h = omega arith

whole : (n : ℕ) → n < 4294967296 → (n / 16777216 % 256 * 256 + n / 65536 % 256) * 65536 + (n / 256 % 256 * 256 + n % 256) ≡ n
whole n h =
    let p : n / 65536 ≡ n / 256 / 256 = omega arith in
    let q : n / 16777216 ≡ n / 256 / 256 / 256 = omega arith in
    rw (p, q) (nested n h)

pub signed_unsigned : (z : ℤ) → nat_abs z ≤ 500000 → signed (unsigned z) ≡ z
signed_unsigned (pos n) h = grind (arith, ints, nat_tests)
signed_unsigned (negsuc n) h = grind (arith, ints, nat_tests)

pub unsigned_small : (z : ℤ) → nat_abs z ≤ 500000 → unsigned z < 4294967296
unsigned_small (pos n) h = omega arith
unsigned_small (negsuc n) h = omega arith

-- Bytes below 256 that stand in a list are those of the number that is read there.
module _ (bs : List ℕ) (small : (i : ℕ) → byte bs i < 256) where
  pub byte_there : (i j : ℕ) → i + 1 ≡ j → j ≤ length bs → drop i bs ≡ byte bs i ∷ drop j bs
  byte_there i j e h = drop_more bs i 0 (omega arith) ∙ ap (λ (k : ℕ). byte bs i ∷ drop k bs) e

  pub u16_there : (i j : ℕ) → i + 2 ≡ j → j ≤ length bs → drop i bs ≡ u16_of (u16_at bs i) ++ drop j bs
  u16_there i j e h =
      byte_there i (i + 1) refl (omega arith)
      ∙ ap (λ (r : List ℕ). byte bs i ∷ r) (byte_there (i + 1) j (omega arith) h)
      ∙ ap (λ (r : List ℕ). r ++ drop j bs) (sym (two (byte bs i) (byte bs (i + 1)) (small i) (small (i + 1))))

  pub u32_there : (i j : ℕ) → i + 4 ≡ j → j ≤ length bs → drop i bs ≡ u32_of (u32_at bs i) ++ drop j bs
  u32_there i j e h =
      byte_there i (i + 1) refl (omega arith)
      ∙ ap (λ (r : List ℕ). byte bs i ∷ r) (byte_there (i + 1) (i + 2) (omega arith) (omega arith))
      ∙ ap (λ (r : List ℕ). byte bs i ∷ byte bs (i + 1) ∷ r) (byte_there (i + 2) (i + 2 + 1) refl (omega arith))
      ∙ ap (λ (r : List ℕ). byte bs i ∷ byte bs (i + 1) ∷ byte bs (i + 2) ∷ r) (byte_there (i + 2 + 1) j (omega arith) h)
      ∙ ap (λ (r : List ℕ). r ++ drop j bs) (sym (four (byte bs i) (byte bs (i + 1)) (byte bs (i + 2)) (byte bs (i + 2 + 1)) (small i) (small (i + 1)) (small (i + 2)) (small (i + 2 + 1))))

  pub u32_small : (i : ℕ) → u32_at bs i < 4294967296
  u32_small i = omega (arith, small i, small (i + 1), small (i + 2), small (i + 2 + 1))

-- What stands in a list is read there.
module _ (bs : List ℕ) where
  pub byte_read : (xs : List ℕ) (at i j : ℕ) → drop at bs ≡ xs → at + i ≡ j → byte bs j ≡ get_or xs i 0
  byte_read xs at i j e h = ap (λ (k : ℕ). get_or bs k 0) (sym h) ∙ sym (get_or-drop at bs i 0) ∙ ap (λ (ys : List ℕ). get_or ys i 0) e

  pub rest_read : (xs : List ℕ) (at i j : ℕ) → drop at bs ≡ xs → at + i ≡ j → drop j bs ≡ drop i xs
  rest_read xs at i j e h = ap (λ (k : ℕ). drop k bs) (sym h) ∙ sym (drop-drop i at bs) ∙ ap (drop i) e

  pub u16_read : (at n : ℕ) (rest : List ℕ) → n < 65536 → drop at bs ≡ u16_of n ++ rest → u16_at bs at ≡ n
  u16_read at n rest h e =
      let p = byte_read _ at 0 at e (omega arith) in
      let q = byte_read _ at 1 (at + 1) e refl in
      omega arith

  pub u32_read : (at n : ℕ) (rest : List ℕ) → n < 4294967296 → drop at bs ≡ u32_of n ++ rest → u32_at bs at ≡ n
  u32_read at n rest h e =
      let p = byte_read _ at 0 at e (omega arith) in
      let q = byte_read _ at 1 (at + 1) e refl in
      let r = byte_read _ at 2 (at + 2) e refl in
      let s = byte_read _ at 3 (at + 2 + 1) e (omega arith) in
      omega (arith, whole n h)
