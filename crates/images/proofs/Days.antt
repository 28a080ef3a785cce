-- The bytes of a day: their length, and how they are laid section by section.
use Rattle.std.proofs.Common.{◌≡◌, ℕ, ◌+◌, ◌*◌, ◌≤◌, List, ◌++◌, length, refl, ap, ◌∙◌, append_assoc, arith}
use Rattle.std.specs.List.{flat_map}
use Rattle.std.proofs.lemmas.List.{length-append}
use Rattle.postings.specs.declared.row.PostingRow.{PostingRow}
use Rattle.images.specs.Bytes.{u16_of, u32_of, row_bytes, bytes_of}
use Rattle.images.specs.Laying.{laid}
use Rattle.images.proofs.Laying.{laid_laid, length_joined}

prices_long : (prices : List ℕ) → length prices ≡ 24 → length (flat_map u32_of prices) ≡ 96
prices_long prices h = length_joined u32_of 4 (λ p. refl) prices ∙ omega arith

pub bytes_long : (prices : List ℕ) (list : List PostingRow) → length prices ≡ 24 → length (bytes_of prices list) ≡ 100 + 13 * length list
unfolding bytes_of
bytes_long prices list h =
    let p = prices_long prices h in
    let r = length_joined row_bytes 13 (λ x. refl) list in
    let s = length-append (flat_map u32_of prices) (u16_of (length list) ++ flat_map row_bytes list) in
    omega arith

-- four pieces, one after the other
laid_four : (old a b c d : List ℕ) (p q r : ℕ) → p ≡ length a → q ≡ p + length b → r ≡ q + length c → r + length d ≤ length old → laid (laid (laid (laid old 0 a) p b) q c) r d ≡ laid old 0 (a ++ (b ++ (c ++ d)))
laid_four old a b c d p q r ep eq er h =
    ap (λ (o : List ℕ). laid (laid o q c) r d) (laid_laid old 0 a b p (omega arith) (omega arith))
    ∙ ap (λ (o : List ℕ). laid o r d) (laid_laid old 0 (a ++ b) c q (simp length-append (omega arith)) (omega arith))
    ∙ laid_laid old 0 ((a ++ b) ++ c) d r (simp length-append (omega arith)) h
    ∙ ap (laid old 0) (simp append_assoc)

-- the two sections, each behind its count
pub laid_day : (old one two three four a c : List ℕ) (prices : List ℕ) (list : List PostingRow) → length prices ≡ 24 → 100 + 13 * length list ≤ length old → a ≡ u16_of (length prices) → c ≡ u16_of (length list) → one ≡ laid old 0 a → two ≡ laid one 2 (flat_map u32_of prices) → three ≡ laid two 98 c → four ≡ laid three 100 (flat_map row_bytes list) → four ≡ laid old 0 (bytes_of prices list)
unfolding bytes_of
laid_day old one two three four a c prices list h room ea ec e1 e2 e3 e4 =
    let n = prices_long prices h in
    let r = length_joined row_bytes 13 (λ x. refl) list in
    let all = laid_four old (u16_of (length prices)) (flat_map u32_of prices) (u16_of (length list)) (flat_map row_bytes list) 2 98 100 refl (omega arith) refl (omega arith) in
    cc
