-- The bounds of every lawful row, from the table.
use Rattle.std.proofs.Common.{◌≡◌, ℕ, ◌≤◌, Bool, true, ◌&&◌, leb, ℤ, pos, negsuc, nat_abs, ◌≤ℤ◌, Some, None, Option, refl, arith}
use lib.Signed.{le_z}
use Rattle.std.proofs.lemmas.Int.{ints}
use Rattle.std.proofs.lemmas.Bool.{and_parts, leb-true, ltb-true}
use Rattle.postings.specs.declared.kind.Kind.{Kind}
use Rattle.postings.specs.declared.kind.Kind.TheVariants.{Injection, Withdrawal, HourlyPurchase, HourlySale, BlockPurchase, BlockSale, FlexibleSale, Up, Down}
use Rattle.postings.specs.declared.limits.Limits.{Limits}
use Rattle.postings.specs.declared.row.PostingRow.{PostingRow}
use Rattle.postings.specs.Table.{lawful, kind_of, allowed, limits_of, hours_within, volume_within, price_within}
use Rattle.postings.specs.Bounds.{Bounds}
use Rattle.postings.proofs.Lawful.{lawful_met}

-- the widest limits of the table
abbrev wide : Limits → Bool
wide l = leb l.volume 10000 && (le_z (negsuc 499999) l.lowest && (le_z l.highest (pos 500000) && leb l.label 1))

wide_row : (o : Option Kind) → wide (allowed o) ≡ true
wide_row None = refl
wide_row (Some Injection) = refl
wide_row (Some Withdrawal) = refl
wide_row (Some HourlyPurchase) = refl
wide_row (Some HourlySale) = refl
wide_row (Some BlockPurchase) = refl
wide_row (Some BlockSale) = refl
wide_row (Some FlexibleSale) = refl
wide_row (Some Up) = refl
wide_row (Some Down) = refl

record Widest (l : Limits) : Type 0 where
  volume : l.volume ≤ 10000
  low : negsuc 499999 ≤ℤ l.lowest
  high : l.highest ≤ℤ pos 500000
  label : l.label ≤ 1

widest : (l : Limits) → wide l ≡ true → Widest l
widest l h =
    let p = and_parts (leb l.volume 10000) _ h in
    let q = and_parts (le_z (negsuc 499999) l.lowest) _ p.1 in
    let s = and_parts (le_z l.highest (pos 500000)) (leb l.label 1) q.1 in
    record { volume = leb-true l.volume 10000 p.0; low = grind (arith, ints); high = grind (arith, ints); label = leb-true l.label 1 s.1 }

ordered : (l : Limits) (first last : ℕ) → hours_within l first last ≡ true → (first ≤ last) × (last ≤ 23)
ordered l first last h =
    let p = and_parts (leb first last && leb last 23) _ h in
    let q = and_parts (leb first last) (leb last 23) p.0 in
    (leb-true first last q.0, leb-true last 23 q.1)

in-volume : (l : Limits) (v : ℕ) → Widest l → volume_within l v ≡ true → (1 ≤ v) × (v ≤ 10000)
in-volume l v w h =
    let p = and_parts (leb 1 v) (leb v l.volume) h in
    (leb-true 1 v p.0, omega (arith, leb-true v l.volume p.1, w.volume))

in-price : (l : Limits) (p : ℤ) → Widest l → price_within l p ≡ true → nat_abs p ≤ 500000
in-price l p w h =
    let q = and_parts (le_z l.lowest p) (le_z p l.highest) h in
    let low : l.lowest ≤ℤ p = grind (arith, ints) in
    let high : p ≤ℤ l.highest = grind (arith, ints) in
    omega (arith, ints, w.low, w.high)

pub bounds : (r : PostingRow) → lawful r ≡ true → Bounds r
bounds r h =
    let m = lawful_met r h in
    let w = widest (limits_of r) (wide_row (kind_of r.kind)) in
    let o = ordered (limits_of r) r.first r.last m.1.0 in
    let v = in-volume (limits_of r) r.volume w m.1.1.0 in
    record {
      ordered = o.0;
      last = o.1;
      some = v.0;
      volume = v.1;
      price = in-price (limits_of r) r.price w m.1.1.1.0;
      label = omega (arith, leb-true r.label (limits_of r).label m.1.1.1.1.0, w.label);
      member = ltb-true r.member 64 m.1.1.1.1.1.0;
    }
