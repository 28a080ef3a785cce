-- What a lawful row keeps, and lists of lawful rows.
use Rattle.std.proofs.Common.{◌≡◌, ℕ, zero, suc, ◌+◌, ◌<◌, ◌≤◌, true, List, [], ◌∷◌, ◌++◌, map, Some, sym, refl, arith}
use Rattle.std.specs.List.{slice_get, range_with_len}
use Rattle.std.proofs.lemmas.Bool.{and_parts, and_from}
use Rattle.faults.specs.declared.making.MakingFault.{MakingFault}
use Rattle.faults.specs.declared.making.MakingFault.TheVariants.{Kind, Hours, Volume, Price, Label, Member}
use Rattle.faults.specs.Asks.{Met, Refused}
use Rattle.faults.proofs.Asks.{AllDecided, decided_ask, true_or_not, asks_never}
use Rattle.postings.specs.declared.row.PostingRow.{PostingRow}
use Rattle.postings.specs.Table.{lawful, all_lawful, kind_kept, hours_kept, volume_kept, price_kept, label_kept, member_kept}
use Rattle.postings.specs.Making.{to_make}

-- a lawful row meets all that a making asks
pub lawful_met : (r : PostingRow) → lawful r ≡ true → Met (to_make r)
unfolding lawful
lawful_met r h =
    let p = and_parts (kind_kept r) _ h in
    let q = and_parts (hours_kept r) _ p.1 in
    let s = and_parts (volume_kept r) _ q.1 in
    let t = and_parts (price_kept r) _ s.1 in
    let u = and_parts (label_kept r) (member_kept r) t.1 in
    (p.0, (q.0, (s.0, (t.0, (u.0, (u.1, tt))))))

-- and a row that meets it is lawful
pub met_lawful : (r : PostingRow) → Met (to_make r) → lawful r ≡ true
unfolding lawful
met_lawful r m =
    and_from (kind_kept r) _ m.0 (and_from (hours_kept r) _ m.1.0 (and_from (volume_kept r) _ m.1.1.0 (and_from (price_kept r) _ m.1.1.1.0 (and_from (label_kept r) (member_kept r) m.1.1.1.1.0 m.1.1.1.1.1.0))))

pub making_decided : (r : PostingRow) → AllDecided (to_make r)
making_decided r = (
  decided_ask Kind _ (true_or_not (kind_kept r)),
  (
    decided_ask Hours _ (true_or_not (hours_kept r)),
    (
      decided_ask Volume _ (true_or_not (volume_kept r)),
      (
        decided_ask Price _ (true_or_not (price_kept r)),
        (decided_ask Label _ (true_or_not (label_kept r)), (decided_ask Member _ (true_or_not (member_kept r)), tt)),
      ),
    ),
  ),
)

-- so its making is never refused
pub lawful_made : (r : PostingRow) (f : MakingFault) → lawful r ≡ true → Refused (to_make r) f → ⊥
lawful_made r f h e = asks_never (to_make r) (making_decided r) f e (lawful_met r h)

-- lists of lawful rows
pub lawful_push : (rs : List PostingRow) (r : PostingRow) → all_lawful rs ≡ true → lawful r ≡ true → all_lawful (rs ++ (r ∷ [])) ≡ true
lawful_push [] r h k = and_from (lawful r) true k refl
lawful_push (x ∷ xs) r h k =
    let p = and_parts (lawful x) (all_lawful xs) h in
    and_from (lawful x) (all_lawful (xs ++ (r ∷ []))) p.0 (lawful_push xs r p.1 k)

pub lawful_nth : (rs : List PostingRow) (i : ℕ) (r : PostingRow) → all_lawful rs ≡ true → slice_get rs i ≡ Some r → lawful r ≡ true
lawful_nth [] i r h e = let z : ◌≡◌ {A = ℕ} 0 1 = cc in absurd (omega arith)
lawful_nth (x ∷ xs) zero r h e =
    let p = and_parts (lawful x) (all_lawful xs) h in
    let q : x ≡ r = cc in rw (sym q) p.0
lawful_nth (x ∷ xs) (suc i) r h e = lawful_nth xs i r (and_parts (lawful x) (all_lawful xs) h).1 e

-- rows by their places
pub lawful_places : (f : ℕ → PostingRow) (a n : ℕ) → ((k : ℕ) → a ≤ k → k < a + n → lawful (f k) ≡ true) → all_lawful (map f (range_with_len a n)) ≡ true
lawful_places f a zero h = refl
lawful_places f a (suc n) h =
    and_from (lawful (f a)) _ (h a (omega arith) (omega arith)) (lawful_places f (a + 1) n (λ k l u. h k (omega arith) (omega arith)))
