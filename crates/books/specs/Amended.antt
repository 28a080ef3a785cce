-- The list of a correction layer keeps the law of books.
use Rattle.std.specs.Prelude.{◌≡◌, ℕ, suc, true, List, [], ◌∷◌, Some, None, Option, refl}
use Rattle.std.proofs.lemmas.Bool.{and_parts, and_from}
use Rattle.postings.specs.declared.row.PostingRow.{PostingRow}
use Rattle.postings.specs.Table.{lawful, all_lawful}
use Rattle.postings.proofs.Volumes.{lawful_at}
use Rattle.books.specs.Layers.{amend, amended}

-- lawful rows stay lawful
lawful_amend : (r : PostingRow) (o : Option ℕ) → lawful r ≡ true → lawful (amend r o) ≡ true
lawful_amend r None h = h
lawful_amend r (Some v) h = lawful_at r v h

pub lawful_amended : (f : ℕ → Option ℕ) (i : ℕ) (rs : List PostingRow) → all_lawful rs ≡ true → all_lawful (amended f i rs) ≡ true
lawful_amended f i [] h = refl
lawful_amended f i (r ∷ rs) h =
    let p = and_parts (lawful r) (all_lawful rs) h in
    and_from (lawful (amend r (f i))) (all_lawful (amended f (suc i) rs)) (lawful_amend r (f i) p.0) (lawful_amended f (suc i) rs p.1)
