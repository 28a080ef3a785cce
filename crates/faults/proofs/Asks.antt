-- Asks that are decided: a call that makes them has one answer, and one fault at most.
use Rattle.std.proofs.Common.{◌≡◌, ℕ, zero, suc, ◌<◌, ◌≤◌, Bool, true, false, ◌⊎◌, List, [], ◌∷◌, sym, refl, ap, ◌∙◌, subst, ap₂, inl, inr, ⊎_elim, arith}
use Rattle.std.proofs.lemmas.Bool.{cases_lt, cases_order, cases_eq}
use Rattle.faults.specs.Asks.{Ask, ask, ask_each, ask_within, Met, Refused}

-- an ask holds, or has its fault; never both, and one fault at most
pub record Decided {F : Type 0} (a : Ask F) : Type 0 where
  pub either : a.holds ⊎ ((f : F) × a.refuses f)
  pub one : (f g : F) → a.refuses f → a.refuses g → f ≡ g
  pub never : (f : F) → a.refuses f → a.holds → ⊥

abbrev pub AllDecided : {F : Type 0} → List (Ask F) → Type 0
AllDecided [] = Unit {0}
AllDecided (a ∷ more) = Decided a × AllDecided more

-- all places below n hold, or there is a lowest one that does not
lowest : (n : ℕ) (p : ℕ → Type 0) → ((k : ℕ) → p k ⊎ (p k → ⊥)) → ((k : ℕ) → k < n → p k) ⊎ ((k : ℕ) × (k < n) × (p k → ⊥) × ((j : ℕ) → j < k → p j))
lowest zero p d = inl (λ k lt. absurd (omega arith))
lowest (suc n) p d =
    ⊎_elim
    (λ below. ⊎_elim (λ h. inl (λ k lt. ⊎_elim (λ less. below k less) (λ le. let same : n ≡ k = omega arith in subst p same h) (cases_lt k n))) (λ no. inr (n, (omega arith), no, below)) (d n))
    (λ found. inr (found.0, omega (arith, found.1), found.2, found.3))
    (lowest n p d)

module _ {F : Type 0} where
  -- the asks are all met, or one of them refuses
  pub asks_either : (asks : List (Ask F)) → AllDecided asks → Met asks ⊎ ((f : F) × Refused asks f)
  asks_either [] d = inl tt
  asks_either (a ∷ more) d =
      ⊎_elim (λ h. ⊎_elim (λ m. inl (h, m)) (λ r. inr (r.0, inr (h, r.1))) (asks_either more d.1)) (λ r. inr (r.0, inl r.1)) d.0.either

  -- two faults of one call are the same
  pub asks_one : (asks : List (Ask F)) → AllDecided asks → (f g : F) → Refused asks f → Refused asks g → f ≡ g
  asks_one [] d f g p q = absurd p
  asks_one (a ∷ more) d f g (inl p) (inl q) = d.0.one f g p q
  asks_one (a ∷ more) d f g (inl p) (inr q) = absurd (d.0.never f p q.0)
  asks_one (a ∷ more) d f g (inr p) (inl q) = absurd (d.0.never g q p.0)
  asks_one (a ∷ more) d f g (inr p) (inr q) = asks_one more d.1 f g p.1 q.1

  -- no fault comes where all is met
  pub asks_never : (asks : List (Ask F)) → AllDecided asks → (f : F) → Refused asks f → Met asks → ⊥
  asks_never [] d f p m = p
  asks_never (a ∷ more) d f (inl p) m = d.0.never f p m.0
  asks_never (a ∷ more) d f (inr p) m = asks_never more d.1 f p.1 m.1

  -- what is decided makes a decided ask
  pub decided_ask : (f : F) (p : Type 0) → p ⊎ (p → ⊥) → Decided (ask f p)
  decided_ask f p d = record {
    either = ⊎_elim (λ h. inl h) (λ n. inr (f, (refl, n))) d;
    one = λ g h r q. r.0 ∙ sym q.0;
    never = λ g r h. r.1 h;
  }

  pub decided_each : (f : ℕ → F) (n : ℕ) (p : ℕ → Type 0) → ((k : ℕ) → p k ⊎ (p k → ⊥)) → Decided (ask_each f n p)
  decided_each f n p d = record {
    either = ⊎_elim (λ h. inl h) (λ r. inr (f r.0, (r.0, refl, r.1, r.2, r.3))) (lowest n p d);
    one = λ g h r q.
        let same : r.0 ≡ q.0 = ⊎_elim (λ e. e) (λ o. ⊎_elim (λ lt. absurd (r.3 (q.4 r.0 lt))) (λ lt. absurd (q.3 (r.4 q.0 lt))) o) (cases_order r.0 q.0) in
        r.1 ∙ ap f same ∙ sym q.1;
    never = λ g r h. r.3 (h r.0 r.2);
  }

-- at each place below n all is met, or there is a lowest one with a fault
pub decided_within : {F G : Type 0} (f : ℕ → G → F) (n : ℕ) (asks : ℕ → List (Ask G)) → ((k : ℕ) → AllDecided (asks k)) → Decided (ask_within f n asks)
decided_within {F} {G} f n asks d = record {
  either = ⊎_elim (λ h. inl h) (λ r. found r (asks_either (asks r.0) (d r.0))) (lowest n (λ k. Met (asks k)) (λ k. met_or_not k (asks_either (asks k) (d k))));
  one = λ g h r q.
      let same : r.0 ≡ q.0 = ⊎_elim (λ e. e)
      (λ o. ⊎_elim (λ lt. absurd (asks_never (asks r.0) (d r.0) r.1 r.4 (q.5 r.0 lt))) (λ lt. absurd (asks_never (asks q.0) (d q.0) q.1 q.4 (r.5 q.0 lt))) o) (cases_order r.0 q.0) in
      r.2 ∙ ap₂ f same (asks_one (asks q.0) (d q.0) r.1 q.1 (subst (λ (k : ℕ). Refused (asks k) r.1) same r.4) q.4) ∙ sym q.2;
  never = λ g r h. asks_never (asks r.0) (d r.0) r.1 r.4 (h r.0 r.3);
}
  where
    met_or_not : (k : ℕ) → Met (asks k) ⊎ ((g : G) × Refused (asks k) g) → Met (asks k) ⊎ (Met (asks k) → ⊥)
    met_or_not k (inl m) = inl m
    met_or_not k (inr r) = inr (λ m. asks_never (asks k) (d k) r.0 r.1 m)

    found : (r : (k : ℕ) × (k < n) × (Met (asks k) → ⊥) × ((j : ℕ) → j < k → Met (asks j))) → Met (asks r.0) ⊎ ((g : G) × Refused (asks r.0) g) → (ask_within f n asks).holds ⊎ ((g : F) × (ask_within f n asks).refuses g)
    found r (inl m) = absurd (r.2 m)
    found r (inr q) = inr (f r.0 q.0, (r.0, q.0, refl, r.1, q.1, r.3))

-- tests and orders are decided
pub true_or_not : (b : Bool) → (b ≡ true) ⊎ (b ≡ true → ⊥)
true_or_not true = inl refl
true_or_not false = inr (λ e. let z : ◌≡◌ {A = ℕ} 0 1 = cc in omega arith)

pub eq_or_not : (a b : ℕ) → (a ≡ b) ⊎ (a ≡ b → ⊥)
eq_or_not a b = cases_eq a b

pub le_or_not : (a b : ℕ) → (a ≤ b) ⊎ (a ≤ b → ⊥)
le_or_not a b = ⊎_elim (λ lt. inr (λ le. omega arith)) (λ le. inl le) (cases_lt b a)

pub lt_or_not : (a b : ℕ) → (a < b) ⊎ (a < b → ⊥)
lt_or_not a b = ⊎_elim (λ lt. inl lt) (λ le. inr (λ lt. omega arith)) (cases_lt a b)
