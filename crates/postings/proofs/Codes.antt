-- Kinds and their codes determine each other.
use Rattle.std.proofs.Common.{◌≡◌, ℕ, Bool, true, false, cond, eqb, List, [], ◌∷◌, Some, sym, refl, arith}
use Rattle.std.proofs.lemmas.Bool.{eqb-true}
use Rattle.postings.specs.declared.kind.Kind.{Kind}
use Rattle.postings.specs.declared.kind.Kind.TheVariants.{Injection, Withdrawal, HourlyPurchase, HourlySale, BlockPurchase, BlockSale, FlexibleSale, Up, Down}
use Rattle.postings.specs.Table.{code, kinds, coded, kind_of}

coded_code : (ks : List Kind) (n : ℕ) (k : Kind) → coded n ks ≡ Some k → n ≡ code k
coded_code [] n k e = let z : ◌≡◌ {A = ℕ} 0 1 = cc in absurd (omega arith)
coded_code (x ∷ ks) n k e = step (eqb n (code x)) refl e (coded_code ks n k)
  where
    step : (b : Bool) → eqb n (code x) ≡ b → cond b (Some x) (coded n ks) ≡ Some k → (coded n ks ≡ Some k → n ≡ code k) → n ≡ code k
    step true t f more = let h : x ≡ k = cc in rw (sym h) (eqb-true n (code x) t)
    step false t f more = more f

-- the code of the kind that a code stands for
pub kind_code : (n : ℕ) (k : Kind) → kind_of n ≡ Some k → n ≡ code k
unfolding kind_of
kind_code n k e = coded_code kinds n k e

-- the kind that a kind's code stands for
pub code_kind : (k : Kind) → kind_of (code k) ≡ Some k
unfolding kind_of
code_kind Injection = refl
code_kind Withdrawal = refl
code_kind HourlyPurchase = refl
code_kind HourlySale = refl
code_kind BlockPurchase = refl
code_kind BlockSale = refl
code_kind FlexibleSale = refl
code_kind Up = refl
code_kind Down = refl
