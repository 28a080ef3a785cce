-- What a code stands for.
use Rattle.std.specs.Prelude.{◌≡◌, ℕ, Some, None, Ok, Err, Result}
use Rattle.faults.specs.declared.making.MakingFault.{MakingFault}
use Rattle.faults.specs.declared.making.MakingFault.TheVariants.{Kind as NoKind}
use Rattle.postings.specs.declared.kind.Kind.{Kind}
use Rattle.postings.specs.Table.{kind_of}

-- what is not the code of one of the nine kinds is refused
pub record NotDecoded (n : ℕ) (f : MakingFault) : Type 0 where
  pub value : f ≡ NoKind
  pub none : kind_of n ≡ None

-- the kind of a code, or the refusal
abbrev pub Decoded : ℕ → Result Kind MakingFault → Type 0
Decoded n (Ok k) = kind_of n ≡ Some k
Decoded n (Err f) = NotDecoded n f
