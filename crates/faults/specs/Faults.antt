-- What each fault tells a caller: its number, and the values that it bears.
use Rattle.std.specs.Prelude.{ℕ, Some, None, Option}
use Rattle.faults.specs.declared.making.MakingFault.{MakingFault}
use Rattle.faults.specs.declared.making.MakingFault.TheVariants.{Kind, Hours, Volume, Price, Label, Member}
use Rattle.faults.specs.declared.fault.Fault.{Fault}
use Rattle.faults.specs.declared.fault.Fault.TheVariants.{Making, NotMember, StrangerAt, BookFull, NoPosting, CorrectionsFull, MemberCount, PriceCount, PriceAt, FewRows, FewAccounts, PartCount, ManyPostings, MuchVolume, LargeShare, SavingBelowNil, ImageFrame, ImagePriceAt, ImagePostingAt, NoRoom, NothingDue, ClaimNotOfSet, HeldBelowClaim, DepositSize, ClosingsUsed}

-- the number of each fault of a making
abbrev pub making_number : MakingFault → ℕ
making_number Kind = 1
making_number Hours = 2
making_number Volume = 3
making_number Price = 4
making_number Label = 5
making_number Member = 6

-- the number, the lowest place at fault where the fault bears one, and the fault of the making where it carries one
pub record Report : Type 0 where
  pub number : ℕ
  pub place : Option ℕ
  pub making : Option MakingFault

-- a number alone
abbrev pub plain : ℕ → Report
plain n = record { number = n; place = None; making = None }

-- a number with a place
abbrev pub at : ℕ → ℕ → Report
at n k = record { number = n; place = Some k; making = None }

abbrev pub report : Fault → Report
report (Making m) = record { number = making_number m; place = None; making = Some m }
report NotMember = plain 6
report (StrangerAt k) = at 6 k
report BookFull = plain 7
report NoPosting = plain 8
report CorrectionsFull = plain 9
report MemberCount = plain 10
report PriceCount = plain 11
report (PriceAt k) = at 11 k
report FewRows = plain 12
report FewAccounts = plain 12
report PartCount = plain 12
report ManyPostings = plain 13
report MuchVolume = plain 13
report LargeShare = plain 13
report SavingBelowNil = plain 14
report ImageFrame = plain 15
report (ImagePriceAt k) = at 16 k
report (ImagePostingAt k m) = record { number = 16; place = Some k; making = Some m }
report NoRoom = plain 17
report NothingDue = plain 18
report ClaimNotOfSet = plain 19
report HeldBelowClaim = plain 20
report DepositSize = plain 21
report ClosingsUsed = plain 22
