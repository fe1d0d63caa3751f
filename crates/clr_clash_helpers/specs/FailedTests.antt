-- What a test answers of members that can't stand together.
use Rattle.std.specs.Prelude.{◌≡◌, Bool, false}
use Rattle.clr_clearance.specs.declared.verdicts.Verdict.{Verdict}
use Rattle.clr_clearance.specs.declared.verdicts.Verdict.TheVariants as verdict

-- the test fails; for want of memory there is no answer
abbrev pub IsRefused : Verdict → Bool → Type 0
IsRefused verdict.OutOfMemory told = ⊥
IsRefused _ told = told ≡ false
