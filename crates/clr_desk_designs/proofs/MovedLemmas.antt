-- Offices that a text gives.
use Rattle.std.proofs.Common.{◌≡◌, Result, Ok}
use Rattle.clr_steps.specs.Offices.{Office}

-- a text gives one office
pub same_office : {E : Type 0} (o p : Office) → ◌≡◌ {A = Result Office E} (Ok o) (Ok p) → o ≡ p
same_office o p e = cc
