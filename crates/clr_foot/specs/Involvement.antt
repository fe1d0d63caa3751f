-- Possible needs that involve a member, and the versions by which they do.
use Rattle.std.specs.Prelude.{ℕ, Bool, true, false, Option}
use Rattle.clr_needs.specs.declared.needs.Need.{Need}
use Rattle.clr_needs.specs.Independence.{Involves}
use Rattle.clr_needs.specs.Needs.{IsPossible}
use Rattle.clr_needs.specs.Settings.{Setting, Lived}

-- a possible need that involves the member
abbrev pub IsInvolving : Setting ℕ → ℕ → Need → Type 0
IsInvolving c x n = (a : Lived ℕ) × (b : Option (Lived ℕ)) × IsPossible c n a b × Involves c n a b x

abbrev pub IsToldInvolving : Setting ℕ → ℕ → Need → Bool → Type 0
IsToldInvolving c x n true = IsInvolving c x n
IsToldInvolving c x n false = ¬ (IsInvolving c x n)
