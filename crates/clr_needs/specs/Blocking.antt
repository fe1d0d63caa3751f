-- Tests of lives, and of the members that break a need.
use Rattle.std.specs.Prelude.{ℕ, Bool, true, false, ◌||◌, ◌==◌, Option, Some, None}
use Rattle.clr_needs.specs.declared.needs.Need.{Need}
use Rattle.clr_needs.specs.declared.needs.VersionId.{VersionId}
use Rattle.clr_needs.specs.Covers.{IsBlocker}
use Rattle.clr_needs.specs.Needs.{IsPossible}
use Rattle.clr_needs.specs.Settings.{Setting, Lifetime, Always, With, Without, Lived, version}

abbrev pub same_life : Lifetime ℕ → Lifetime ℕ → Bool
same_life Always Always = true
same_life (With m) (With n) = m == n
same_life (Without m) (Without n) = m == n
same_life _ _ = false

-- a version that is there has the life
abbrev pub has_life : Lifetime ℕ → Option (Lived ℕ) → Bool
has_life life None = false
has_life life (Some l) = same_life l.life life

-- the one version that is named, or one of the two, has the life
abbrev pub has_life_by : Lifetime ℕ → Setting ℕ → VersionId → Option VersionId → Bool
has_life_by life c v None = has_life life (version c v)
has_life_by life c v (Some w) = has_life life (version c v) || has_life life (version c w)

-- a subject of a need has the life
abbrev pub has_subject_of_life : Lifetime ℕ → Setting ℕ → Need → Bool
has_subject_of_life life c n = has_life_by life c n.first n.second

-- the member breaks the possible need
abbrev pub IsBlockerOf : {A : Type 0} → Setting A → Need → A → Type 0
IsBlockerOf {A} c n x = (a : Lived A) × (b : Option (Lived A)) × IsPossible c n a b × IsBlocker c n a b x

abbrev pub IsToldBlocker : Setting ℕ → Need → ℕ → Bool → Type 0
IsToldBlocker c n x true = IsBlockerOf c n x
IsToldBlocker c n x false = ¬ (IsBlockerOf c n x)
