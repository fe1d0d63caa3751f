-- Whether lives of versions name a member.
use Rattle.std.specs.Prelude.{ℕ, Bool, false, ◌==◌, ◌||◌, Option, Some, None}
use Rattle.clr_needs.specs.declared.needs.VersionId.{VersionId}
use Rattle.clr_needs.specs.Settings.{Setting, Lifetime, Always, With, Without, Lived, version}

-- a life names the member
abbrev pub names : Lifetime ℕ → ℕ → Bool
names Always x = false
names (With n) x = n == x
names (Without n) x = n == x

-- the life of a version that is there names the member
abbrev pub names_at : ℕ → Option (Lived ℕ) → Bool
names_at x None = false
names_at x (Some l) = names l.life x

-- the life of the one version that is named, or of one of the two, names the member
abbrev pub names_by : ℕ → Setting ℕ → VersionId → Option VersionId → Bool
names_by x c v None = names_at x (version c v)
names_by x c v (Some w) = names_at x (version c v) || names_at x (version c w)
