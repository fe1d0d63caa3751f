-- The least of the versions that serve a need with a test passed, and the pairs of one member among them.
use Rattle.std.specs.Prelude.{◌≡◌, ℕ, ◌<◌, Bool, true, false, ◌||◌, List, Option, Some, None, Contains}
use Rattle.clr_needs.specs.declared.needs.Need.{Need}
use Rattle.clr_needs.specs.declared.needs.VersionId.{VersionId}
use Rattle.clr_needs.specs.Blocking.{has_life, has_subject_of_life, same_life}
use Rattle.clr_needs.specs.Picks.{IsLeastVersion}
use Rattle.clr_needs.specs.Settings.{Setting, Lifetime, Always, With, Without, Lived, version}

-- one of some versions, which passes a test
abbrev pub IsPassing : (VersionId → Bool) → List VersionId → VersionId → Type 0
IsPassing test ids v = Contains ids v × (test v ≡ true)

-- the least of some versions that passes a test, if one does
abbrev pub IsLeastPassing : (VersionId → Bool) → List VersionId → Option VersionId → Type 0
IsLeastPassing test ids None = (v : VersionId) → ¬ (IsPassing test ids v)
IsLeastPassing test ids (Some v) = IsLeastVersion (IsPassing test ids) v

-- the version is there and has this life
abbrev pub has_life_at : Lifetime ℕ → Setting ℕ → VersionId → Bool
has_life_at life c v = has_life life (version c v)

-- the version lives always, or as long as a subject of the need
abbrev pub lasts : Setting ℕ → Need → Option (Lived ℕ) → Bool
lasts c n None = false
lasts c n (Some l) = same_life l.life Always || has_subject_of_life l.life c n

abbrev pub lasts_at : Setting ℕ → Need → VersionId → Bool
lasts_at c n v = lasts c n (version c v)

-- the member takes one of some versions away and brings another
abbrev pub HasPair : Setting ℕ → List VersionId → ℕ → Type 0
HasPair c ids x = ((v : VersionId) × IsPassing (has_life_at (Without x) c) ids v) × ((w : VersionId) × IsPassing (has_life_at (With x) c) ids w)

-- the least of the versions that the member takes away, and the least of those that it brings, if there are both
abbrev pub IsPairOf : Setting ℕ → List VersionId → ℕ → Option (VersionId × VersionId) → Type 0
IsPairOf c ids x None = ¬ (HasPair c ids x)
IsPairOf c ids x (Some (v, w)) = IsLeastVersion (IsPassing (has_life_at (Without x) c) ids) v × IsLeastVersion (IsPassing (has_life_at (With x) c) ids) w

-- the pair of the first member that has one, if a member below a number has one
abbrev pub IsFirstPair : Setting ℕ → List VersionId → ℕ → Option (VersionId × VersionId) → Type 0
IsFirstPair c ids count None = (x : ℕ) → x < count → ¬ (HasPair c ids x)
IsFirstPair c ids count (Some pair) = (x : ℕ) × IsPairOf c ids x (Some pair) × ((y : ℕ) → y < x → ¬ (HasPair c ids y))
