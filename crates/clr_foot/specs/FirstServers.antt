-- The first of the versions that serve a need and are looked for.
use Rattle.std.specs.Prelude.{◌≡◌, ℕ, Bool, true, false, ◌⊎◌, Option, Some, None, Contains}
use Rattle.clr_rows.specs.declared.cells.CellId.{CellId}
use Rattle.clr_finders.specs.Sharing.{Settled, found_cells}
use Rattle.clr_finders.specs.declared.row_spots.RuleSpots.{RuleSpots}
use Rattle.clr_needs.specs.declared.needs.Need.{Need}
use Rattle.clr_needs.specs.declared.needs.VersionId.{VersionId}
use Rattle.clr_needs.specs.Broken.{is_living_at}
use Rattle.clr_needs.specs.Needs.{IsServing, ask_of}
use Rattle.clr_needs.specs.Settings.{Setting, version}
use Rattle.clr_needs.specs.Witnesses.{lasts_at}
use Rattle.clr_foot.specs.declared.first_servers.Sought.{Sought}
use Rattle.clr_foot.specs.declared.first_servers.Sought.TheVariants.{Living, Lasting}
use Rattle.clr_row_versions.specs.declared.versions.Version.{Version}
use Rattle.clr_foot.specs.Touches.{IsServerOf}
use Rattle.clr_row_versions.specs.Versions.{version_of}

-- the version stands after the merge of the one member; or it lives always, or as long as a subject of the need
abbrev pub is_sought : Sought → Setting ℕ → Need → VersionId → Bool
is_sought Living c n v = is_living_at (version c v)
is_sought Lasting c n v = lasts_at c n v

-- a version that is sought serves a need
abbrev pub IsServingSought : Sought → Setting ℕ → Need → VersionId → Type 0
IsServingSought sought c n v = IsServing c n v × (is_sought sought c n v ≡ true)

-- a version that is sought serves what a need asks of given subjects
abbrev pub IsServerSought : Sought → Setting ℕ → Need → Version → Option Version → VersionId → Type 0
IsServerSought sought c n s t v = IsServerOf c (ask_of n) s t v × (is_sought sought c n v ≡ true)

abbrev pub IsToldServer : Sought → Setting ℕ → Need → Version → Option Version → VersionId → Bool → Type 0
IsToldServer sought c n s t v true = IsServerSought sought c n s t v
IsToldServer sought c n s t v false = ¬ (IsServerSought sought c n s t v)

-- the old version of a cell or else its new one, as far as it serves and is looked for
abbrev pub IsFirstAt : Sought → Setting ℕ → Need → Version → Option Version → CellId → Option VersionId → Type 0
IsFirstAt sought c n s t q None = (fresh : Bool) → ¬ (IsServerSought sought c n s t (version_of fresh q))
IsFirstAt sought c n s t q (Some v) = (v.cell ≡ q) × IsServerSought sought c n s t v
    × (v.fresh ≡ true → ¬ (IsServerSought sought c n s t (version_of false q)))

-- the cell is found among those of old rows that may serve, or of new ones
abbrev pub IsFoundCell : Settled → Settled → ℕ → RuleSpots → CellId → Type 0
IsFoundCell old new number x q = Contains (found_cells true old number x) q ⊎ Contains (found_cells true new number x) q
