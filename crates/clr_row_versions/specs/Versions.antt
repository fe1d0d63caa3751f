-- Versions with their rows and lives, as calls hold them, and what calls ask of rows.
use Rattle.std.specs.Prelude.{◌≡◌, ℕ, Bool, List, [], ◌∷◌, ⊤, Option, Some, None, Contains}
use Rattle.clr_rows.specs.declared.cells.CellId.{CellId}
use Rattle.clr_rows.specs.declared.tables.TableDef.{TableDef}
use Rattle.clr_rows.specs.Contents.{Changes}
use Rattle.clr_rows.specs.Held.{Held}
use Rattle.clr_rules.specs.declared.rules.Rule.{Rule}
use Rattle.clr_rules.specs.Books.{FitTogether, FitsBook, FitsCell}
use Rattle.clr_needs.specs.declared.needs.VersionId.{VersionId}
use Rattle.clr_row_versions.specs.declared.versions.Version.{Version}
use Rattle.clr_needs.specs.Members.{after_of, lifetime, positions}
use Rattle.clr_needs.specs.Settings.{Setting, Lived, first_changer, held_row, new_version, version}

abbrev pub version_of : Bool → CellId → VersionId
version_of fresh q = record { cell = q; fresh = fresh }

abbrev pub row_and_life : Version → Lived ℕ
row_and_life v = record { row = v.row.now; life = lifetime v.life }

abbrev pub row_of : Version → Held
row_of v = (v.id.cell, v.row.now)

-- a setting has the version
abbrev pub IsAt : Setting ℕ → Version → Type 0
IsAt c v = version c v.id ≡ Some (row_and_life v)

abbrev pub IsAtIfAny : Setting ℕ → Option Version → Type 0
IsAtIfAny c None = ⊤
IsAtIfAny c (Some v) = IsAt c v

-- a setting has the version under the name
abbrev pub IsNamed : Setting ℕ → VersionId → Version → Type 0
IsNamed c id v = (v.id ≡ id) × IsAt c v

abbrev pub IsNamedIfAny : Setting ℕ → Option VersionId → Option Version → Type 0
IsNamedIfAny c None None = ⊤
IsNamedIfAny c None (Some v) = ⊥
IsNamedIfAny c (Some id) None = version c id ≡ None
IsNamedIfAny c (Some id) (Some v) = IsNamed c id v

abbrev pub AreAt : Setting ℕ → List Version → Type 0
AreAt c vs = (v : Version) → Contains vs v → IsAt c v

-- one of some versions has the name
abbrev pub HasVersion : List Version → VersionId → Type 0
HasVersion vs id = (v : Version) × Contains vs v × (v.id ≡ id)

-- versions of a setting, all old or all new, among them each whose row is wanted
pub record Finds (c : Setting ℕ) (fresh : Bool) (wanted : Held → Type 0) (vs : List Version) : Type 0 where
  pub are : AreAt c vs
  pub alike : (v : Version) → Contains vs v → v.id.fresh ≡ fresh
  pub every : (q : CellId) (l : Lived ℕ) → version c (version_of fresh q) ≡ Some l → wanted (q, l.row) → HasVersion vs (version_of fresh q)

-- versions of a setting, old and new, among them each whose row is wanted
pub record FindsAll (c : Setting ℕ) (wanted : Held → Type 0) (vs : List Version) : Type 0 where
  pub are : AreAt c vs
  pub every : (v : VersionId) (l : Lived ℕ) → version c v ≡ Some l → wanted (held_row v l) → HasVersion vs v

-- the new version of a cell, if members bring one
abbrev pub new_version_at : List Changes → CellId → Option (Lived ℕ)
new_version_at sets q = new_version (after_of sets) q (first_changer (after_of sets) (positions sets) q)

-- what calls ask -----------------------------------------------------------------------------

-- one schema that the rules and the rows of all versions fit
pub record FitsSetting {A : Type 0} (c : Setting A) : Type 0 where
  pub tables : List TableDef
  pub book : FitsBook tables c.rules
  pub each : (v : VersionId) (l : Lived A) → version c v ≡ Some l → FitsCell tables (held_row v l)

-- the rules and the rows that members bring fit one schema
abbrev pub FitNewRows : List Rule → List Changes → Type 0
FitNewRows rules sets = (q : CellId) (l : Lived ℕ) → new_version_at sets q ≡ Some l → FitTogether rules ((q, l.row) ∷ [])
