-- The rows of a cut as calls hold them, and what they look for among them.
use Rattle.std.specs.Prelude.{◌≡◌, ℕ, Bool, true, false, List, Some, Contains, map}
use Rattle.clr_rows.specs.declared.cells.CellId.{CellId}
use Rattle.clr_rows.specs.Contents.{Content}
use Rattle.clr_rows.specs.Held.{Held}
use Rattle.clr_needs.specs.declared.needs.VersionId.{VersionId}
use Rattle.clr_needs.specs.Settings.{Setting, Lived, version}
use Rattle.clr_row_versions.specs.Versions.{version_of}
use Rattle.clr_spots.specs.Spots.{are_sharing}
use Rattle.clr_finders.specs.declared.finders.RowFinder.{Ghosts}
use Rattle.clr_foot.specs.Scenes.{SceneModel, setting_of}
use Rattle.clr_reach.specs.declared.aims.Aim.{Aim}
use Rattle.clr_cut_rows.specs.declared.cut_rows.CutRows.{CutRows}
use Rattle.clr_cut_rows.specs.declared.near.NearCells.{NearCells}

-- the cut by its own parts, as a scene's
abbrev pub model_of : {V F : Type 0} {finder : Ghosts F} → (V → Content) → CutRows V F finder → SceneModel F
model_of content cut = record {
  rules = cut.book.now;
  root = content cut.root.now;
  sets = map (λ s. s.now) cut.members.sets.items;
  finder = cut.finder.now;
}

abbrev pub setting_in : {V F : Type 0} {finder : Ghosts F} → (V → Content) → CutRows V F finder → Setting ℕ
setting_in content cut = setting_of (model_of content cut)

abbrev pub aim_of : {V F : Type 0} {finder : Ghosts F} → CutRows V F finder → Aim
aim_of cut = cut.aim

-- there is a version of the name, and P holds of it
abbrev pub HasAt : (VersionId → Lived ℕ → Type 0) → Setting ℕ → VersionId → Type 0
HasAt P c v = (l : Lived ℕ) × (version c v ≡ Some l) × P v l

-- P holds of the old version of one of the cells, or of the new one
abbrev pub HasAmong : (VersionId → Lived ℕ → Type 0) → Setting ℕ → Bool → List CellId → Type 0
HasAmong P c fresh cells = (q : CellId) × Contains cells q × HasAt P c (version_of fresh q)

-- of the cells with an old version, or with a new one, just those whose version shares with the row
pub record AreNear (c : Setting ℕ) (fresh : Bool) (number : ℕ) (s : Held) (cells : List CellId) : Type 0 where
  pub only : (q : CellId) (l : Lived ℕ) → Contains cells q → version c (version_of fresh q) ≡ Some l → are_sharing c.rules number (q, l.row) s ≡ true
  pub every : (q : CellId) (l : Lived ℕ) → version c (version_of fresh q) ≡ Some l → are_sharing c.rules number (q, l.row) s ≡ true → Contains cells q

-- both the old ones and the new ones
pub record AreNearCells (c : Setting ℕ) (number : ℕ) (s : Held) (near : NearCells) : Type 0 where
  pub old : AreNear c false number s near.old.items
  pub new : AreNear c true number s near.new.items
