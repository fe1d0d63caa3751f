-- Differences that are stored before a content changes, so that what follows it stays.
use Rattle.std.specs.Prelude.{◌≡◌, ℕ, ◌<◌, false, List, [], ◌∷◌, Option, length}
use Rattle.std.specs.FinMap as finite
use Rattle.clr_rows.specs.declared.cells.CellId.{CellId}
use Rattle.clr_rows.specs.declared.rows.Row.{Row}
use Rattle.clr_rows.specs.Contents.{Content, Changes, row_at}
use Rattle.clr_change.specs.ChangeSets.{set_change}
use Rattle.clr_deltas.specs.Differences.{RowsByCell, HasDifference, HasDifferences, is_among, IsOwnOver}
use Rattle.clr_workspaces.specs.Marks.{Name}
use Rattle.clr_deltas.specs.Deltas.{Delta, delta_at, IsUnder, AreOwnOver}

-- a delta of the same name and parent with at least the differences of another
pub record HasDifferencesOf (l m : Delta) : Type 0 where
  pub name : m.name ≡ l.name
  pub parent : m.parent ≡ l.parent
  pub base : (q : CellId) → HasDifference l.base q → HasDifference m.base q
  pub current : (q : CellId) → HasDifference l.current q → HasDifference m.current q

-- each delta has the same name and parent as before, and at least the same differences
pub record Extends (ls ms : List Delta) : Type 0 where
  pub long : length ms ≡ length ls
  pub each : (k : ℕ) → HasDifferencesOf (delta_at ls k) (delta_at ms k)

-- a delta has the base difference of another at a cell, and no other neutral difference there where the other has none
pub record StaysOwnAt (q : CellId) (l m : Delta) : Type 0 where
  pub base : finite.get m.base q ≡ finite.get l.base q
  pub current : (row : Option Row) → IsOwnOver row (finite.get l.current q) → IsOwnOver row (finite.get m.current q)
  pub saved : (row : Option Row) → AreOwnOver row q l.marks → AreOwnOver row q m.marks

-- each delta has no new neutral difference at any cell, but for the one at a position at some cells
abbrev pub StayOwnBut : ℕ → List CellId → List Delta → List Delta → Type 0
StayOwnBut at cells ls ms = (k : ℕ) (q : CellId) → (k ≡ at → is_among cells q ≡ false) → StaysOwnAt q (delta_at ls k) (delta_at ms k)

-- each delta has no new neutral difference at any cell, but for the children of a workspace at some cells
abbrev pub StayOwnButChildren : Name → List CellId → List Delta → List Delta → Type 0
StayOwnButChildren name cells ls ms = (k : ℕ) (q : CellId) → (IsUnder name (delta_at ls k) → is_among cells q ≡ false)
    → StaysOwnAt q (delta_at ls k) (delta_at ms k)

-- the base of each child of a workspace has differences at these cells
abbrev pub ChildrenStore : List Delta → Name → List CellId → Type 0
ChildrenStore ls name cells = (k : ℕ) → 0 < k → k < length ls → IsUnder name (delta_at ls k) → HasDifferences (delta_at ls k).base cells

-- the changes from a content to the rows at some cells, set one after another
unfoldable pub set_each : Content → Changes → RowsByCell → Changes
set_each base changed [] = changed
set_each base changed (e ∷ es) = set_each base (set_change changed e.0 (row_at base e.0) e.1) es
