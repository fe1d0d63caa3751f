-- The cells that an office text lists of its workspaces.
use Rattle.std.specs.Prelude.{◌≡◌, ℕ, List, [], ◌∷◌, Option, None, Ok}
use Rattle.std.specs.FinMap as finite
use Rattle.clr_rows.specs.declared.cells.CellId.{CellId}
use Rattle.clr_rows.specs.declared.rows.Row.{Row}
use Rattle.clr_deltas.specs.Deltas.{Delta}
use Rattle.clr_deltas.specs.Differences.{Differences, no_differences}
use Rattle.clr_office_reading.specs.Offices.{OfficeText, office_in}

-- differences with the cells of others, at which they have no row
unfoldable pub with_entries : Differences → List (CellId × Option Row) → Differences
with_entries cells [] = cells
with_entries cells (e ∷ es) = with_entries (finite.insert cells e.0 None) es

-- the same with the cells of workspaces, those of their bases and those of their rows
unfoldable pub with_deltas : Differences → List Delta → Differences
with_deltas cells [] = cells
with_deltas cells (l ∷ ls) = with_deltas (with_entries (with_entries cells (finite.entries l.base)) (finite.entries l.current)) ls

-- the cells of all workspaces of an office
abbrev pub listed_in : OfficeText → Differences
listed_in office = with_deltas no_differences office.deltas

-- the cells that a text lists of its workspaces
abbrev pub AreListedIn : List ℕ → Differences → Type 0
AreListedIn text cells = (office : OfficeText) × (office_in text ≡ Ok office) × (cells ≡ listed_in office)
