-- Who changes a cell.
use Rattle.std.specs.Prelude.{ℕ, List, [], Option, Some, None}
use Rattle.clr_rows.specs.declared.cells.CellId.{CellId}
use Rattle.clr_rows.specs.Contents.{Changes}
use Rattle.clr_needs.specs.Members.{after_of, positions}
use Rattle.clr_needs.specs.Settings.{first_changer}
use Rattle.clr_workspaces.specs.Marks.{Name}
use Rattle.clr_member_changes.specs.Names.{member_name}

abbrev pub name_of_any : List Name → Option ℕ → Name
name_of_any members None = []
name_of_any members (Some at) = member_name members at

-- the name of the first member that changes a cell
abbrev pub changer_name : List Name → List Changes → CellId → Name
changer_name members sets q = name_of_any members (first_changer (after_of sets) (positions sets) q)
