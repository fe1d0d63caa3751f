-- The lines of reports: changes, cells in conflict, broken needs and workspaces.
use Rattle.std.specs.Prelude.{ℕ, Bool, true, false, List, ◌++◌, length, codes, Option, Some, None}
use Rattle.std.specs.Fmt.{decimal}
use Rattle.std.specs.List.{flat_map}
use Rattle.std.specs.FinMap as finite
use Rattle.clr_rows.specs.declared.cells.CellId.{CellId}
use Rattle.clr_rows.specs.declared.cells.Change.{Change}
use Rattle.clr_rows.specs.declared.rows.Row.{Row}
use Rattle.clr_rows.specs.declared.tables.TableDef.{TableDef}
use Rattle.clr_rows.specs.Contents.{Changes}
use Rattle.clr_rules.specs.declared.needs.Broken.{Broken}
use Rattle.clr_lines.specs.Pieces.{cell_text, need_text}

-- a first line: a word and a count
abbrev pub count_line : List ℕ → ℕ → List ℕ
count_line word count = word ++ codes " " ++ decimal count ++ codes "\n"

-- the word of the edit that leads from the row before, or none, to the row after, or none
abbrev pub verb_name : Option Row → Option Row → List ℕ
verb_name None after = codes "insert "
verb_name (Some before) None = codes "delete "
verb_name (Some before) (Some after) = codes "update "

abbrev pub change_line : List TableDef → CellId × Change → List ℕ
change_line tables e = verb_name e.1.before e.1.after ++ cell_text tables e.0 ++ codes "\n"

-- the lines of changes: how many there are, and then each of them, ascending
unfoldable pub changes_text : List TableDef → Changes → List ℕ
changes_text tables changed = count_line (codes "changes") (length (finite.keys changed)) ++ flat_map (change_line tables) (finite.entries changed)

abbrev pub cell_line : List TableDef → CellId → List ℕ
cell_line tables cell = cell_text tables cell ++ codes "\n"

-- the lines of conflicts: how many cells there are, and then each of them
unfoldable pub conflicts_text : List TableDef → List CellId → List ℕ
conflicts_text tables cells = count_line (codes "conflicts") (length cells) ++ flat_map (cell_line tables) cells

abbrev pub need_line : List TableDef → Broken → List ℕ
need_line tables need = need_text tables need ++ codes "\n"

-- the lines of an audit: how many needs no row serves, and then each of them
unfoldable pub audit_text : List TableDef → List Broken → List ℕ
audit_text tables needs = count_line (codes "broken") (length needs) ++ flat_map (need_line tables) needs

-- the name of the workspace that breaks a rule, where it isn't LIVE
abbrev pub unheld_name : Option (List ℕ) → List ℕ
unheld_name None = codes ""
unheld_name (Some name) = name ++ codes " "

-- the line which says that a rule doesn't hold, where, and which need no row serves
abbrev pub unheld_text : List TableDef → Option (List ℕ) → Broken → List ℕ
unheld_text tables name need = codes "unheld " ++ unheld_name name ++ need_line tables need

abbrev pub kept_text : Bool → List ℕ
kept_text true = codes " kept"
kept_text false = codes ""

abbrev pub names_text : List ℕ → List ℕ → List ℕ
names_text name parent = name ++ codes " " ++ parent

abbrev pub counts_text : ℕ → ℕ → List ℕ
counts_text changed conflicts = codes " " ++ decimal changed ++ codes " " ++ decimal conflicts

-- a workspace: its name, its parent, how many changes it has and how many cells are in conflict
abbrev pub counted_text : List ℕ → List ℕ → ℕ → ℕ → List ℕ
counted_text name parent changed conflicts = names_text name parent ++ counts_text changed conflicts

-- the state of a workspace: what is counted of it, and whether it is kept
abbrev pub state_text : List ℕ → List ℕ → ℕ → ℕ → Bool → List ℕ
state_text name parent changed conflicts kept = counted_text name parent changed conflicts ++ kept_text kept

-- the line of a workspace
abbrev pub workspace_text : List ℕ → List ℕ → ℕ → ℕ → Bool → List ℕ
workspace_text name parent changed conflicts kept = state_text name parent changed conflicts kept ++ codes "\n"
