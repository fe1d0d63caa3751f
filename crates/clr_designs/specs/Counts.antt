-- How many rows some edits add, change and remove, and the first that they remove.
use Rattle.std.specs.Prelude.{ℕ, Bool, true, false, List, [], ◌∷◌, ◌++◌, codes, count_by, Option, Some, None}
use Rattle.std.specs.Fmt.{decimal}
use Rattle.clr_rows.specs.declared.cells.CellId.{CellId}
use Rattle.clr_change.specs.declared.edits.Edit.{Edit}
use Rattle.clr_change.specs.declared.edits.Edit.TheVariants.{Insert, Update, Delete}

abbrev pub is_addition : Edit → Bool
is_addition (Insert cell row) = true
is_addition (Update cell row) = false
is_addition (Delete cell) = false

abbrev pub is_change : Edit → Bool
is_change (Insert cell row) = false
is_change (Update cell row) = true
is_change (Delete cell) = false

abbrev pub is_removal : Edit → Bool
is_removal (Insert cell row) = false
is_removal (Update cell row) = false
is_removal (Delete cell) = true

-- how many of each there are, on a line
abbrev pub edit_counts_text : List Edit → List ℕ
edit_counts_text edits =
    codes "adds " ++ decimal (count_by is_addition edits) ++ codes ", changes " ++ decimal (count_by is_change edits) ++ codes ", removes "
    ++ decimal (count_by is_removal edits) ++ codes "\n"

-- the cell of the first row that edits remove, if they remove one
unfoldable pub first_removed : List Edit → Option CellId
first_removed [] = None
first_removed (Insert cell row ∷ edits) = first_removed edits
first_removed (Update cell row ∷ edits) = first_removed edits
first_removed (Delete cell ∷ edits) = Some cell
