-- What is said of a cell that stands twice in a list.
use Rattle.std.specs.Prelude.{◌≡◌, ◌≢◌, ◌⊎◌, ℕ, ◌<◌, ◌≤◌, ℤ, List, ◌++◌, codes, decimal, length, Option, Some}
use Rattle.std.specs.Option.{option_and_then}
use Rattle.serde_json.specs.Data.{Data}
use Rattle.clr_faults.specs.Stages.{known}
use Rattle.clr_faults.specs.declared.spots.FaultyItem.{FaultyItem}
use Rattle.clr_text_positions.specs.FaultLines.{column_number_of, line_number_of}
use Rattle.clr_text_positions.specs.declared.paths.PathStep.{PathStep}
use Rattle.clr_item_explanations.specs.Slips.{Said}
use Rattle.clr_item_explanations.specs.Tellings.{Plain, Tells, itself}
use Rattle.clr_explanations.specs.Items.{item_at_spot, item_beside, place_in_list}
use Rattle.clr_explanations.specs.Places.{cell_in, path_text, steps_to}

-- the first item with the cell -------------------------------------------------------------------

-- the cell that an item of a text has, if it has one
abbrev pub cell_at : FaultyItem → Data → Option (List ℕ × ℤ)
cell_at at d = option_and_then cell_in (known (item_at_spot at d))

-- no item before a place of the list that an item is in has a cell
abbrev pub NoneBefore : Data → FaultyItem → List ℕ × ℤ → ℕ → Type 0
NoneBefore d at cell place = (k : ℕ) → k < place → cell_at (item_beside at k) d ≢ Some cell

-- of the items before an item in its list, the one at this place is the first that has a cell
pub record IsFirstOf (d : Data) (at : FaultyItem) (cell : List ℕ × ℤ) (first : ℕ) : Type 0 where
  pub earlier : first < place_in_list at
  pub there : cell_at (item_beside at first) d ≡ Some cell
  pub none : NoneBefore d at cell first

-- of the items before an item in its list, the one at this place is the first that has the same cell
abbrev pub IsFirstWithCell : Data → FaultyItem → ℕ → Type 0
IsFirstWithCell d at first = (cell : List ℕ × ℤ) × (cell_at at d ≡ Some cell) × IsFirstOf d at cell first

-- none of the items before an item in its list has the same cell
abbrev pub IsAloneWithCell : Data → FaultyItem → Type 0
IsAloneWithCell d at = (cell : List ℕ × ℤ) → cell_at at d ≡ Some cell → NoneBefore d at cell (place_in_list at)

-- in words ---------------------------------------------------------------------------------------

-- a path behind the line and the column of a byte
abbrev pub place_words_at : List ℕ → ℕ → List ℕ → List ℕ
place_words_at text offset path =
    codes "line " ++ decimal (line_number_of text offset) ++ codes ", column " ++ decimal (column_number_of text offset) ++ codes ", " ++ path

-- where an item is: its path, behind the line and the column of a byte of the text where one is found for it
abbrev pub IsPlaceInWords : List ℕ → List PathStep → List ℕ → Type 0
IsPlaceInWords text steps words = (words ≡ path_text steps)
    ⊎ ((offset : ℕ) × (offset ≤ length text) × (words ≡ place_words_at text offset (path_text steps)))

-- where the first item with the cell is
abbrev pub TellsFirst : List ℕ → FaultyItem → Said → Type 0
TellsFirst text first said =
    (place : List ℕ) × IsPlaceInWords text (steps_to first) place × Tells (itself (Plain (codes "the cell stands twice in its list; first at " ++ place))) said

-- of an item whose cell is also that of an earlier item of its list: where the first of these is
abbrev pub TellsRepeatedCell : List ℕ → Data → FaultyItem → Said → Type 0
TellsRepeatedCell text d at said =
    ((first : ℕ) × IsFirstWithCell d at first × TellsFirst text (item_beside at first) said)
    ⊎ (IsAloneWithCell d at × Tells (itself (Plain (codes "the cell stands twice in its list"))) said)
