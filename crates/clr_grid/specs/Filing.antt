-- Cells filed by the numbers of the spots of their rows under each rule, so that rows with a common spot are found.
use Rattle.std.specs.Prelude.{◌≡◌, ◌⊎◌, ℕ, nat_eq, Bool, true, false, not, ◌&&◌, if◌then◌else◌, List, Option, Some, None, slice_get, ⊤}
use Rattle.std.specs.HashMap.{HashMap, get}
use Rattle.std.specs.FinSet as set
use Rattle.std.specs.List.{list_any}
use Rattle.std.specs.declared.hash.BuildHasherDefault.{BuildHasherDefault}
use Rattle.std.specs.declared.hash.FoldHasher.{FoldHasher}
use Rattle.clr_rows.specs.declared.cells.CellId.{CellId}
use Rattle.clr_grid.specs.CellSets.{Cells, is_one}
use Rattle.clr_finders.specs.CellLists.{is_one_of}
use Rattle.clr_finders.specs.declared.row_spots.RuleSpots.{RuleSpots}
use Rattle.clr_grid.specs.declared.side_index.SideIndex.{SideIndex}
use Rattle.clr_grid.specs.declared.rule_index.RuleIndex.{RuleIndex}
use Rattle.clr_finders.specs.RowMaps.{FiledRows, IsRowAt}
use Rattle.clr_grid.specs.SpotNumbers.{has_number}

-- where a cell is filed: among the wide rows, at the number of a spot
pub data Key : Type 0 where
  Wide : Key
  At : ℕ → Key

-- the row is to be filed there
abbrev pub has_key : RuleSpots → Key → Bool
has_key x Wide = x.spots.wide
has_key x (At n) = list_any (has_number n) x.spots.list

-- a row, if there is one, is to be filed there
abbrev pub has_key_of : Option RuleSpots → Key → Bool
has_key_of None k = false
has_key_of (Some y) k = has_key y k

-- the cells there are found for the row, if it isn't wide
abbrev pub is_looked_at : RuleSpots → Key → Bool
is_looked_at x Wide = x.has_role
is_looked_at x (At n) = list_any (has_number n) x.spots.list

-- what a row that stays has
abbrev pub keeps_wide : Option RuleSpots → Bool
keeps_wide None = false
keeps_wide (Some y) = y.spots.wide

abbrev pub keeps_number : Option RuleSpots → ℕ → Bool
keeps_number None n = false
keeps_number (Some y) n = list_any (has_number n) y.spots.list

-- cells by numbers
abbrev pub ByNumber : Type 0
ByNumber = HashMap ℕ Cells (BuildHasherDefault FoldHasher)

abbrev pub has_cell : Option Cells → CellId → Bool
has_cell None q = false
has_cell (Some cells) q = set.contains cells q

abbrev pub without_cell : Option Cells → CellId → Option Cells
without_cell None cell = None
without_cell (Some cells) cell = Some (set.remove cells cell)

abbrev pub is_filed : SideIndex → Key → CellId → Bool
is_filed index Wide q = set.contains index.wide q
is_filed index (At n) q = has_cell (get nat_eq index.by_spot n) q

-- what is filed for another cell, or for a row that the cell keeps
abbrev pub stays : CellId → Option RuleSpots → Key → CellId → Bool
stays cell kept Wide q = not (is_one cell q && not (keeps_wide kept))
stays cell kept (At n) q = not (is_one cell q && not (keeps_number kept n))

-- by rule ------------------------------------------------------------------------------------

abbrev pub side_index_of : RuleIndex → Bool → SideIndex
side_index_of index true = index.servers
side_index_of index false = index.others

abbrev pub is_filed_by : Option RuleIndex → Bool → Key → CellId → Bool
is_filed_by None serves k q = false
is_filed_by (Some index) serves k q = is_filed (side_index_of index serves) k q

-- filed under the rule of a number, among the rows that may serve or the others
abbrev pub is_filed_under : List RuleIndex → ℕ → Bool → Key → CellId → Bool
is_filed_under indexes number serves k q = is_filed_by (slice_get indexes number) serves k q

abbrev pub same_side : Bool → Bool → Bool
same_side true serves = serves
same_side false serves = not serves

-- the row if it is of that side
abbrev pub of_side : Bool → Option RuleSpots → Option RuleSpots
of_side serves None = None
of_side serves (Some y) = if same_side y.may_serve serves then Some y else None

abbrev pub spots_at : Option (List RuleSpots) → ℕ → Option RuleSpots
spots_at None number = None
spots_at (Some ys) number = slice_get ys number

-- a row, if there is one, is to be filed there under the rule of a number
abbrev pub has_key_under : Option (List RuleSpots) → ℕ → Bool → Key → Bool
has_key_under ys number serves k = has_key_of (of_side serves (spots_at ys number)) k

-- a row is filed wherever it is to be
abbrev pub IsFiledRow : List RuleIndex → CellId → List RuleSpots → Type 0
IsFiledRow indexes q ys = (number : ℕ) (y : RuleSpots) (k : Key) → slice_get ys number ≡ Some y → has_key y k ≡ true
    → is_filed_under indexes number y.may_serve k q ≡ true

-- a row, if there is one
abbrev pub IsFiledIfAny : List RuleIndex → CellId → Option (List RuleSpots) → Type 0
IsFiledIfAny indexes q None = ⊤
IsFiledIfAny indexes q (Some ys) = IsFiledRow indexes q ys

-- each row is filed
abbrev pub AreFiled : FiledRows → List RuleIndex → Type 0
AreFiled rows indexes = (q : CellId) (ys : List RuleSpots) → IsRowAt rows q ys → IsFiledRow indexes q ys

-- a row of the cell, which stands there or is to, is to be filed there under the rule of a number
pub record HasRowFor (rows : FiledRows) (q : CellId) (number : ℕ) (serves : Bool) (k : Key) : Type 0 where
  pub row : List RuleSpots
  pub stands : IsRowAt rows q row
  pub wanted : has_key_under (Some row) number serves k ≡ true

-- nothing else is filed
abbrev pub AreOfRows : FiledRows → List RuleIndex → Type 0
AreOfRows rows indexes = (number : ℕ) (serves : Bool) (k : Key) (q : CellId) → is_filed_under indexes number serves k q ≡ true
    → HasRowFor rows q number serves k

-- each number that is kept holds a cell
unfoldable pub HoldCells : ByNumber → Type 0
HoldCells by_spot = (n : ℕ) → get nat_eq by_spot n ≡ Some set.empty → ⊥

unfoldable pub AllHoldCells : List RuleIndex → Type 0
AllHoldCells indexes = (number : ℕ) (index : RuleIndex) (serves : Bool) → slice_get indexes number ≡ Some index
    → HoldCells (side_index_of index serves).by_spot

-- the rows that stand or are to stand are filed, and nothing else is kept
pub record IsFiledExactly (rows : FiledRows) (indexes : List RuleIndex) : Type 0 where
  pub filed : AreFiled rows indexes
  pub others : AreOfRows rows indexes
  pub lean : AllHoldCells indexes

-- what is filed stays
abbrev pub StayFiled : List RuleIndex → List RuleIndex → Type 0
StayFiled old new = (number : ℕ) (serves : Bool) (k : Key) (q : CellId) → is_filed_under old number serves k q ≡ true
    → is_filed_under new number serves k q ≡ true

-- what is filed for other cells than one stays filed, and so does what is filed for the row that this cell keeps
abbrev pub StayFiledBut : CellId → Option (List RuleSpots) → List RuleIndex → List RuleIndex → Type 0
StayFiledBut cell kept old new = (number : ℕ) (serves : Bool) (k : Key) (q : CellId)
    → stays cell (of_side serves (spots_at kept number)) k q ≡ true
    → is_filed_under old number serves k q ≡ true
    → is_filed_under new number serves k q ≡ true

-- nothing more is filed than a cell wherever its row, if there is one, is to be
abbrev pub GainOnly : CellId → Option (List RuleSpots) → List RuleIndex → List RuleIndex → Type 0
GainOnly cell ys old new = (number : ℕ) (serves : Bool) (k : Key) (q : CellId) → is_filed_under new number serves k q ≡ true
    → (is_filed_under old number serves k q ≡ true) ⊎ ((q ≡ cell) × (has_key_under ys number serves k ≡ true))

-- nothing more is filed
abbrev pub GainNone : List RuleIndex → List RuleIndex → Type 0
GainNone old new = StayFiled new old

-- wherever a row of a cell, if there is one, was to be filed, the cell is filed for a row alone that it keeps
abbrev pub AreGone : CellId → Option (List RuleSpots) → Option (List RuleSpots) → List RuleIndex → Type 0
AreGone cell ys kept indexes = (number : ℕ) (serves : Bool) (k : Key) → has_key_under ys number serves k ≡ true
    → is_filed_under indexes number serves k cell ≡ true
    → has_key_under kept number serves k ≡ true

-- each cell that is looked at for a row is one of some
abbrev pub AreNear : List RuleIndex → Bool → ℕ → RuleSpots → List CellId → Type 0
AreNear indexes servers number x cells = (serves : Bool) (k : Key) (q : CellId)
    → (servers ≡ true → serves ≡ true)
    → is_looked_at x k ≡ true
    → is_filed_under indexes number serves k q ≡ true
    → is_one_of cells q ≡ true
