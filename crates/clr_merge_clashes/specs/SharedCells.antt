-- Cells that two members change.
use Rattle.std.specs.Prelude.{◌==◌, ℕ, Bool, List, [], ◌∷◌, Option, None, Some, if◌then◌else◌, filter, find, is_some, length, nat_lt, option_map, slice_get}
use Rattle.std.specs.FinMap as finite
use Rattle.std.specs.List.{filter_map, flat_map}
use Rattle.clr_rows.specs.declared.cells.CellId.{CellId}
use Rattle.clr_rows.specs.Contents.{Changes}
use Rattle.clr_clearance.specs.declared.verdicts.Verdict.TheVariants as verdict
use Rattle.clr_merge_clashes.specs.ClashSets.{MergeClash, merge_clash}

-- whether a member changes a cell
abbrev pub is_changed_in : Changes → CellId → Bool
is_changed_in set cell = is_some (finite.get set cell)

-- the least cell that two members change
abbrev pub shared_cell : Changes → Changes → Option CellId
shared_cell first second = find (is_changed_in second) (finite.keys first)

-- the least cell that two members change, where both are there
abbrev pub cell_of_two : Option Changes → Option Changes → Option CellId
cell_of_two (Some first) (Some second) = shared_cell first second
cell_of_two _ _ = None

-- two members and the least cell that both change, if there is one
abbrev pub pair_clash : List Changes → ℕ → ℕ → Option MergeClash
pair_clash sets earlier later =
    option_map (λ (cell : CellId). merge_clash (earlier ∷ later ∷ []) (verdict.SharedCell cell 0 1))
    (cell_of_two (slice_get sets earlier) (slice_get sets later))

-- the member at a position with one at an earlier position
abbrev pub earlier_clash : List Changes → ℕ → ℕ → Option MergeClash
earlier_clash sets later earlier = if nat_lt earlier later then pair_clash sets earlier later else None

abbrev pub earlier_clashes : List Changes → List ℕ → ℕ → List MergeClash
earlier_clashes sets free later = filter_map (earlier_clash sets later) free

abbrev pub shared_clashes : List Changes → List ℕ → List MergeClash
shared_clashes sets free = flat_map (earlier_clashes sets free) free

-- the member at a position changes no cell that an earlier one changes
abbrev pub is_apart_at : List Changes → List ℕ → ℕ → Bool
is_apart_at sets free at = length (earlier_clashes sets free at) == 0

abbrev pub apart_positions : List Changes → List ℕ → List ℕ
apart_positions sets free = filter (is_apart_at sets free) free
