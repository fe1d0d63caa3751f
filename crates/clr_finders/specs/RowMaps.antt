-- The spots of rows by cell: those that are settled, and pending changes.
use Rattle.std.specs.Prelude.{◌≡◌, ◌⊎◌, true, List, [], ◌∷◌, Option, Some, None, is_some, refl}
use Rattle.std.specs.BTreeMap.{BTreeMap, get}
use Rattle.std.specs.Coded.{Coded, code_by, coded×, coded_list, coded_option}
use Rattle.std.specs.FinMap as finite
use Rattle.std.specs.Option.{option_flatten}
use Rattle.clr_rows.specs.declared.cells.CellId.{CellId}
use Rattle.clr_rows.specs.Cells.{cell_cmp, coded_cell}
use Rattle.clr_finders.specs.contracts.row_spots.RuleSpots as spots_type
use Rattle.clr_finders.specs.declared.row_spots.RuleSpots.{RuleSpots}
use Rattle.clr_finders.specs.Sharing.{Settled, Pending}

-- a row that is to stand, or none
abbrev pub RowOrNone : Type 0
RowOrNone = Option (List RuleSpots)

pub record FiledRows : Type 0 where
  pub settled : Settled
  pub pending : Pending

abbrev pub coded_spots : Coded (List RuleSpots)
coded_spots = coded_list spots_type.the_row.coded

abbrev pub coded_rows : Coded FiledRows
coded_rows = code_by (Settled × Pending) (coded× (finite.code coded_cell coded_spots) (finite.code coded_cell
    (coded_option coded_spots))) (λ r. (r.settled, r.pending)) (λ p. record { settled = p.0; pending = p.1 }) (λ _. refl)

abbrev pub no_filed_rows : FiledRows
no_filed_rows = record { settled = finite.empty; pending = finite.empty }

-- a cell set to a row, or to none
abbrev pub set_row_at : Settled → CellId → RowOrNone → Settled
set_row_at settled cell None = finite.remove settled cell
set_row_at settled cell (Some row) = finite.insert settled cell row

-- one more settled row
abbrev pub with_settled_row : FiledRows → CellId → List RuleSpots → FiledRows
with_settled_row rows cell row = record { settled = finite.insert rows.settled cell row; pending = rows.pending }

-- a pending change added
abbrev pub with_pending : FiledRows → CellId → RowOrNone → FiledRows
with_pending rows cell row = record { settled = rows.settled; pending = finite.insert rows.pending cell row }

-- the pending change of a cell taken over
abbrev pub with_settled : FiledRows → CellId → FiledRows
with_settled rows cell = record {
  settled = set_row_at rows.settled cell (option_flatten (finite.get rows.pending cell));
  pending = finite.remove rows.pending cell;
}

-- what is pending for a cell is dropped
abbrev pub without_pending : FiledRows → CellId → FiledRows
without_pending rows cell = record { settled = rows.settled; pending = finite.remove rows.pending cell }

-- cells without a row are room for one
abbrev pub settled_of : List (CellId × RowOrNone) → Settled
settled_of [] = finite.empty
settled_of (e ∷ es) = set_row_at (settled_of es) e.0 e.1

abbrev pub pending_of : List (CellId × RowOrNone) → Pending
pending_of es = finite.from_entries es

-- each pending change has room among the settled rows, and nothing else has room without a row
pub record HasRoom (settled pending : BTreeMap CellId RowOrNone) : Type 0 where
  pub room : (q : CellId) → is_some (get cell_cmp pending q) ≡ true → is_some (get cell_cmp settled q) ≡ true
  pub lean : (q : CellId) → get cell_cmp settled q ≡ Some None → is_some (get cell_cmp pending q) ≡ true

-- a row that stands at a cell, or is to
abbrev pub IsRowAt : FiledRows → CellId → List RuleSpots → Type 0
IsRowAt rows q ys = (finite.get rows.settled q ≡ Some ys) ⊎ (finite.get rows.pending q ≡ Some (Some ys))
