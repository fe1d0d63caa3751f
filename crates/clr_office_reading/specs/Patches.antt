-- Cells that are put over a content: first with names, as they are written, and then as differences.
use Rattle.std.specs.Prelude.{ℕ, Bool, true, false, List, [], ◌∷◌, codes, Option, Some, None, Result, Ok}
use Rattle.std.specs.FinMap as finite
use Rattle.serde_json.specs.Data.{Data}
use Rattle.serde_json.specs.Find.{get}
use Rattle.clr_rows.specs.declared.cells.CellId.{CellId}
use Rattle.clr_rows.specs.declared.faults.RowFault.{RowFault}
use Rattle.clr_rows.specs.declared.rows.Row.{Row}
use Rattle.clr_rows.specs.declared.tables.TableDef.{TableDef}
use Rattle.clr_rows.specs.Schemas.{cell_fault, row_fault}
use Rattle.clr_deltas.specs.Differences.{Differences, no_differences}
use Rattle.clr_rule_text.specs.declared.faults.TextFault.{TextFault}
use Rattle.clr_rule_text.specs.declared.faults.TextFault.TheVariants.{BadRow, RepeatedCell}
use Rattle.clr_office_reading.specs.declared.named_cells.NamedCell.{NamedCell}
use Rattle.clr_office_reading.specs.Cells.{cell_of, has_paths, row_of}
use Rattle.clr_readings.specs.Readings.{◌>>=◌}
use Rattle.clr_rule_text.specs.Fields.{each, flag_or_not, list_or_none, none_or_fault, number_at, words_at}

-- a cell that is gone has no row, whatever else it has
abbrev pub row_unless_gone : Bool → Bool → Data → Result (Option Row) TextFault
row_unless_gone true is_path d = Ok None
row_unless_gone false is_path d = row_of is_path d >>= λ row. Ok (Some row)

unfoldable pub named_cell_of : List TableDef → Data → Result NamedCell TextFault
named_cell_of tables d = do
  table ← words_at (codes "t") d
  key ← number_at (codes "k") d
  gone ← flag_or_not (get (codes "gone") d)
  row ← row_unless_gone gone (has_paths tables table) d
  Ok (record { table = table; key = key; row = row })

unfoldable pub named_cells_at : List ℕ → List TableDef → Data → Result (List NamedCell) TextFault
named_cells_at key tables d = list_or_none (get key d) >>= each (named_cell_of tables)

-- a row must fit at its cell, and some row could stand where one is gone
abbrev pub put_fault : List TableDef → CellId → Option Row → Option RowFault
put_fault tables cell None = cell_fault tables cell
put_fault tables cell (Some row) = row_fault tables cell row

-- differences with one more, at a cell that has none
unfoldable pub with_cell : List TableDef → Differences → NamedCell → Result Differences TextFault
with_cell tables d named = do
  cell ← cell_of tables named.table named.key
  _ ← none_or_fault BadRow (put_fault tables cell named.row)
  _ ← none_or_fault RepeatedCell (finite.get d cell)
  Ok (finite.insert d cell named.row)

-- differences with more, one after another
unfoldable pub with_named_cells : List TableDef → Differences → List NamedCell → Result Differences TextFault
with_named_cells tables d [] = Ok d
with_named_cells tables d (named ∷ others) = do
  more ← with_cell tables d named
  with_named_cells tables more others

abbrev pub differences_of : List TableDef → List NamedCell → Result Differences TextFault
differences_of tables named = with_named_cells tables no_differences named

-- the cells at a key: each is read for BadField before any is put
unfoldable pub differences_at : List ℕ → List TableDef → Data → Result Differences TextFault
differences_at key tables d = named_cells_at key tables d >>= differences_of tables
