-- A row at its cell.
use Rattle.clr_rows.specs.declared.cells.CellId.{CellId}
use Rattle.clr_rows.specs.declared.cells.Held.{Held as Borrowed}
use Rattle.clr_rows.specs.declared.rows.Row.{Row}

abbrev pub Held : Type 0
Held = CellId × Row

-- the row that is borrowed, at its cell
abbrev pub held_of : Borrowed → Held
held_of held = (held.cell, held.row.now)
