-- The rows that a layer gives a table, each at its cell.
use Rattle.std.specs.Prelude.{ℕ, ℤ, List, Option, Some, None, Result, Ok, Err, is_some, if◌then◌else◌}
use Rattle.std.specs.FinMap as finite
use Rattle.std.specs.declared.alloc.Global.{Global}
use Rattle.std.specs.declared.vec.Vec.{Vec}
use Rattle.clr_rows.specs.declared.cells.CellId.{CellId}
use Rattle.clr_rows.specs.declared.rows.Row.{Row}
use Rattle.clr_rows.specs.declared.tables.TableDef.{TableDef}
use Rattle.clr_rows.specs.Contents.{Content, no_rows, row_at}
use Rattle.clr_readings.specs.Readings.{◌>>=◌, or_fault}
use Rattle.clr_layer_text.specs.Layers.{layer_in_text}
use Rattle.clr_layer_text.specs.declared.faults.LayerFault.{LayerFault}
use Rattle.clr_layer_text.specs.declared.rows.LayerRow.{LayerRow}
use Rattle.clr_layer_changes.specs.declared.faults.LayersFault.{LayersFault}
use Rattle.clr_layer_changes.specs.declared.faults.LayersFault.TheVariants.{KeyTwice, NoKey, Unread}
use Rattle.clr_layer_changes.specs.declared.limits.TheConstants.{FIRST_RECORD}
use Rattle.clr_layer_changes.specs.declared.options.LayerOptions.{LayerOptions}
use Rattle.clr_layer_changes.specs.Keys.{cell_of, least_free}
use Rattle.clr_layer_changes.specs.Turns.{after_each}

-- rows with one more at a cell that none of them has; or this number
abbrev pub put_new : ℕ → Content → CellId → Row → Result Content ℕ
put_new number rows cell row = if is_some (row_at rows cell) then Err number else Ok (finite.insert rows cell row)

-- rows with one more, if that has a key of its own; or its number, where one of them has that key
abbrev pub with_own : ℕ → ℕ → Content → LayerRow → Result Content ℕ
with_own table number rows r = at_own r.key
  where
    at_own : Option ℤ → Result Content ℕ
    at_own None = Ok rows
    at_own (Some key) = put_new number rows (record { table = table; key = key }) r.row

-- the rows with keys of their own; or the number of the first whose key a row before it has
abbrev pub own_rows : ℕ → List LayerRow → Result Content ℕ
own_rows table rows = after_each (with_own table) FIRST_RECORD no_rows rows

-- rows with one more, if that has no key of its own, at the least key that is free; or its number, where none is
abbrev pub with_given : Content → ℕ → ℕ → ℕ → Content → LayerRow → Result Content ℕ
with_given live table first number rows r =
    if is_some r.key then Ok rows else (or_fault number (least_free live rows table first) >>= λ key. Ok (finite.insert rows (cell_of table key) r.row))

-- all rows, those with keys of their own being put first; or the number of the first for which no key is left
abbrev pub all_rows : Content → ℕ → ℕ → Content → List LayerRow → Result Content ℕ
all_rows live table first own rows = after_each (with_given live table first) FIRST_RECORD own rows

-- a fault with the number of its record
abbrev pub at_number : {A : Type 0} → LayersFault → Result A ℕ → Result A (ℕ × LayersFault)
at_number fault (Ok x) = Ok x
at_number fault (Err number) = Err (number, fault)

-- what is read of a text, with a fault of the text as one of these
abbrev pub of_text : {A : Type 0} → Result A (ℕ × LayerFault) → Result A (ℕ × LayersFault)
of_text (Ok x) = Ok x
of_text (Err e) = Err (e.0, Unread e.1)

-- what is read of a text, its rows as a list
abbrev pub seen_rows : {E : Type 0} → Result (Vec LayerRow Global) E → Result (List LayerRow) E
seen_rows (Ok rows) = Ok rows.items
seen_rows (Err e) = Err e

-- all rows at their cells; or the number of the first whose key a row before it has, or else of the first for which no key is left
abbrev pub rows_at_keys : Content → LayerOptions → ℕ → List LayerRow → Result Content (ℕ × LayersFault)
rows_at_keys live options table rows = at_number KeyTwice (own_rows table rows) >>= λ own. at_number NoKey (all_rows live table options.first_key own rows)

-- the rows of the text of a layer of a table, or its first fault beside the number of the record
unfoldable pub layer_rows : List TableDef → Content → LayerOptions → ℕ → List ℕ → Result Content (ℕ × LayersFault)
layer_rows schema live options table text = of_text (layer_in_text schema table options.rounded text) >>= λ rows. rows_at_keys live options table rows
