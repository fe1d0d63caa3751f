-- Why edits can't be said in SQL, if they can't.
use Rattle.std.specs.Prelude.{ℕ, suc, List, [], ◌∷◌, Option, Some, None, if◌then◌else◌}
use Rattle.std.specs.FinMap as finite
use Rattle.std.specs.Option.{option_map, option_or}
use Rattle.clr_rows.specs.declared.cells.CellId.{CellId}
use Rattle.clr_rows.specs.declared.rows.Row.{Row}
use Rattle.clr_rows.specs.declared.tables.TableDef.{TableDef}
use Rattle.clr_rows.specs.Contents.{Content}
use Rattle.clr_layer_text.specs.Layers.{can_be_layer}
use Rattle.clr_sql.specs.Values.{is_sayable}
use Rattle.clr_guarded_edits.specs.declared.fits.Unsayable.{Unsayable}
use Rattle.clr_guarded_edits.specs.declared.fits.Unsayable.TheVariants.{WktColumn, LostByte}

-- the number of the first table, counted on from one, with a column that is called as that of its shapes
unfoldable pub first_wkt_column : ℕ → List TableDef → Option ℕ
first_wkt_column number [] = None
first_wkt_column number (table ∷ tables) = if can_be_layer table then first_wkt_column (suc number) tables else Some number

-- the cell of the first row with a text that isn't handed on as it is
unfoldable pub first_unsayable : List (CellId × Row) → Option CellId
first_unsayable [] = None
first_unsayable (e ∷ es) = if is_sayable e.1 then first_unsayable es else Some e.0

-- why edits between two contents can't be said: such a table, or such a row of the old content, or of the new one
abbrev pub why_unsayable : List TableDef → (old new : Content) → Option Unsayable
why_unsayable tables old new =
    option_or (option_map WktColumn (first_wkt_column 0 tables))
    (option_map LostByte (option_or (first_unsayable (finite.entries old)) (first_unsayable (finite.entries new))))
