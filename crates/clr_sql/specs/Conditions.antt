-- What a row of a table has, as a condition: its key, its values and its shape.
use Rattle.std.specs.Prelude.{ℕ, ℤ, List, ◌++◌, codes}
use Rattle.std.specs.Fmt.{signed_decimal}
use Rattle.std.specs.List.{flat_map, zip}
use Rattle.clr_rows.specs.declared.places.Place.{Place}
use Rattle.clr_rows.specs.declared.rows.Row.{Row}
use Rattle.clr_rows.specs.declared.rows.Value.{Value}
use Rattle.clr_rows.specs.declared.rows.Value.TheVariants.{Int, Words}
use Rattle.clr_rows.specs.declared.tables.Kind.{Kind}
use Rattle.clr_rows.specs.declared.tables.TableDef.{TableDef}
use Rattle.clr_sql.specs.Quoting.{quoted_name, quoted_text}
use Rattle.clr_sql.specs.Shapes.{shape_condition}

abbrev pub key_condition : ℤ → List ℕ
key_condition key = codes "\"KEY\" = " ++ signed_decimal key

-- a column has a value; a column of texts that has none counts as an empty text, as it does where the table is read as a layer
abbrev pub column_condition : (column : List ℕ) → Value → List ℕ
column_condition column (Int n) = quoted_name column ++ codes " = " ++ signed_decimal n
column_condition column (Words text) = codes "COALESCE(" ++ quoted_name column ++ codes ", '') = " ++ quoted_text text

abbrev pub value_condition : (List ℕ × Kind) × Value → List ℕ
value_condition c = codes " AND " ++ column_condition c.0.0 c.1

-- a row of a table has this key, these values and this shape
abbrev pub row_condition : Place → TableDef → ℤ → Row → List ℕ
row_condition origin table key row =
    key_condition key ++ flat_map value_condition (zip table.columns row.values) ++ shape_condition origin row.shape
