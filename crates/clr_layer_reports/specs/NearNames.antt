-- The names of a header that are near those of columns.
use Rattle.std.specs.Prelude.{ℕ, ◌<◌, List, Option, None, get_or}
use Rattle.clr_rows.specs.declared.tables.TableDef.{TableDef}
use Rattle.clr_hints.specs.Names.{IsNearest}
use Rattle.clr_layer_faults.specs.Columns.{column_count, column_name}

-- the name at a column, if there is one
abbrev pub near_at : List (Option (List ℕ)) → ℕ → Option (List ℕ)
near_at near column = get_or near column None

-- of each column in their order the name of a header that may be meant by its name, if one is like enough
abbrev pub AreNear : TableDef → List (List ℕ) → List (Option (List ℕ)) → Type 0
AreNear table names near = (column : ℕ) → column < column_count table → IsNearest (column_name table column) names (near_at near column)
