-- The text of a transaction in SQL: of each statement, what stands before them, and what stands behind.
use Rattle.std.specs.Prelude.{ℕ, ℤ, List, [], ◌∷◌, ◌++◌, codes, Option, Some, None, slice_get, if◌then◌else◌}
use Rattle.std.specs.Fmt.{signed_decimal}
use Rattle.std.specs.List.{flat_map, zip}
use Rattle.clr_rows.specs.declared.cells.CellId.{CellId}
use Rattle.clr_rows.specs.declared.cells.Change.{Change}
use Rattle.clr_rows.specs.declared.places.Shape.{Shape}
use Rattle.clr_rows.specs.declared.places.Shape.TheVariants.{Bare}
use Rattle.clr_rows.specs.declared.rows.Row.{Row}
use Rattle.clr_rows.specs.declared.rows.Value.{Value}
use Rattle.clr_rows.specs.declared.tables.Kind.{Kind}
use Rattle.clr_rows.specs.declared.tables.TableDef.{TableDef}
use Rattle.clr_rows.specs.Contents.{Content}
use Rattle.clr_rows.specs.Same.{same_shape, same_value}
use Rattle.clr_lines.specs.Pieces.{cell_text}
use Rattle.clr_sql.specs.declared.targets.Dialect.{Dialect}
use Rattle.clr_sql.specs.declared.targets.Dialect.TheVariants.{PostGis, SpatiaLite}
use Rattle.clr_sql.specs.declared.targets.Target.{Target}
use Rattle.clr_sql.specs.Conditions.{key_condition, row_condition}
use Rattle.clr_sql.specs.Quoting.{quoted_name}
use Rattle.clr_sql.specs.Relations.{column_name, layer_query, titled_query}
use Rattle.clr_sql.specs.Shapes.{geometry_text}
use Rattle.clr_sql.specs.Values.{value_text}
use Rattle.clr_guarded_edits.specs.Statements.{Statement, Pass, Demand, Make, statements_between}

-- passes ------------------------------------------------------------------------------------------

-- the filter that a table is led through: it fails where it prints a row, or where the cut has one otherwise
abbrev pub filter_text : List ℕ → List ℕ
filter_text name = codes "clr_desk reach \"$CUT\" " ++ name ++ codes " $DESIGNS"

-- psql leads the table through the filter, and stops where that fails
unfoldable pub psql_pass : Target → TableDef → List ℕ
psql_pass target table = codes "\\copy (" ++ layer_query target table ++ codes ") TO PROGRAM '" ++ filter_text table.name ++ codes "' CSV HEADER\n"

-- sqlite3 leads the table through the filter, whose status is counted as a row is: 1 where it is 0
unfoldable pub sqlite_pass : Target → TableDef → List ℕ
sqlite_pass target table =
    codes ".system rm -f clr_passed.sql\n.headers off\n.mode csv\n.once '|" ++ filter_text table.name
    ++ codes "; echo \"INSERT INTO clr_row_count VALUES (NULL, 1 - $?);\" > clr_passed.sql'\n" ++ titled_query target table ++ codes ";\n.read clr_passed.sql\n"

abbrev pub pass_by : Dialect → Target → TableDef → List ℕ
pass_by PostGis target table = psql_pass target table
pass_by SpatiaLite target table = sqlite_pass target table

abbrev pub pass_text : Target → TableDef → List ℕ
pass_text target table = pass_by target.dialect target table

-- demands -----------------------------------------------------------------------------------------
-- clr_row_count takes the number 1 alone, so a statement that counts another number of rows fails.

-- a cell, and how many rows of its table fulfil a condition
unfoldable pub count_text : List TableDef → CellId → (count : List ℕ) → TableDef → (condition : List ℕ) → List ℕ
count_text tables cell count table condition =
    codes "INSERT INTO clr_row_count SELECT '" ++ cell_text tables cell ++ codes "', " ++ count ++ codes " FROM " ++ quoted_name table.name ++ codes " WHERE "
    ++ condition ++ codes ";\n"

-- a table that isn't there has no row, and is never asked
abbrev pub demand_of : Target → List TableDef → CellId → Option TableDef → Option Row → List ℕ
demand_of target tables cell None wanted = []
demand_of target tables cell (Some table) None = count_text tables cell (codes "1 - count(*)") table (key_condition cell.key)
demand_of target tables cell (Some table) (Some row) = count_text tables cell (codes "count(*)") table (row_condition target.origin table cell.key row)

-- edits -------------------------------------------------------------------------------------------

-- pieces with commas between them
abbrev pub listed : List (List ℕ) → List ℕ
listed [] = []
listed (piece ∷ pieces) = piece ++ flat_map (λ other. codes ", " ++ other) pieces

abbrev pub with_comma : Value → List ℕ
with_comma value = codes ", " ++ value_text value

-- the name of the column of shapes, and a shape, behind others; a row without a shape has neither
abbrev pub named_shape : Shape → List ℕ
named_shape Bare = []
named_shape _ = codes ", \"WKT\""

abbrev pub given_shape : Target → Shape → List ℕ
given_shape target Bare = []
given_shape target shape = codes ", " ++ geometry_text target shape

-- no row of a table has a key
unfoldable pub guard_text : TableDef → ℤ → List ℕ
guard_text table key = codes " WHERE NOT EXISTS (SELECT 1 FROM " ++ quoted_name table.name ++ codes " WHERE " ++ key_condition key ++ codes ");\n"

-- a row is put, unless one has its key
unfoldable pub insertion_text : Target → TableDef → ℤ → Row → List ℕ
insertion_text target table key row =
    codes "INSERT INTO " ++ quoted_name table.name ++ codes " (\"KEY\"" ++ flat_map column_name table.columns ++ named_shape row.shape ++ codes ") SELECT "
    ++ signed_decimal key ++ flat_map with_comma row.values ++ given_shape target row.shape ++ guard_text table key

-- a row is taken away, if it is as it was
unfoldable pub deletion_text : Target → TableDef → ℤ → Row → List ℕ
deletion_text target table key old =
    codes "DELETE FROM " ++ quoted_name table.name ++ codes " WHERE " ++ row_condition target.origin table key old ++ codes ";\n"

-- a column gets a value, where it has another
abbrev pub assigned : (List ℕ × Kind) × (Value × Value) → List (List ℕ)
assigned e = if same_value e.1.0 e.1.1 then [] else (quoted_name e.0.0 ++ codes " = " ++ value_text e.1.1) ∷ []

abbrev pub assigned_shape : Target → Shape → Shape → List (List ℕ)
assigned_shape target old new = if same_shape old new then [] else (codes "\"WKT\" = " ++ geometry_text target new) ∷ []

-- what a row gets that it has otherwise: all else stays as the database has it
abbrev pub assignments : Target → TableDef → Row → Row → List (List ℕ)
assignments target table old new = flat_map assigned (zip table.columns (zip old.values new.values)) ++ assigned_shape target old.shape new.shape

-- a row is changed, if it is as it was
unfoldable pub update_text : Target → TableDef → ℤ → Row → Row → List ℕ
update_text target table key old new =
    codes "UPDATE " ++ quoted_name table.name ++ codes " SET " ++ listed (assignments target table old new) ++ codes " WHERE "
    ++ row_condition target.origin table key old ++ codes ";\n"

abbrev pub edit_text : Target → TableDef → ℤ → Option Row → Option Row → List ℕ
edit_text target table key None None = []
edit_text target table key None (Some row) = insertion_text target table key row
edit_text target table key (Some old) None = deletion_text target table key old
edit_text target table key (Some old) (Some new) = update_text target table key old new

abbrev pub make_of : Target → CellId → Option TableDef → Change → List ℕ
make_of target cell None change = []
make_of target cell (Some table) change = edit_text target table cell.key change.before change.after

-- statements ----------------------------------------------------------------------------------------

abbrev pub statement_text : Target → List TableDef → Statement → List ℕ
statement_text target tables (Pass table) = pass_text target table
statement_text target tables (Demand cell wanted) = demand_of target tables cell (slice_get tables cell.table) wanted
statement_text target tables (Make cell change) = make_of target cell (slice_get tables cell.table) change

-- what stands before the statements: psql and sqlite3 stop at the first that fails, and then nothing is written. From here on nobody else writes into the
-- tables
abbrev pub lock_text : TableDef → List ℕ
lock_text table = codes "LOCK TABLE " ++ quoted_name table.name ++ codes " IN SHARE ROW EXCLUSIVE MODE;\n"

abbrev pub beginning : Dialect → List TableDef → List ℕ
beginning PostGis tables =
    codes "\\set ON_ERROR_STOP on\nBEGIN ISOLATION LEVEL REPEATABLE READ;\nSET LOCAL standard_conforming_strings = on;\nSET LOCAL client_encoding = 'UTF8';\n"
    ++ flat_map lock_text tables
beginning SpatiaLite tables = codes ".bail on\nBEGIN IMMEDIATE;\n"

abbrev pub count_table_text : List ℕ
count_table_text = codes "CREATE TEMPORARY TABLE clr_row_count (cell TEXT, found INTEGER CONSTRAINT clr_stale CHECK (found = 1));\n"

abbrev pub ending : List ℕ
ending = codes "DROP TABLE clr_row_count;\nCOMMIT;\n"

-- the text of the transaction that takes the tables from one content to another
abbrev pub sql_text : Target → List TableDef → (old new : Content) → List ℕ
sql_text target tables old new =
    beginning target.dialect tables ++ count_table_text ++ flat_map (statement_text target tables) (statements_between tables old new) ++ ending
