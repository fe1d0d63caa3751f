-- SQL that proposes a cut: index conditions alone, in two rounds. It isn't trusted: a pass over each table shows whether it is one.
use Rattle.std.specs.Prelude.{ℕ, List, [], ◌++◌, codes}
use Rattle.std.specs.List.{flat_map}
use Rattle.clr_rows.specs.declared.tables.Form.{Form}
use Rattle.clr_rows.specs.declared.tables.Form.TheVariants as form
use Rattle.clr_rows.specs.declared.tables.TableDef.{TableDef}
use Rattle.clr_rules.specs.declared.rules.Rule.{Rule}
use Rattle.clr_deltas.specs.Deltas.{Delta}
use Rattle.clr_sql.specs.declared.targets.Dialect.{Dialect}
use Rattle.clr_sql.specs.declared.targets.Dialect.TheVariants.{PostGis, SpatiaLite}
use Rattle.clr_sql.specs.declared.targets.Target.{Target}
use Rattle.clr_sql.specs.Quoting.{quoted_name}
use Rattle.clr_sql.specs.Relations.{column_name, layer_query, titled_query}
use Rattle.clr_cut_proposals.specs.Designs.{design_text}
use Rattle.clr_cut_proposals.specs.Searches.{found_table, kept_table, new_table, old_table, served_text, touched_text}

abbrev pub beginning : Dialect → List ℕ
beginning PostGis =
    codes "\\set ON_ERROR_STOP on\nBEGIN ISOLATION LEVEL REPEATABLE READ;\nSET LOCAL standard_conforming_strings = on;\nSET LOCAL client_encoding = 'UTF8';\n"
beginning SpatiaLite = codes ".bail on\nBEGIN;\n"

abbrev pub shape_name : Form → List ℕ
shape_name form.Bare = []
shape_name _ = codes ", \"WKT\""

-- the rows of a table, with their geometries as they are
unfoldable pub rows_text : TableDef → List ℕ
rows_text table = codes "SELECT \"KEY\"" ++ flat_map column_name table.columns ++ shape_name table.shape ++ codes " FROM " ++ quoted_name table.name

-- a temporary table is made of what stands behind
unfoldable pub made_table : List ℕ → List ℕ
made_table name = codes "CREATE TEMPORARY TABLE " ++ quoted_name name ++ codes " AS "

-- the temporary tables of the keys that are found and of the rows that designs bring
unfoldable pub tables_text : TableDef → List ℕ
tables_text table =
    made_table (found_table table.name) ++ codes "SELECT \"KEY\" FROM " ++ quoted_name table.name ++ codes " LIMIT 0;\n"
    ++ made_table (new_table table.name) ++ rows_text table ++ codes " LIMIT 0;\n"

-- only rows that are found
unfoldable pub if_found : List ℕ → List ℕ
if_found name = codes " WHERE \"KEY\" IN (SELECT \"KEY\" FROM " ++ quoted_name (found_table name) ++ codes ")"

-- the rows that are found so far, in a table of their own
unfoldable pub found_rows_text : (List ℕ → List ℕ) → TableDef → List ℕ
found_rows_text name table = made_table (name table.name) ++ rows_text table ++ if_found table.name ++ codes ";\n"

-- the rows of a table that are found go into a file of its name, as a layer
unfoldable pub found_layer : Target → TableDef → List ℕ
found_layer target table = layer_query target table ++ if_found table.name

unfoldable pub psql_file : Target → TableDef → List ℕ
psql_file target table = codes "\\copy (" ++ found_layer target table ++ codes ") TO '" ++ table.name ++ codes ".csv' CSV HEADER\n"

-- the same behind the names of their columns
unfoldable pub titled_layer : Target → TableDef → List ℕ
titled_layer target table = titled_query target table ++ if_found table.name

unfoldable pub sqlite_file : Target → TableDef → List ℕ
sqlite_file target table = codes ".headers off\n.mode csv\n.once " ++ table.name ++ codes ".csv\n" ++ titled_layer target table ++ codes ";\n"

abbrev pub file_by : Dialect → Target → TableDef → List ℕ
file_by PostGis target table = psql_file target table
file_by SpatiaLite target table = sqlite_file target table

abbrev pub file_text : Target → TableDef → List ℕ
file_text target table = file_by target.dialect target table

-- the rows at cells of designs, the rows that these touch, the rows that serve them, and all of them into files
unfoldable pub proposal_text : Target → List TableDef → List Rule → List Delta → List ℕ
proposal_text target tables rules designs =
    beginning target.dialect ++ flat_map tables_text tables ++ flat_map (design_text target tables) designs ++ flat_map (found_rows_text old_table) tables
    ++ flat_map (touched_text target tables) rules ++ flat_map (found_rows_text kept_table) tables ++ flat_map (served_text target tables) rules
    ++ flat_map (file_text target) tables ++ codes "ROLLBACK;\n"
