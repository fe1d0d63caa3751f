-- Statements that look for rows near versions.
use Rattle.std.specs.Prelude.{ℕ, List, [], ◌++◌, codes}
use Rattle.std.specs.Fmt.{decimal}
use Rattle.std.specs.List.{flat_map, zip}
use Rattle.clr_rows.specs.declared.rows.Value.{Value}
use Rattle.clr_rows.specs.declared.rows.Value.TheVariants.{Int, Words}
use Rattle.clr_rows.specs.declared.tables.TableDef.{TableDef}
use Rattle.clr_rows.specs.Schemas.{name_of_table}
use Rattle.clr_rules.specs.declared.columns.Col.{Col}
use Rattle.clr_rules.specs.declared.columns.Col.TheVariants as column
use Rattle.clr_rules.specs.declared.rules.Rule.{Rule}
use Rattle.clr_rules.specs.declared.sides.Side.{Side}
use Rattle.clr_spots.specs.declared.limits.TheConstants.{MOST_SPOTS, SQUARE_SIDE}
use Rattle.clr_metres.specs.Metres.{metres_text}
use Rattle.clr_phrases.specs.Rules.{column_name}
use Rattle.clr_sql.specs.declared.targets.Dialect.{Dialect}
use Rattle.clr_sql.specs.declared.targets.Target.{Target}
use Rattle.clr_sql.specs.Quoting.{quoted_name}
use Rattle.clr_sql.specs.Values.{value_text}
use Rattle.clr_cut_proposals.specs.Places.{least_x, least_y, meets_by, most_x, most_y, squares_box}
use Rattle.clr_cut_proposals.specs.Roles.{ByColumns, Whole, Role, all_roles, paired_roles, serving_marks, serving_roles}

-- temporary tables: of the keys that are found, of the rows that designs bring, of those that they take away, and of these that the search goes on from
abbrev pub found_table : List ℕ → List ℕ
found_table name = codes "clr_cut_" ++ name

abbrev pub new_table : List ℕ → List ℕ
new_table name = codes "clr_new_" ++ name

abbrev pub old_table : List ℕ → List ℕ
old_table name = codes "clr_old_" ++ name

abbrev pub kept_table : List ℕ → List ℕ
kept_table name = codes "clr_kept_" ++ name

-- what a row has in a column, as `m."code"`
abbrev pub column_text : List TableDef → (row : List ℕ) → Side → Col → List ℕ
column_text tables row side c = row ++ codes "." ++ quoted_name (column_name tables side c)

unfoldable pub equal_value : (column : List ℕ) → Value → List ℕ
equal_value column value = codes " AND " ++ column ++ codes " = " ++ value_text value

-- a column of texts that has none counts as an empty text
unfoldable pub equal_words : (column : List ℕ) → Value → List ℕ
equal_words column value = codes " AND COALESCE(" ++ column ++ codes ", '') = " ++ value_text value

-- a column has the literal of a filter
abbrev pub literal_text : (column : List ℕ) → Value → List ℕ
literal_text column (Int n) = equal_value column (Int n)
literal_text column (Words text) = equal_words column (Words text)

-- a row of a side has a literal
abbrev pub has_literal : List TableDef → (row : List ℕ) → Side → ℕ × Value → List ℕ
has_literal tables row side literal = literal_text (column_text tables row side (column.At literal.0)) literal.1

-- a row is of a side
abbrev pub filter_text : List TableDef → (row : List ℕ) → Side → List ℕ
filter_text tables row side = flat_map (has_literal tables row side) side.filter

-- the row that is looked for has in its columns what the version has in its own
abbrev pub equal_text : List TableDef → Side → Side → Col × Col → List ℕ
equal_text tables of_version of_row cs =
    codes " AND " ++ column_text tables (codes "m") of_row cs.1 ++ codes " = " ++ column_text tables (codes "v") of_version cs.0

-- they may share a spot
abbrev pub near_text : Target → List TableDef → (of_version of_row : Role) → List ℕ
near_text target tables (side, ByColumns columns) (other, ByColumns others) = flat_map (equal_text tables side other) (zip columns others)
near_text target tables (side, mark) (other, _) = meets_by target.dialect (name_of_table tables other.table) (squares_box target mark)

-- keys go into the table of those that are found, but for those that are there
unfoldable pub into_found : List ℕ → List ℕ
into_found name = codes "INSERT INTO " ++ quoted_name (found_table name) ++ codes " SELECT "

unfoldable pub except_found : List ℕ → List ℕ
except_found name = codes " EXCEPT SELECT \"KEY\" FROM " ++ quoted_name (found_table name) ++ codes ";\n"

-- rows (m) of a table beside versions (v)
unfoldable pub side_by_side : (versions table : List ℕ) → List ℕ
side_by_side versions table =
    codes "m.\"KEY\" FROM " ++ quoted_name versions ++ codes " AS v, " ++ quoted_name table ++ codes " AS m WHERE 1 = 1"

-- the rows of one role that may share a spot with some version of another, of those in a temporary table
unfoldable pub search_text : Target → List TableDef → (versions : List ℕ → List ℕ) → (of_version of_row : Role) → List ℕ
search_text target tables versions v m =
    let table = name_of_table tables m.0.table in
    into_found table ++ side_by_side (versions (name_of_table tables v.0.table)) table ++ filter_text tables (codes "v") v.0
    ++ filter_text tables (codes "m") m.0 ++ near_text target tables v m ++ except_found table

-- of each two roles of two lists
abbrev pub searches : Target → List TableDef → (versions : List ℕ → List ℕ) → (of_versions of_rows : List Role) → List ℕ
searches target tables versions vs ms = flat_map (λ v. flat_map (search_text target tables versions v) ms) vs

-- how many squares a geometry may be in, in one direction
unfoldable pub square_number : (function : List ℕ) → List ℕ
square_number function = codes "floor(" ++ function ++ codes "(m.\"WKT\") / " ++ metres_text SQUARE_SIDE ++ codes ")"

unfoldable pub span_text : (least most : List ℕ) → List ℕ
span_text least most = codes "(" ++ square_number most ++ codes " - " ++ square_number least ++ codes " + 2)"

-- it may be in more squares than a row has spots
unfoldable pub is_wide_text : Dialect → List ℕ
is_wide_text dialect =
    span_text (least_x dialect) (most_x dialect) ++ codes " * " ++ span_text (least_y dialect) (most_y dialect) ++ codes " > " ++ decimal MOST_SPOTS

-- the rows of a side that may be wide, and so share with each version
unfoldable pub wide_rows_text : Target → List TableDef → Side → List ℕ
wide_rows_text target tables side =
    let table = name_of_table tables side.table in
    into_found table ++ codes "m.\"KEY\" FROM " ++ quoted_name table ++ codes " AS m WHERE " ++ is_wide_text target.dialect
    ++ filter_text tables (codes "m") side ++ except_found table

-- those of a role that are found by their whole geometry
abbrev pub wide_text : Target → List TableDef → Role → List ℕ
wide_text target tables (side, Whole) = wide_rows_text target tables side
wide_text target tables (side, _) = []

-- the rows near a version that may touch a need: a new one that may stand beside another row, or an old one that may serve; and wide rows
abbrev pub touched_text : Target → List TableDef → Rule → List ℕ
touched_text target tables rule =
    searches target tables new_table (paired_roles rule) (all_roles rule) ++ searches target tables old_table (serving_marks rule) (all_roles rule)
    ++ flat_map (wide_text target tables) (paired_roles rule)

-- the rows that serve near a new row, or near one that was found
abbrev pub served_text : Target → List TableDef → Rule → List ℕ
served_text target tables rule =
    searches target tables new_table (all_roles rule) (serving_roles rule) ++ searches target tables kept_table (all_roles rule) (serving_roles rule)
