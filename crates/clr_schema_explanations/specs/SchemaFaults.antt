-- Why tables make no schema: which table or column it is, and what is told of it.
use Rattle.std.specs.Prelude.{ℕ, List, [], ◌∷◌, ◌++◌, codes, decimal, length, map, nat_le, take, Option, Some, None, unwrap_or, if◌then◌else◌}
use Rattle.std.specs.List.{enumerate_from}
use Rattle.serde_json.specs.Data.{Data}
use Rattle.clr_rows.specs.Names.{is_good_name}
use Rattle.clr_rows.specs.Schemas.{is_column_name}
use Rattle.clr_rows.specs.declared.faults.SchemaFault.{SchemaFault}
use Rattle.clr_rows.specs.declared.faults.SchemaFault.TheVariants as fault
use Rattle.clr_rows.specs.declared.limits.TheConstants.{MOST_COLUMNS, MOST_TABLES}
use Rattle.clr_text_positions.specs.declared.paths.Key.TheVariants as key
use Rattle.clr_text_positions.specs.declared.paths.PathStep.TheVariants as step
use Rattle.clr_item_explanations.specs.Tellings.{Plain, Telling, Wrong, at_key, first_wrong, wrong_in_list}
use Rattle.clr_item_explanations.specs.Values.{first_text, items_at, stands_among, text_at}

-- the name of a column of a table
abbrev pub at_column_name : ℕ → Telling → Wrong
at_column_name at telling = record { steps = step.Key key.Columns ∷ step.At at ∷ step.At 0 ∷ []; telling = telling }

-- the first of the columns of a table with which anything is wrong, by its place and its name
abbrev pub wrong_column_name : (ℕ → List ℕ → Option Wrong) → Data → Option Wrong
wrong_column_name f table = first_wrong (λ column. f column.0 (first_text column.1)) (enumerate_from 0 (items_at key.Columns table))

-- bad names ----------------------------------------------------------------------------------

-- what a name is that isn't good
abbrev pub bad_name_text : List ℕ → List ℕ → List ℕ
bad_name_text name of = codes "'" ++ name ++ codes "' is no good name of a " ++ of
    ++ codes ": a name has 1 to 30 letters of a to z and A to Z, digits and _, a letter first"

abbrev pub bad_column_at : ℕ → List ℕ → Wrong
bad_column_at at name = at_column_name at (Plain (bad_name_text name (codes "column") ++ codes ", and isn't KEY"))

abbrev pub unless_column_name : ℕ → List ℕ → Option Wrong
unless_column_name at name = if is_column_name name then None else Some (bad_column_at at name)

unfoldable pub bad_column : Data → Option Wrong
bad_column table = wrong_column_name unless_column_name table

-- the name of a table, and else the first bad name of a column
unfoldable pub bad_name_in : Data → Option Wrong
bad_name_in table =
    if is_good_name (text_at key.Name table) then bad_column table
    else Some (at_key key.Name (Plain (bad_name_text (text_at key.Name table) (codes "table"))))

unfoldable pub bad_name : Data → Wrong
bad_name d =
    unwrap_or (wrong_in_list key.Tables (λ at table. bad_name_in table) d) (at_key key.Tables (Plain (codes "a name of a table or of a column is bad")))

-- names that stand before --------------------------------------------------------------------

abbrev pub column_twice : ℕ → List ℕ → Wrong
column_twice at name = at_column_name at (Plain (codes "column '" ++ name ++ codes "' stands twice in its table"))

abbrev pub if_taken : List (List ℕ) → ℕ → List ℕ → Option Wrong
if_taken earlier at name = if stands_among earlier name then Some (column_twice at name) else None

-- the first column whose name stands before it in its table
unfoldable pub taken_column : Data → Option Wrong
taken_column table = wrong_column_name (λ at name. if_taken (take at (map first_text (items_at key.Columns table))) at name) table

-- the name of a table that is one of these, and else the first such name of a column
unfoldable pub taken_name_in : List (List ℕ) → Data → Option Wrong
taken_name_in earlier table =
    if stands_among earlier (text_at key.Name table) then
    Some (at_key key.Name (Plain (codes "an earlier table is called '" ++ text_at key.Name table ++ codes "'")))
    else taken_column table

abbrev pub table_names : Data → List (List ℕ)
table_names d = map (text_at key.Name) (items_at key.Tables d)

unfoldable pub taken_name : Data → Wrong
taken_name d =
    unwrap_or (wrong_in_list key.Tables (λ at table. taken_name_in (take at (table_names d)) table) d)
    (at_key key.Tables (Plain (codes "a name of a table or of a column stands twice")))

-- too many -----------------------------------------------------------------------------------

abbrev pub column_count_text : ℕ → List ℕ
column_count_text count = codes "a table of " ++ decimal count ++ codes " columns; at most " ++ decimal MOST_COLUMNS ++ codes " may stand here"

abbrev pub table_count_text : ℕ → List ℕ
table_count_text count = decimal count ++ codes " tables; at most " ++ decimal MOST_TABLES ++ codes " may stand here"

abbrev pub too_many_columns : Data → Option Wrong
too_many_columns table = let count = length (items_at key.Columns table) in
    if nat_le count MOST_COLUMNS then None else Some (at_key key.Columns (Plain (column_count_text count)))

-- the first table of too many columns, and else the tables
unfoldable pub too_many : Data → Wrong
too_many d =
    unwrap_or (wrong_in_list key.Tables (λ at table. too_many_columns table) d)
    (at_key key.Tables (Plain (table_count_text (length (items_at key.Tables d)))))

-- by the fault -------------------------------------------------------------------------------

abbrev pub schema_fault_name : SchemaFault → List ℕ
schema_fault_name fault.TooMany = codes "TooMany"
schema_fault_name fault.BadName = codes "BadName"
schema_fault_name fault.NameTaken = codes "NameTaken"

abbrev pub wrong_of_schema : SchemaFault → Data → Wrong
wrong_of_schema fault.TooMany d = too_many d
wrong_of_schema fault.BadName d = bad_name d
wrong_of_schema fault.NameTaken d = taken_name d
