-- Sides of rules, fields of rows and whole rules in words.
use Rattle.std.specs.Prelude.{ℕ, Bool, List, [], ◌∷◌, ◌++◌, ◌&&◌, ◌==◌, codes, length, map, Option, Some, None, option_map, slice_get, unwrap_or, if◌then◌else◌}
use Rattle.std.specs.List.{flat_map}
use Rattle.std.specs.Option.{option_and_then}
use Rattle.clr_rows.specs.declared.rows.Value.{Value}
use Rattle.clr_rows.specs.declared.tables.TableDef.{TableDef}
use Rattle.clr_rows.specs.Held.{Held}
use Rattle.clr_rows.specs.Schemas.{name_of_table}
use Rattle.clr_rules.specs.declared.columns.Col.{Col}
use Rattle.clr_rules.specs.declared.columns.Col.TheVariants as column
use Rattle.clr_rules.specs.declared.rules.Rule.{Rule}
use Rattle.clr_rules.specs.declared.rules.Rule.TheVariants.{Unique, Partner, EndNode, Crossing, Near}
use Rattle.clr_rules.specs.declared.rules.Tip.{Tip}
use Rattle.clr_rules.specs.declared.rules.Tip.TheVariants.{First, Second}
use Rattle.clr_rules.specs.declared.sides.Side.{Side}
use Rattle.clr_rules.specs.Sides.{field}
use Rattle.clr_metres.specs.Metres.{metres_text}
use Rattle.clr_phrases.specs.Lists.{article_of, names_text}
use Rattle.clr_phrases.specs.Rows.{value_text}

-- what a rule is about
abbrev pub rule_title : Rule → List ℕ
rule_title (Unique subject columns) = codes "no two alike"
rule_title (Partner subject columns server server_columns) = codes "a partner"
rule_title (EndNode subject tip server) = codes "a node at an end"
rule_title (Crossing a b server) = codes "a node at each crossing"
rule_title (Near a b d) = codes "a distance"

-- the name of a column of a side's table, and no bytes where it isn't there
abbrev pub column_name : List TableDef → Side → Col → List ℕ
column_name tables side column.Key = codes "KEY"
column_name tables side (column.At n) =
    unwrap_or (option_map (λ c. c.0) (option_and_then (λ table. slice_get table.columns n) (slice_get tables side.table))) []

abbrev pub columns_text : List TableDef → Side → List Col → List ℕ
columns_text tables side columns = names_text (map (column_name tables side) columns)

-- a column, and the value that a side asks for in it
abbrev pub condition_text : List TableDef → Side → ℕ × Value → List ℕ
condition_text tables side c = column_name tables side (column.At c.0) ++ codes " " ++ value_text c.1

-- what the rows of a side have in common
abbrev pub filter_text : List TableDef → Side → List (ℕ × Value) → List ℕ
filter_text tables side [] = []
filter_text tables side (c ∷ cs) = codes " with " ++ condition_text tables side c ++ flat_map (λ other. codes " and " ++ condition_text tables side other) cs

-- the table of a side, and what its rows have in common
abbrev pub side_text : List TableDef → Side → List ℕ
side_text tables side = name_of_table tables side.table ++ filter_text tables side side.filter

abbrev pub text_of_any : Option Value → List ℕ
text_of_any None = []
text_of_any (Some value) = value_text value

-- a column, and what a row has in it
abbrev pub field_text : List TableDef → Side → Held → Col → List ℕ
field_text tables side held c = column_name tables side c ++ codes " " ++ text_of_any (field held c)

-- what a row has in columns
abbrev pub fields_text : List TableDef → Side → Held → List Col → List ℕ
fields_text tables side held [] = []
fields_text tables side held (c ∷ cs) = field_text tables side held c ++ flat_map (λ other. codes " and " ++ field_text tables side held other) cs

-- one row of a side
abbrev pub one_text : List TableDef → Side → List ℕ
one_text tables side = article_of (name_of_table tables side.table) ++ codes " " ++ side_text tables side

-- two sides are one whole table
abbrev pub are_one_table : Side → Side → Bool
are_one_table a b = a.table == b.table && (length a.filter == 0 && length b.filter == 0)

-- the rows of two sides
abbrev pub two_text : List TableDef → Side → Side → List ℕ
two_text tables a b = if are_one_table a b then codes "two rows of " ++ side_text tables a else one_text tables a ++ codes " and " ++ one_text tables b

abbrev pub end_word : Tip → List ℕ
end_word First = codes "first"
end_word Second = codes "second"

-- what a rule asks for
abbrev pub rule_sentence : List TableDef → Rule → List ℕ
rule_sentence tables (Unique subject columns) =
    codes "No two rows of " ++ side_text tables subject ++ codes " have the same " ++ columns_text tables subject columns ++ codes "."
rule_sentence tables (Partner subject columns server server_columns) =
    codes "For each " ++ side_text tables subject ++ codes " there is " ++ one_text tables server ++ codes " whose "
    ++ columns_text tables server server_columns ++ codes " equals its " ++ columns_text tables subject columns ++ codes "."
rule_sentence tables (EndNode subject tip server) =
    codes "At the " ++ end_word tip ++ codes " end of each " ++ side_text tables subject ++ codes " stands " ++ one_text tables server ++ codes "."
rule_sentence tables (Crossing a b server) =
    codes "Where " ++ two_text tables a b ++ codes " cross or touch, there stands " ++ one_text tables server ++ codes "."
rule_sentence tables (Near a b d) = codes "Between " ++ two_text tables a b ++ codes " there are at least " ++ metres_text d ++ codes " m."
