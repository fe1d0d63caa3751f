-- Rules with names of tables and columns, and then as JSON.
use Rattle.std.specs.Prelude.{ℕ, List, [], codes, map, Option, option_map, slice_get, unwrap_or}
use Rattle.std.specs.List.{enumerate_from}
use Rattle.std.specs.Option.{option_and_then}
use Rattle.serde_json.specs.Data.{Data, string, array, object, no_items, item, member, no_members}
use Rattle.clr_rows.specs.declared.limits.TheConstants.{KEY}
use Rattle.clr_rows.specs.declared.rows.Value.{Value}
use Rattle.clr_rows.specs.declared.tables.TableDef.{TableDef}
use Rattle.clr_rows.specs.Schemas.{name_of_table}
use Rattle.clr_rules.specs.declared.columns.Col.{Col}
use Rattle.clr_rules.specs.declared.columns.Col.TheVariants as column
use Rattle.clr_rules.specs.declared.needs.Broken.{Broken}
use Rattle.clr_rules.specs.declared.rules.Rule.{Rule}
use Rattle.clr_rules.specs.declared.rules.Rule.TheVariants as rule
use Rattle.clr_rules.specs.declared.rules.Tip.{Tip}
use Rattle.clr_rules.specs.declared.rules.Tip.TheVariants as tip
use Rattle.clr_rules.specs.declared.sides.Side.{Side}
use Rattle.clr_rule_text.specs.declared.named_rules.NamedRule.{NamedRule}
use Rattle.clr_rule_text.specs.declared.named_rules.NamedRule.TheVariants.{Unique, Partner, EndNode, Crossing, Near}
use Rattle.clr_rule_text.specs.declared.named_sides.NamedSide.{NamedSide}
use Rattle.clr_office_writing.specs.KnownData.{known_of_rule, with_known}
use Rattle.clr_office_writing.specs.Values.{list_data, number_data, value_data}

-- with names ---------------------------------------------------------------------------------

-- the name of a column by its number, or no bytes where there is no such column
abbrev pub name_of_number : List TableDef → ℕ → ℕ → List ℕ
name_of_number tables table n = unwrap_or (option_map (λ c. c.0) (option_and_then (λ t. slice_get t.columns n) (slice_get tables table))) []

-- the name of a column, where `KEY` is the primary key
abbrev pub name_of_column : List TableDef → ℕ → Col → List ℕ
name_of_column tables table column.Key = KEY.now
name_of_column tables table (column.At n) = name_of_number tables table n

abbrev pub named_literal : List TableDef → ℕ → ℕ × Value → List ℕ × Value
named_literal tables table literal = (name_of_number tables table literal.0, literal.1)

abbrev pub named_side : List TableDef → Side → NamedSide
named_side tables side = record { table = name_of_table tables side.table; filter = map (named_literal tables side.table) side.filter }

abbrev pub named_columns : List TableDef → Side → List Col → List (List ℕ)
named_columns tables side columns = map (name_of_column tables side.table) columns

abbrev pub named_rule : List TableDef → Rule → NamedRule
named_rule tables (rule.Unique subject columns) = Unique (named_side tables subject) (named_columns tables subject columns)
named_rule tables (rule.Partner subject columns server server_columns) =
    Partner (named_side tables subject) (named_columns tables subject columns) (named_side tables server) (named_columns tables server server_columns)
named_rule tables (rule.EndNode subject tip server) = EndNode (named_side tables subject) tip (named_side tables server)
named_rule tables (rule.Crossing a b server) = Crossing (named_side tables a) (named_side tables b) (named_side tables server)
named_rule tables (rule.Near a b d) = Near (named_side tables a) (named_side tables b) d

-- as JSON ------------------------------------------------------------------------------------

abbrev pub literal_data : List ℕ × Value → Data
literal_data literal = array (item (string literal.0) (item (value_data literal.1) no_items))

abbrev pub side_data : NamedSide → Data
side_data side = object (member (codes "table") (string side.table) (member (codes "where") (list_data literal_data side.filter) no_members))

abbrev pub tip_word : Tip → List ℕ
tip_word tip.First = codes "FIRST"
tip_word tip.Second = codes "SECOND"

abbrev pub names_data : List (List ℕ) → Data
names_data names = list_data string names

-- a rule, with its known needs where it has a list of these
abbrev pub named_rule_data : Option (List Broken) → NamedRule → Data
named_rule_data known (Unique subject columns) =
    object (member (codes "columns") (names_data columns) (member (codes "kind") (string (codes "UNIQUE"))
    (with_known known (member (codes "subject") (side_data subject) no_members))))
named_rule_data known (Partner subject columns server server_columns) =
    object (member (codes "columns") (names_data columns) (member (codes "kind") (string (codes "PARTNER"))
    (with_known known (member (codes "server") (side_data server) (member (codes "server_columns") (names_data server_columns)
    (member (codes "subject") (side_data subject) no_members))))))
named_rule_data known (EndNode subject tip server) =
    object (member (codes "kind") (string (codes "ENDNODE")) (with_known known (member (codes "server") (side_data server)
    (member (codes "subject") (side_data subject) (member (codes "tip") (string (tip_word tip)) no_members)))))
named_rule_data known (Crossing a b server) =
    object (member (codes "a") (side_data a) (member (codes "b") (side_data b) (member (codes "kind") (string (codes "CROSSING"))
    (with_known known (member (codes "server") (side_data server) no_members)))))
named_rule_data known (Near a b d) =
    object (member (codes "a") (side_data a) (member (codes "b") (side_data b) (member (codes "d") (number_data d)
    (member (codes "kind") (string (codes "NEAR")) (with_known known no_members)))))

-- a rule by its number
abbrev pub rule_data : List TableDef → List Broken → ℕ × Rule → Data
rule_data tables known r = named_rule_data (known_of_rule known r.0) (named_rule tables r.1)

abbrev pub rules_data : List TableDef → List Rule → List Broken → Data
rules_data tables rules known = list_data (rule_data tables known) (enumerate_from 0 rules)
