-- The tables and columns that a rule names, and what is said of one that the schema hasn't.
use Rattle.std.specs.Prelude.{◌≡◌, ◌≢◌, ℕ, Bool, true, false, not, ◌&&◌, List, [], ◌∷◌, ◌++◌, codes, map, Option, Some, None, Ok, unwrap_or, option_map}
use Rattle.std.specs.List.{enumerate_from, find, list_any}
use Rattle.std.specs.Str.{bytes_eq}
use Rattle.serde_json.specs.Data.{Data}
use Rattle.clr_rows.specs.Names.{is_key_word}
use Rattle.clr_rows.specs.declared.rows.Value.{Value}
use Rattle.clr_rows.specs.declared.tables.TableDef.{TableDef}
use Rattle.clr_rows.specs.Schemas.{names_of}
use Rattle.clr_rule_text.specs.declared.named_rules.NamedRule.{NamedRule}
use Rattle.clr_rule_text.specs.declared.named_rules.NamedRule.TheVariants.{Unique, Partner, EndNode, Crossing, Near}
use Rattle.clr_rule_text.specs.declared.named_sides.NamedSide.{NamedSide}
use Rattle.clr_rule_text.specs.Rules.{named_rule_of}
use Rattle.clr_hints.specs.Names.{IsHintAtName}
use Rattle.clr_item_explanations.specs.Values.{table_called}
use Rattle.clr_text_positions.specs.declared.paths.Key.{Key}
use Rattle.clr_text_positions.specs.declared.paths.Key.TheVariants as key
use Rattle.clr_text_positions.specs.declared.paths.PathStep.{PathStep}
use Rattle.clr_text_positions.specs.declared.paths.PathStep.TheVariants as step
use Rattle.clr_schema_explanations.specs.declared.rule_names.NamePlace.{NamePlace}
use Rattle.clr_schema_explanations.specs.declared.rule_names.NamePlace.TheVariants as place
use Rattle.clr_schema_explanations.specs.declared.rule_names.RuleName.{RuleName}

-- names that the schema hasn't -----------------------------------------------------------------

-- what is said of the name of a table: that none has it; and the hint at the tables
pub record TellsNoTable (tables : List TableDef) (name sentence : List ℕ) (hint : Option (List ℕ)) : Type 0 where
  pub told : sentence ≡ codes "NoTable: no table is called '" ++ name ++ codes "'"
  pub near : IsHintAtName name (map (λ table. table.name) tables) hint

-- what is said of the name of a column: that the table has none of that name; and the hint at its columns
pub record TellsNoColumn (table : TableDef) (name sentence : List ℕ) (hint : Option (List ℕ)) : Type 0 where
  pub told : sentence ≡ codes "NoColumn: table " ++ table.name ++ codes " has no column '" ++ name ++ codes "'"
  pub near : IsHintAtName name (names_of table.columns) hint

-- the names of a rule --------------------------------------------------------------------------

-- the name of a table, or of a column of it, and where in the rule it is
pub record NameInRule : Type 0 where
  pub place : NamePlace
  pub table : List ℕ
  pub column : Option (List ℕ)

abbrev pub name_in_rule : RuleName → NameInRule
name_in_rule name = record { place = name.place; table = name.table.now; column = option_map (λ column. column.now) name.column }

-- the steps from a rule to a name in it
abbrev pub steps_to_name : NamePlace → List PathStep
steps_to_name (place.Side k) = step.Key k ∷ step.Key key.Table ∷ []
steps_to_name (place.Literal k at) = step.Key k ∷ step.Key key.Where ∷ step.At at ∷ step.At 0 ∷ []
steps_to_name (place.Column k at) = step.Key k ∷ step.At at ∷ []

-- the name of the column of a literal
abbrev pub literal_name : Key → List ℕ → ℕ × (List ℕ × Value) → NameInRule
literal_name k table literal = record { place = place.Literal k literal.0; table = table; column = Some literal.1.0 }

abbrev pub column_name : Key → List ℕ → ℕ × List ℕ → NameInRule
column_name k table name = record { place = place.Column k name.0; table = table; column = Some name.1 }

unfoldable pub names_of_literals : Key → NamedSide → List NameInRule
names_of_literals k side = map (literal_name k side.table) (enumerate_from 0 side.filter)

-- the table of a side, and then the columns of its literals
abbrev pub names_of_side : Key → NamedSide → List NameInRule
names_of_side k side = record { place = place.Side k; table = side.table; column = None } ∷ names_of_literals k side

unfoldable pub names_of_columns : Key → List ℕ → List (List ℕ) → List NameInRule
names_of_columns k table names = map (column_name k table) (enumerate_from 0 names)

-- the names of a rule, in the order in which they are looked up
abbrev pub names_of_rule : NamedRule → List NameInRule
names_of_rule (Unique subject columns) = names_of_side key.Subject subject ++ names_of_columns key.Columns subject.table columns
names_of_rule (Partner subject columns server server_columns) =
    (names_of_side key.Subject subject ++ names_of_columns key.Columns subject.table columns)
    ++ (names_of_side key.Server server ++ names_of_columns key.ServerColumns server.table server_columns)
names_of_rule (EndNode subject tip server) = names_of_side key.Subject subject ++ names_of_side key.Server server
names_of_rule (Crossing a b server) = names_of_side key.A a ++ names_of_side key.B b ++ names_of_side key.Server server
names_of_rule (Near a b d) = names_of_side key.A a ++ names_of_side key.B b

-- in a list of columns `KEY` is the primary key
abbrev pub is_primary_key : NamePlace → List ℕ → Bool
is_primary_key (place.Column k at) name = is_key_word name
is_primary_key _ name = false

abbrev pub lacks_column : TableDef → NamePlace → Option (List ℕ) → Bool
lacks_column table at None = false
lacks_column table at (Some name) = not (is_primary_key at name) && not (list_any (λ column. bytes_eq column.0 name) table.columns)

abbrev pub is_unknown_in : Option TableDef → NameInRule → Bool
is_unknown_in None name = true
is_unknown_in (Some table) name = lacks_column table name.place name.column

-- the schema hasn't the table, or the table hasn't the column
abbrev pub is_unknown : List TableDef → NameInRule → Bool
is_unknown tables name = is_unknown_in (table_called tables name.table) name

abbrev pub first_unknown : List TableDef → NamedRule → Option NameInRule
first_unknown tables rule = find (is_unknown tables) (names_of_rule rule)

abbrev pub TellsUnknownIn : Option TableDef → List TableDef → NameInRule → List ℕ → Option (List ℕ) → Type 0
TellsUnknownIn None tables name sentence hint = TellsNoTable tables name.table sentence hint
TellsUnknownIn (Some table) tables name sentence hint = TellsNoColumn table (unwrap_or name.column []) sentence hint

-- what is said of a name that isn't known: its table, where the schema hasn't it, and else its column; at the steps to it
pub record TellsUnknownName (tables : List TableDef) (name : NameInRule) (steps : List PathStep) (sentence : List ℕ) (hint : Option (List ℕ)) : Type 0 where
  pub at : steps ≡ steps_to_name name.place
  pub told : TellsUnknownIn (table_called tables name.table) tables name sentence hint

-- what is said of a row whose table isn't known
pub record TellsUnknownTable (tables : List TableDef) (name : List ℕ) (steps : List PathStep) (sentence : List ℕ) (hint : Option (List ℕ)) : Type 0 where
  pub at : steps ≡ step.Key key.T ∷ []
  pub told : TellsNoTable tables name sentence hint

abbrev pub HasTable : List TableDef → List ℕ → Type 0
HasTable tables name = table_called tables name ≢ None

-- a rule that can be read names nothing that the schema hasn't
abbrev pub NamesAreKnown : List TableDef → Data → Type 0
NamesAreKnown tables item = (rule : NamedRule) → named_rule_of item ≡ Ok rule → first_unknown tables rule ≡ None

-- a rule can be read, and this is said of the first of its names that the schema hasn't
pub record TellsFirstUnknown (tables : List TableDef) (item : Data) (steps : List PathStep) (sentence : List ℕ) (hint : Option (List ℕ)) : Type 0 where
  pub rule : NamedRule
  pub read : named_rule_of item ≡ Ok rule
  pub name : NameInRule
  pub first : first_unknown tables rule ≡ Some name
  pub told : TellsUnknownName tables name steps sentence hint
