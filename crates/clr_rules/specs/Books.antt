-- Books of rules: which rules make one over a schema, and what fits one.
use Rattle.std.specs.Prelude.{◌≡◌, ◌≤◌, ℕ, ◌+◌, ℤ, Bool, true, false, not, List, [], ◌∷◌, ◌&&◌, ◌==◌, length, nat_lt, nat_le, int_le}
use Rattle.std.specs.Prelude.{Option, Some, None, slice_get, if◌then◌else◌, All}
use Rattle.std.specs.Option.{option_map}
use Rattle.std.specs.List.{list_all, zip}
use Rattle.clr_rows.specs.declared.rows.Value.{Value}
use Rattle.clr_rows.specs.declared.tables.TableDef.{TableDef}
use Rattle.clr_rows.specs.declared.tables.Kind.{Kind}
use Rattle.clr_rows.specs.declared.tables.Kind.TheVariants as kind
use Rattle.clr_rows.specs.declared.tables.Form.{Form}
use Rattle.clr_rows.specs.declared.tables.Form.TheVariants as form
use Rattle.clr_rows.specs.Contents.{Content}
use Rattle.clr_rows.specs.Held.{Held}
use Rattle.clr_rows.specs.Schemas.{FitsSchema, is_of_kind, is_number, row_fault}
use Rattle.clr_segments.specs.declared.limits.TheConstants.{GREATEST_DISTANCE}
use Rattle.clr_rules.specs.declared.columns.Col.{Col}
use Rattle.clr_rules.specs.declared.columns.Col.TheVariants as column
use Rattle.clr_rules.specs.declared.books.faults.RuleFault.{RuleFault}
use Rattle.clr_rules.specs.declared.books.faults.RuleFault.TheVariants.{NoTable, NoColumn, KindsDiffer, WrongShape, BadDistance, BadFilter, TooMany}
use Rattle.clr_rules.specs.declared.limits.TheConstants.{MOST_RULES, LEAST_DISTANCE}
use Rattle.clr_rules.specs.declared.rules.Rule.{Rule}
use Rattle.clr_rules.specs.declared.rules.Rule.TheVariants.{Unique, Partner, EndNode, Crossing, Near}
use Rattle.clr_rules.specs.declared.sides.Side.{Side}
use Rattle.clr_rules.specs.Sides.{each_side}

-- tables -------------------------------------------------------------------------------------

abbrev pub has_table : List TableDef → Side → Bool
has_table tables side = nat_lt side.table (length tables)

abbrev pub has_tables : List TableDef → Rule → Bool
has_tables tables rule = each_side (has_table tables) rule

-- columns ------------------------------------------------------------------------------------

-- the kind of a column of a table, if there is one; a primary key is a whole number
abbrev pub kind_in : Option TableDef → Col → Option Kind
kind_in None c = None
kind_in (Some table) column.Key = Some kind.Int
kind_in (Some table) (column.At n) = option_map (λ c. c.1) (slice_get table.columns n)

abbrev pub kind_of : List TableDef → ℕ → Col → Option Kind
kind_of tables table c = kind_in (slice_get tables table) c

abbrev pub is_some_kind : Option Kind → Bool
is_some_kind None = false
is_some_kind (Some k) = true

abbrev pub is_primary_key : Col → Bool
is_primary_key column.Key = true
is_primary_key (column.At n) = false

abbrev pub is_column_of : List TableDef → Side → Col → Bool
is_column_of tables side c = is_some_kind (kind_of tables side.table c)

-- some columns, each one of the side's table
abbrev pub are_columns_of : List TableDef → Side → List Col → Bool
are_columns_of tables side columns = not (length columns == 0) && list_all (is_column_of tables side) columns

abbrev pub has_columns : List TableDef → Rule → Bool
has_columns tables (Unique subject columns) = are_columns_of tables subject columns && list_all (λ c. not (is_primary_key c)) columns
has_columns tables (Partner subject columns server server_columns) = are_columns_of tables subject columns && are_columns_of tables server server_columns
has_columns tables _ = true

abbrev pub same_kind : Option Kind → Option Kind → Bool
same_kind (Some kind.Int) (Some kind.Int) = true
same_kind (Some kind.Words) (Some kind.Words) = true
same_kind _ _ = false

abbrev pub has_same_kinds : List TableDef → Rule → Bool
has_same_kinds tables (Partner subject columns server server_columns) =
    length columns == length server_columns
    && list_all (λ p. same_kind (kind_of tables subject.table p.0) (kind_of tables server.table p.1)) (zip columns server_columns)
has_same_kinds tables _ = true

-- shapes, distances and filters ---------------------------------------------------------------

abbrev pub is_point_form : Form → Bool
is_point_form form.Point = true
is_point_form _ = false

abbrev pub is_line_form : Form → Bool
is_line_form form.Segment = true
is_line_form form.Path = true
is_line_form _ = false

abbrev pub has_form_in : (Form → Bool) → Option TableDef → Bool
has_form_in test None = false
has_form_in test (Some table) = test table.shape

-- the side's table has a shape that passes the test
abbrev pub has_form : List TableDef → (Form → Bool) → Side → Bool
has_form tables test side = has_form_in test (slice_get tables side.table)

-- segments or paths, and points, where the rule asks for them
abbrev pub has_forms : List TableDef → Rule → Bool
has_forms tables (EndNode subject tip server) = has_form tables is_line_form subject && has_form tables is_point_form server
has_forms tables (Crossing a b server) = has_form tables is_line_form a && (has_form tables is_line_form b && has_form tables is_point_form server)
has_forms tables (Near a b d) = has_form tables is_point_form a && has_form tables is_point_form b
has_forms tables _ = true

abbrev pub is_distance : ℤ → Bool
is_distance d = int_le LEAST_DISTANCE d && int_le d GREATEST_DISTANCE

abbrev pub has_distance : Rule → Bool
has_distance (Near a b d) = is_distance d
has_distance _ = true

-- a value of the kind of a column that is there, and within 64 bits if it is a number
abbrev pub is_literal_of : Option Kind → Value → Bool
is_literal_of None v = false
is_literal_of (Some k) v = is_of_kind k v && is_number v

-- each literal of a filter is of its column's kind
abbrev pub has_filter : List TableDef → Side → Bool
has_filter tables side = list_all (λ f. is_literal_of (kind_of tables side.table (column.At f.0)) f.1) side.filter

abbrev pub has_filters : List TableDef → Rule → Bool
has_filters tables rule = each_side (has_filter tables) rule

-- a literal that is a number is within 64 bits
abbrev pub is_side_within : Side → Bool
is_side_within side = list_all (λ f. is_number f.1) side.filter

-- each literal of a rule that is a number is within 64 bits
unfoldable pub is_rule_within : Rule → Bool
is_rule_within rule = each_side is_side_within rule

-- books --------------------------------------------------------------------------------------

-- what every book of the program has
pub record IsBook (rules : List Rule) : Type 0 where
  pub few : length rules ≤ MOST_RULES
  pub within : list_all is_rule_within rules ≡ true

-- the first test that a rule fails
unfoldable pub rule_fault : List TableDef → Rule → Option RuleFault
rule_fault tables rule =
    if not (has_tables tables rule) then Some NoTable
    else (if not (has_columns tables rule) then Some NoColumn
    else (if not (has_same_kinds tables rule) then Some KindsDiffer
    else (if not (has_forms tables rule) then Some WrongShape
    else (if not (has_distance rule) then Some BadDistance
    else (if not (has_filters tables rule) then Some BadFilter
    else None)))))

abbrev pub fault_or_later : ℕ → Option RuleFault → Option (ℕ × RuleFault) → Option (ℕ × RuleFault)
fault_or_later number (Some fault) later = Some (number, fault)
fault_or_later number None later = later

-- the first rule with a fault, numbered from here on
unfoldable pub first_fault : List TableDef → ℕ → List Rule → Option (ℕ × RuleFault)
first_fault tables number [] = None
first_fault tables number (rule ∷ rules) = fault_or_later number (rule_fault tables rule) (first_fault tables (number + 1) rules)

-- why rules make no book over a schema: more than the most, or the first rule with a fault
unfoldable pub book_fault : List TableDef → List Rule → Option (ℕ × RuleFault)
book_fault tables rules = if nat_le (length rules) MOST_RULES then first_fault tables 0 rules else Some (MOST_RULES, TooMany)

-- the rules make a book over the schema
abbrev pub FitsBook : List TableDef → List Rule → Type 0
FitsBook tables rules = book_fault tables rules ≡ None

-- the row can stand at its cell
abbrev pub FitsCell : List TableDef → Held → Type 0
FitsCell tables s = row_fault tables s.0 s.1 ≡ None

-- one schema that a book and some rows fit
pub record FitTogether (rules : List Rule) (rows : List Held) : Type 0 where
  pub tables : List TableDef
  pub book : FitsBook tables rules
  pub each : All (FitsCell tables) rows

-- one schema that a book and a content fit
pub record FitsContent (rules : List Rule) (content : Content) : Type 0 where
  pub tables : List TableDef
  pub book : FitsBook tables rules
  pub rows : FitsSchema tables content
