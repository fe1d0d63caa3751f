-- The rules of an office text: first with names, as they are written, and then over the schema.
use Rattle.std.specs.Prelude.{ℕ, ℤ, List, codes, map, Result, Ok, Err, if◌then◌else◌}
use Rattle.std.specs.Str.{bytes_eq}
use Rattle.serde_json.specs.Data.{Data, Items, no_items, item}
use Rattle.serde_json.specs.Find.{get}
use Rattle.clr_rows.specs.Names.{is_key_word}
use Rattle.clr_rows.specs.declared.rows.Value.{Value}
use Rattle.clr_rows.specs.declared.tables.TableDef.{TableDef}
use Rattle.clr_rows.specs.Schemas.{column_named, table_named}
use Rattle.clr_rules.specs.declared.columns.Col.{Col}
use Rattle.clr_rules.specs.declared.columns.Col.TheVariants as column
use Rattle.clr_rules.specs.declared.needs.Broken.{Broken}
use Rattle.clr_rules.specs.declared.rules.Rule.{Rule}
use Rattle.clr_rules.specs.declared.rules.Rule.TheVariants as rule
use Rattle.clr_rules.specs.declared.rules.Tip.{Tip}
use Rattle.clr_rules.specs.declared.rules.Tip.TheVariants as tip
use Rattle.clr_rules.specs.declared.sides.Side.{Side}
use Rattle.clr_rules.specs.Books.{book_fault}
use Rattle.clr_rule_text.specs.declared.faults.TextFault.{TextFault}
use Rattle.clr_rule_text.specs.declared.faults.TextFault.TheVariants.{BadField, BadRule}
use Rattle.clr_rule_text.specs.declared.formats.Format.{Format}
use Rattle.clr_rule_text.specs.declared.named_rules.NamedRule.{NamedRule}
use Rattle.clr_rule_text.specs.declared.named_rules.NamedRule.TheVariants.{Unique, Partner, EndNode, Crossing, Near}
use Rattle.clr_rule_text.specs.declared.named_sides.NamedSide.{NamedSide}
use Rattle.clr_rule_text.specs.declared.stated_rules.StatedRule.{StatedRule}
use Rattle.clr_readings.specs.Readings.{◌>>=◌, or_fault}
use Rattle.clr_rule_text.specs.Fields.{each, each_in, field_of, list_at, array_of, list_or_none, none_or_fault, number_at, words_at, words_of}
use Rattle.clr_rule_text.specs.Known.{known_needs, need_names_of}
use Rattle.clr_rule_text.specs.Values.{value_of}

-- with names ---------------------------------------------------------------------------------

-- a column and a literal
unfoldable pub literal_pair : Items → Result (List ℕ × Value) TextFault
literal_pair no_items = Err BadField
literal_pair (item d no_items) = Err BadField
literal_pair (item d (item e no_items)) = do
  name ← words_of d
  value ← value_of e
  Ok (name, value)
literal_pair (item d (item e (item f more))) = Err BadField

unfoldable pub literal_of : Data → Result (List ℕ × Value) TextFault
literal_of d = array_of d >>= literal_pair

unfoldable pub filter_of : Data → Result (List (List ℕ × Value)) TextFault
filter_of d = list_or_none (get (codes "where") d) >>= each literal_of

unfoldable pub side_of : Data → Result NamedSide TextFault
side_of d = do
  table ← words_at (codes "table") d
  filter ← filter_of d
  Ok (record { table = table; filter = filter })

unfoldable pub side_at : List ℕ → Data → Result NamedSide TextFault
side_at key d = field_of key d >>= side_of

unfoldable pub list_of_words_at : List ℕ → Data → Result (List (List ℕ)) TextFault
list_of_words_at key d = list_at key d >>= each words_of

abbrev pub tip_named : List ℕ → Result Tip TextFault
tip_named word = if bytes_eq word (codes "FIRST") then Ok tip.First else (if bytes_eq word (codes "SECOND") then Ok tip.Second else Err BadField)

unfoldable pub tip_of : Data → Result Tip TextFault
tip_of d = words_at (codes "tip") d >>= tip_named

unfoldable pub unique_of : Data → Result NamedRule TextFault
unique_of d = do
  subject ← side_at (codes "subject") d
  columns ← list_of_words_at (codes "columns") d
  Ok (Unique subject columns)

unfoldable pub partner_of : Data → Result NamedRule TextFault
partner_of d = do
  subject ← side_at (codes "subject") d
  columns ← list_of_words_at (codes "columns") d
  server ← side_at (codes "server") d
  server_columns ← list_of_words_at (codes "server_columns") d
  Ok (Partner subject columns server server_columns)

unfoldable pub end_node_of : Data → Result NamedRule TextFault
end_node_of d = do
  subject ← side_at (codes "subject") d
  tip ← tip_of d
  server ← side_at (codes "server") d
  Ok (EndNode subject tip server)

unfoldable pub crossing_of : Data → Result NamedRule TextFault
crossing_of d = do
  a ← side_at (codes "a") d
  b ← side_at (codes "b") d
  server ← side_at (codes "server") d
  Ok (Crossing a b server)

unfoldable pub near_of : Data → Result NamedRule TextFault
near_of d = do
  a ← side_at (codes "a") d
  b ← side_at (codes "b") d
  distance ← number_at (codes "d") d
  Ok (Near a b distance)

-- a rule of the kind that a word names
abbrev pub rule_of_kind : List ℕ → Data → Result NamedRule TextFault
rule_of_kind word d =
    if bytes_eq word (codes "UNIQUE") then unique_of d
    else (if bytes_eq word (codes "PARTNER") then partner_of d
    else (if bytes_eq word (codes "ENDNODE") then end_node_of d
    else (if bytes_eq word (codes "CROSSING") then crossing_of d
    else (if bytes_eq word (codes "NEAR") then near_of d
    else Err BadField))))

unfoldable pub named_rule_of : Data → Result NamedRule TextFault
named_rule_of d = words_at (codes "kind") d >>= λ word. rule_of_kind word d

-- a rule and the names of its needs that are known to be broken
unfoldable pub stated_rule_of : Format → Data → Result StatedRule TextFault
stated_rule_of format d = do
  rule ← named_rule_of d
  known ← need_names_of format rule d
  Ok (record { rule = rule; known = known })

unfoldable pub stated_rules_of : Format → Data → Result (List StatedRule) TextFault
stated_rules_of format d = list_or_none (get (codes "rules") d) >>= each (stated_rule_of format)

-- over the schema ----------------------------------------------------------------------------

-- a column that isn't the primary key
abbrev pub column_number : List TableDef → ℕ → List ℕ → Result ℕ TextFault
column_number tables table name = or_fault BadRule (column_named tables table name)

abbrev pub literal_over : List TableDef → ℕ → List ℕ × Value → Result (ℕ × Value) TextFault
literal_over tables table literal = column_number tables table literal.0 >>= λ n. Ok (n, literal.1)

abbrev pub filter_over : List TableDef → ℕ → List (List ℕ × Value) → Result (List (ℕ × Value)) TextFault
filter_over tables table literals = each_in (literal_over tables table) literals

unfoldable pub side_over : List TableDef → NamedSide → Result Side TextFault
side_over tables side = do
  table ← or_fault BadRule (table_named tables side.table)
  filter ← filter_over tables table side.filter
  Ok (record { table = table; filter = filter })

-- a column, where `KEY` is the primary key
abbrev pub column_over : List TableDef → ℕ → List ℕ → Result Col TextFault
column_over tables table name = if is_key_word name then Ok column.Key else (column_number tables table name >>= λ n. Ok (column.At n))

abbrev pub columns_over : List TableDef → ℕ → List (List ℕ) → Result (List Col) TextFault
columns_over tables table names = each_in (column_over tables table) names

unfoldable pub unique_over : List TableDef → NamedSide → List (List ℕ) → Result Rule TextFault
unique_over tables subject columns = do
  subject ← side_over tables subject
  columns ← columns_over tables subject.table columns
  Ok (rule.Unique subject columns)

unfoldable pub partner_over : List TableDef → NamedSide → List (List ℕ) → NamedSide → List (List ℕ) → Result Rule TextFault
partner_over tables subject columns server server_columns = do
  subject ← side_over tables subject
  columns ← columns_over tables subject.table columns
  server ← side_over tables server
  server_columns ← columns_over tables server.table server_columns
  Ok (rule.Partner subject columns server server_columns)

unfoldable pub end_node_over : List TableDef → NamedSide → Tip → NamedSide → Result Rule TextFault
end_node_over tables subject tip server = do
  subject ← side_over tables subject
  server ← side_over tables server
  Ok (rule.EndNode subject tip server)

unfoldable pub crossing_over : List TableDef → NamedSide → NamedSide → NamedSide → Result Rule TextFault
crossing_over tables a b server = do
  a ← side_over tables a
  b ← side_over tables b
  server ← side_over tables server
  Ok (rule.Crossing a b server)

unfoldable pub near_over : List TableDef → NamedSide → NamedSide → ℤ → Result Rule TextFault
near_over tables a b d = do
  a ← side_over tables a
  b ← side_over tables b
  Ok (rule.Near a b d)

abbrev pub rule_over : List TableDef → NamedRule → Result Rule TextFault
rule_over tables (Unique subject columns) = unique_over tables subject columns
rule_over tables (Partner subject columns server server_columns) = partner_over tables subject columns server server_columns
rule_over tables (EndNode subject tip server) = end_node_over tables subject tip server
rule_over tables (Crossing a b server) = crossing_over tables a b server
rule_over tables (Near a b d) = near_over tables a b d

-- rules, and their needs that are known to be broken; each is read for BadField before any is looked up in the schema
unfoldable pub rules_of : Format → List TableDef → Data → Result (List Rule × List Broken) TextFault
rules_of format tables d = do
  stated ← stated_rules_of format d
  rules ← each_in (rule_over tables) (map (λ s. s.rule) stated)
  _ ← none_or_fault BadRule (book_fault tables rules)
  known ← known_needs tables 0 rules (map (λ s. s.known) stated)
  Ok (rules, known)
