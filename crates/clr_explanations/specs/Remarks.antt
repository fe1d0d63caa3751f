-- What is said of a fault of an office text.
use Rattle.std.specs.Prelude.{◌≡◌, ◌≤◌, ℕ, List, [], length, string_bytes, Some, None, Ok, MatchOption, option_map, unwrap_or}
use Rattle.serde_json.specs.Data.{Data}
use Rattle.clr_rows.specs.declared.tables.TableDef.{TableDef}
use Rattle.clr_rows.specs.declared.faults.SchemaFault.{SchemaFault}
use Rattle.clr_lines.specs.Replies.{row_fault_name}
use Rattle.clr_office_reading.specs.Offices.{format_of}
use Rattle.clr_rule_text.specs.declared.faults.TextFault.{TextFault}
use Rattle.clr_rule_text.specs.declared.faults.TextFault.TheVariants as fault
use Rattle.clr_rule_text.specs.declared.named_rules.NamedRule.{NamedRule}
use Rattle.clr_rule_text.specs.Rules.{named_rule_of}
use Rattle.clr_rule_text.specs.declared.formats.Format.{Format}
use Rattle.clr_hints.specs.JsonFaults.{IsJsonFault, Told}
use Rattle.clr_faults.specs.InnerFaults.{book_fault_of, put_fault_of, tables_fault_of}
use Rattle.clr_faults.specs.KnownFaults.{known_fault_of}
use Rattle.clr_schema_explanations.specs.RowFaults.{wrong_of_row}
use Rattle.clr_schema_explanations.specs.RuleFaults.{rule_fault_name, wrong_of_rule}
use Rattle.clr_schema_explanations.specs.SchemaFaults.{schema_fault_name, wrong_of_schema}
use Rattle.clr_item_explanations.specs.Slips.{Said}
use Rattle.clr_item_explanations.specs.Tellings.{Tells, TellsNamed}
use Rattle.clr_item_explanations.specs.Values.{table_called, text_at}
use Rattle.clr_faults.specs.Spots.{IsFoundIn, value_in}
use Rattle.clr_faults.specs.declared.spots.FaultyItem.{FaultyItem}
use Rattle.clr_text_positions.specs.declared.remarks.Remark.{Remark}
use Rattle.clr_text_positions.specs.declared.paths.Key.TheVariants as key
use Rattle.clr_text_positions.specs.declared.paths.PathStep.{PathStep}
use Rattle.clr_explanations.specs.Items.{item_at_spot}
use Rattle.clr_explanations.specs.KnownNeeds.{wrong_of_need}
use Rattle.clr_schema_explanations.specs.Names.{NameInRule, TellsUnknownName, TellsUnknownTable, first_unknown}
use Rattle.clr_explanations.specs.Places.{place_text}
use Rattle.clr_explanations.specs.Readings.{tables_in}
use Rattle.clr_explanations.specs.RepeatedCells.{TellsRepeatedCell}
use Rattle.clr_explanations.specs.WrongItems.{unknown, wrong_at_spot, wrong_part_at}

-- rows -----------------------------------------------------------------------------------------

-- of a row whose table the schema hasn't
abbrev pub TellsRowOfNoTable : List TableDef → Data → Said → Type 0
TellsRowOfNoTable tables item said = let name = text_at key.T item in
    table_called tables name ≡ None → TellsUnknownTable tables name said.steps said.sentence said.hint

-- of a row that can't be put at its cell: the fault that it has over its table and what has it, or that there is no such table
abbrev pub TellsRowFault : List TableDef → Data → Said → Type 0
TellsRowFault tables item said =
    MatchOption (put_fault_of tables item) (TellsRowOfNoTable tables item said) (λ f. TellsNamed (row_fault_name f) (wrong_of_row tables f item) said)

abbrev pub TellsBadRow : Data → FaultyItem → Said → Type 0
TellsBadRow d at said = (tables : List TableDef) (item : Data) → tables_in d ≡ Ok tables → item_at_spot at d ≡ Ok item → TellsRowFault tables item said

-- rules ----------------------------------------------------------------------------------------

-- of a rule that names what the schema hasn't: the first such name
abbrev pub TellsRuleOfNoName : List TableDef → Data → Said → Type 0
TellsRuleOfNoName tables item said = (rule : NamedRule) (name : NameInRule) → named_rule_of item ≡ Ok rule → first_unknown tables rule ≡ Some name →
    TellsUnknownName tables name said.steps said.sentence said.hint

-- of rules that make a book, if they name what the schema has: the first known need that its rule can't have, or the first name that isn't known
-- in the rule of the item
abbrev pub TellsKnownFault : Format → List TableDef → Data → FaultyItem → Said → Type 0
TellsKnownFault format tables d at said =
    MatchOption (known_fault_of format tables d) ((item : Data) → item_at_spot at d ≡ Ok item → TellsRuleOfNoName tables item said)
    (λ f. Tells (wrong_of_need f) said)

-- of a rule that can't stand in a book: the fault of the book and what it means
abbrev pub TellsRuleFault : Format → List TableDef → Data → FaultyItem → Said → Type 0
TellsRuleFault format tables d at said =
    MatchOption (book_fault_of format tables d) (TellsKnownFault format tables d at said) (λ f. TellsNamed (rule_fault_name f.1) (wrong_of_rule f.1) said)

abbrev pub TellsBadRule : Data → FaultyItem → Said → Type 0
TellsBadRule d at said =
    (format : Format) (tables : List TableDef) → format_of d ≡ Ok format → tables_in d ≡ Ok tables → TellsRuleFault format tables d at said

-- tables ---------------------------------------------------------------------------------------

-- of tables that make no schema: the fault that they have, and the table or the column that has it
abbrev pub TellsSchemaFault : Format → Data → Said → Type 0
TellsSchemaFault format d said = (f : SchemaFault) → tables_fault_of format d ≡ Some f → TellsNamed (schema_fault_name f) (wrong_of_schema f d) said

abbrev pub TellsBadSchema : Data → Said → Type 0
TellsBadSchema d said = (format : Format) → format_of d ≡ Ok format → TellsSchemaFault format d said

-- remarks --------------------------------------------------------------------------------------

-- what is said by the fault: of a field the first that isn't what must stand there, of a cell that stands twice where it stands first, of a workspace what
-- it is behind those before it, and of tables, rules, known needs and rows the fault that the reader drops
abbrev pub TellsFault : List ℕ → Data → TextFault → FaultyItem → Said → Type 0
TellsFault text d fault.BadField at said = Tells (unwrap_or (wrong_at_spot at d) unknown) said
TellsFault text d fault.BadPart at said = Tells (unwrap_or (wrong_part_at at d) unknown) said
TellsFault text d fault.RepeatedCell at said = TellsRepeatedCell text d at said
TellsFault text d fault.BadSchema at said = TellsBadSchema d said
TellsFault text d fault.BadRule at said = TellsBadRule d at said
TellsFault text d fault.BadRow at said = TellsBadRow d at said
TellsFault text d fault.NotJson at said = Tells unknown said
TellsFault text d fault.OutOfMemory at said = Tells unknown said

abbrev pub said_at : List PathStep → Remark → Said
said_at steps remark = record { steps = steps; sentence = string_bytes remark.sentence; hint = option_map string_bytes remark.hint }

-- what is said of a fault at an item of a value: the path to the item and on to the value that is wrong, and what is wrong with it
pub record IsRemarkIn (text : List ℕ) (d : Data) (e : TextFault) (at : FaultyItem) (remark : Remark) : Type 0 where
  pub steps : List PathStep
  pub place : string_bytes remark.place ≡ place_text d at steps
  pub told : TellsFault text d e at (said_at steps remark)

abbrev pub told_in : Remark → Told
told_in remark = record { offset = remark.offset; sentence = string_bytes remark.sentence; hint = option_map string_bytes remark.hint }

-- what is said of a text that is no value: where it stops being JSON, by a line and a column that the reader of JSON tells; it has no path
pub record IsJsonRemark (text : List ℕ) (remark : Remark) : Type 0 where
  pub place : string_bytes remark.place ≡ []
  pub line : ℕ
  pub column : ℕ
  pub told : IsJsonFault text line column (told_in remark)

-- what is said of a fault at an item of a text, and of a text that is no value
pub record IsRemarkAt (text : List ℕ) (e : TextFault) (at : FaultyItem) (remark : Remark) : Type 0 where
  pub within : remark.offset ≤ length text
  pub said : MatchOption (value_in text) (IsJsonRemark text remark) (λ d. IsRemarkIn text d e at remark)

-- what is said of a fault of a text: it stands at the item that is found
abbrev pub IsOfficeRemark : List ℕ → TextFault → Remark → Type 0
IsOfficeRemark text e remark = (at : FaultyItem) × IsFoundIn text e at × IsRemarkAt text e at remark
