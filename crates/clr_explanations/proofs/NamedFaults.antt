-- The fault that the reader drops is told.
use Rattle.std.proofs.Common.{◌≡◌, ℕ, List, Option, Some, None, Result, Ok, Err, refl, string_bytes, subst, sym}
use Rattle.std.specs.Prelude.{IsErr, MatchOption}
use Rattle.serde_json.specs.Data.{Data}
use Rattle.clr_rows.specs.declared.tables.TableDef.{TableDef}
use Rattle.clr_rows.specs.declared.faults.RowFault.{RowFault}
use Rattle.clr_rows.specs.declared.faults.SchemaFault.{SchemaFault}
use Rattle.clr_rules.specs.declared.books.faults.RuleFault.{RuleFault}
use Rattle.clr_lines.specs.Replies.{row_fault_name}
use Rattle.clr_office_reading.specs.Offices.{format_of}
use Rattle.clr_rule_text.specs.declared.faults.TextFault.{TextFault}
use Rattle.clr_rule_text.specs.declared.formats.Format.{Format}
use Rattle.clr_faults.specs.InnerFaults.{book_fault_of, put_fault_of, tables_fault_of}
use Rattle.clr_faults.specs.KnownFaults.{known_fault_of}
use Rattle.clr_faults.specs.declared.known_faults.BadNeed.{BadNeed}
use Rattle.clr_schema_explanations.specs.RowFaults.{wrong_of_row}
use Rattle.clr_schema_explanations.specs.RuleFaults.{rule_fault_name, wrong_of_rule}
use Rattle.clr_schema_explanations.specs.SchemaFaults.{schema_fault_name, wrong_of_schema}
use Rattle.clr_item_explanations.specs.Tellings.{Tells, TellsNamed}
use Rattle.clr_item_explanations.specs.Values.{text_at}
use Rattle.clr_text_positions.specs.declared.paths.Key.TheVariants as key
use Rattle.clr_schema_explanations.specs.Names.{HasTable, NamesAreKnown, TellsFirstUnknown, TellsUnknownName, TellsUnknownTable, first_unknown}
use Rattle.clr_item_explanations.specs.declared.slips.Slip.{Slip}
use Rattle.clr_text_positions.specs.declared.remarks.Remark.{Remark}
use Rattle.clr_faults.specs.declared.spots.FaultyItem.{FaultyItem}
use Rattle.clr_explanations.specs.Items.{item_at_spot}
use Rattle.clr_explanations.specs.KnownNeeds.{wrong_of_need}
use Rattle.clr_explanations.specs.Places.{place_text}
use Rattle.clr_explanations.specs.Remarks.{IsRemarkIn, TellsBadRow, TellsBadRule, TellsBadSchema, TellsFault, TellsKnownFault, TellsRowFault}
use Rattle.clr_explanations.specs.Remarks.{TellsRowOfNoTable, TellsRuleFault, TellsRuleOfNoName, TellsSchemaFault, said_at}
use Rattle.clr_explanations.specs.Readings.{tables_in}
use Rattle.clr_item_explanations.specs.Slips.{Said, said}

-- what holds of the value of an option, or of a result, holds of each value that it has
pub of_some : {A : Type 0} (P : A → Type 0) (found : Option A) (x y : A) → Some x ≡ found → P x → found ≡ Some y → P y
of_some P found x y is holds again = let same : y ≡ x = cc in rw same holds

pub of_ok : {A : Type 0} (P : A → Type 0) (r : Result A TextFault) (x y : A) → r ≡ Ok x → P x → r ≡ Ok y → P y
of_ok P r x y is holds again = let same : y ≡ x = cc in rw same holds

pub no_value : {A : Type 0} {P : Type 0} (r : Result A TextFault) (x : A) → IsErr r → r ≡ Ok x → P
no_value (Ok y) x is again = absurd cc
no_value (Err e) x is again = absurd cc

pub no_fault : {A : Type 0} {P : Type 0} (found : Option A) (x : A) → None ≡ found → found ≡ Some x → P
no_fault found x is again = absurd cc

-- tables -------------------------------------------------------------------------------------

pub names_schema_fault : (format : Format) (d : Data) (f : SchemaFault) (s : Said) → Some f ≡ tables_fault_of format d
    → TellsNamed (schema_fault_name f) (wrong_of_schema f d) s → TellsSchemaFault format d s
names_schema_fault format d f s is named =
    λ g again. of_some (λ h. TellsNamed (schema_fault_name h) (wrong_of_schema h d) s) (tables_fault_of format d) f g is named again

pub no_schema_fault : (format : Format) (d : Data) (s : Said) → None ≡ tables_fault_of format d → TellsSchemaFault format d s
no_schema_fault format d s is = λ g again. no_fault (tables_fault_of format d) g is again

pub names_bad_schema : (d : Data) (s : Said) (format : Format) → format_of d ≡ Ok format → TellsSchemaFault format d s →
    TellsBadSchema d s
names_bad_schema d s format is told = λ other again. of_ok (λ x. TellsSchemaFault x d s) (format_of d) format other is told again

pub no_format : (d : Data) (s : Said) → IsErr (format_of d) → TellsBadSchema d s
no_format d s is = λ format again. no_value (format_of d) format is again

match_some : {A : Type 0} (found : Option A) (x : A) (P : Type 0) (Q : A → Type 0) → Some x ≡ found → Q x → MatchOption found P Q
match_some found x P Q is holds = subst (λ o. MatchOption o P Q) is holds

match_none : {A : Type 0} (found : Option A) (P : Type 0) (Q : A → Type 0) → None ≡ found → P → MatchOption found P Q
match_none found P Q is holds = subst (λ o. MatchOption o P Q) is holds

-- rules --------------------------------------------------------------------------------------

-- what is told of the first name of a rule that isn't known is told of each first one: there is one
pub first_name_told : (tables : List TableDef) (item : Data) (s : Said) → TellsFirstUnknown tables item s.steps s.sentence s.hint →
    TellsRuleOfNoName tables item s
first_name_told tables item s is = λ rule name read first.
    let rules : is.rule ≡ rule = let before = is.read in cc in
    let found : first_unknown tables rule ≡ Some is.name = subst (λ r. first_unknown tables r ≡ Some is.name) rules is.first in
    let names : is.name ≡ name = cc in
    subst (λ n. TellsUnknownName tables n s.steps s.sentence s.hint) names is.told

pub no_first_name : (tables : List TableDef) (item : Data) (s : Said) → NamesAreKnown tables item → TellsRuleOfNoName tables item s
no_first_name tables item s known = λ rule name read first. let none : first_unknown tables rule ≡ None = known rule read in absurd cc

pub names_told : (tables : List TableDef) (d one : Data) (at : FaultyItem) (s : Said) → item_at_spot at d ≡ Ok one → TellsRuleOfNoName tables one s
    → (item : Data) → item_at_spot at d ≡ Ok item → TellsRuleOfNoName tables item s
names_told tables d one at s is told = λ item again. of_ok (λ x. TellsRuleOfNoName tables x s) (item_at_spot at d) one item is told again

pub no_rule_there : (tables : List TableDef) (d : Data) (at : FaultyItem) (s : Said) → IsErr (item_at_spot at d)
    → (item : Data) → item_at_spot at d ≡ Ok item → TellsRuleOfNoName tables item s
no_rule_there tables d at s is = λ item again. no_value (item_at_spot at d) item is again

pub rule_fault_told : (format : Format) (tables : List TableDef) (d : Data) (at : FaultyItem) (f : ℕ × RuleFault) (s : Said)
    → Some f ≡ book_fault_of format tables d → TellsNamed (rule_fault_name f.1) (wrong_of_rule f.1) s → TellsRuleFault format tables d at s
rule_fault_told format tables d at f s is told = match_some (book_fault_of format tables d) f _ _ is told

pub no_book_fault : (format : Format) (tables : List TableDef) (d : Data) (at : FaultyItem) (s : Said) → None ≡ book_fault_of format tables d
    → TellsKnownFault format tables d at s → TellsRuleFault format tables d at s
no_book_fault format tables d at s is told = match_none (book_fault_of format tables d) _ _ is told

pub need_told : (format : Format) (tables : List TableDef) (d : Data) (at : FaultyItem) (f : BadNeed) (s : Said) → Some f ≡ known_fault_of format tables d
    → Tells (wrong_of_need f) s → TellsKnownFault format tables d at s
need_told format tables d at f s is told = match_some (known_fault_of format tables d) f _ _ is told

pub rule_names_told : (format : Format) (tables : List TableDef) (d : Data) (at : FaultyItem) (s : Said) → None ≡ known_fault_of format tables d
    → ((item : Data) → item_at_spot at d ≡ Ok item → TellsRuleOfNoName tables item s) → TellsKnownFault format tables d at s
rule_names_told format tables d at s is told = match_none (known_fault_of format tables d) _ _ is told

pub names_bad_rule : (d : Data) (at : FaultyItem) (s : Said) (format : Format) (tables : List TableDef) → format_of d ≡ Ok format → tables_in d ≡ Ok tables
    → TellsRuleFault format tables d at s → TellsBadRule d at s
names_bad_rule d at s format tables known is told = λ other others again also.
    of_ok (λ x. TellsRuleFault x others d at s) (format_of d) format other known
    (of_ok (λ x. TellsRuleFault format x d at s) (tables_in d) tables others is told also) again

pub no_format_of_rules : (d : Data) (at : FaultyItem) (s : Said) → IsErr (format_of d) → TellsBadRule d at s
no_format_of_rules d at s is = λ format tables again also. no_value (format_of d) format is again

pub no_tables : (d : Data) (at : FaultyItem) (s : Said) → IsErr (tables_in d) → TellsBadRule d at s
no_tables d at s is = λ format tables again also. no_value (tables_in d) tables is also

-- rows ---------------------------------------------------------------------------------------

pub table_told : (tables : List TableDef) (item : Data) (s : Said) → TellsUnknownTable tables (text_at key.T item) s.steps s.sentence s.hint
    → TellsRowOfNoTable tables item s
table_told tables item s told = λ none. told

pub known_table : (tables : List TableDef) (item : Data) (s : Said) → HasTable tables (text_at key.T item) → TellsRowOfNoTable tables item s
known_table tables item s known = λ none. absurd (known none)

pub row_fault_told : (tables : List TableDef) (d : Data) (f : RowFault) (s : Said) → Some f ≡ put_fault_of tables d
    → TellsNamed (row_fault_name f) (wrong_of_row tables f d) s → TellsRowFault tables d s
row_fault_told tables d f s is told = match_some (put_fault_of tables d) f _ _ is told

pub row_table_told : (tables : List TableDef) (d : Data) (s : Said) → None ≡ put_fault_of tables d → TellsRowOfNoTable tables d s → TellsRowFault tables d s
row_table_told tables d s is told = match_none (put_fault_of tables d) _ _ is told

pub names_bad_row : (d : Data) (at : FaultyItem) (s : Said) (tables : List TableDef) (item : Data) → tables_in d ≡ Ok tables → item_at_spot at d ≡ Ok item
    → TellsRowFault tables item s → TellsBadRow d at s
names_bad_row d at s tables item is stands told = λ others other again also.
    of_ok (λ x. TellsRowFault x other s) (tables_in d) tables others is
    (of_ok (λ x. TellsRowFault tables x s) (item_at_spot at d) item other stands told also) again

pub no_tables_of_row : (d : Data) (at : FaultyItem) (s : Said) → IsErr (tables_in d) → TellsBadRow d at s
no_tables_of_row d at s is = λ tables item again also. no_value (tables_in d) tables is again

pub no_item : (d : Data) (at : FaultyItem) (s : Said) → IsErr (item_at_spot at d) → TellsBadRow d at s
no_item d at s is = λ tables item again also. no_value (item_at_spot at d) item is also

-- remarks ------------------------------------------------------------------------------------

pub said_by : (slip : Slip) (remark : Remark) → remark.sentence ≡ slip.sentence → remark.hint ≡ slip.hint → said_at slip.steps.items remark ≡ said slip
said_by slip remark sentence hint = rw (sentence, hint) refl

-- a remark says what the slip says that it is made of
pub slip_told : (text : List ℕ) (d : Data) (e : TextFault) (at : FaultyItem) (slip : Slip) (remark : Remark)
    → string_bytes remark.place ≡ place_text d at slip.steps.items → remark.sentence ≡ slip.sentence → remark.hint ≡ slip.hint
    → TellsFault text d e at (said slip) → IsRemarkIn text d e at remark
slip_told text d e at slip remark place sentence hint told = record {
  steps = slip.steps.items;
  place = place;
  told = subst (λ s. TellsFault text d e at s) (sym (said_by slip remark sentence hint)) told;
}
