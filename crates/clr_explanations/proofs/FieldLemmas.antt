-- What is told of the fields of an item.
use Rattle.std.proofs.Common.{◌≡◌, ℕ, List, [], ◌∷◌, codes, string_bytes, Option, Some, None, Result, Ok, Err, refl}
use Rattle.std.specs.Prelude.{IsErr, unwrap_or}
use Rattle.serde_json.specs.Data.{Data}
use Rattle.clr_rows.specs.declared.tables.TableDef.{TableDef}
use Rattle.clr_rule_text.specs.declared.faults.TextFault.{TextFault}
use Rattle.clr_rule_text.specs.declared.formats.Format.{Format}
use Rattle.clr_office_reading.specs.Offices.{format_of}
use Rattle.clr_faults.specs.declared.spots.FaultyItem.{FaultyItem}
use Rattle.clr_text_positions.specs.declared.paths.Key.TheVariants as key
use Rattle.clr_text_positions.specs.declared.paths.PathStep.TheVariants as step
use Rattle.clr_item_explanations.specs.declared.rows.Within.{Within}
use Rattle.clr_item_explanations.specs.declared.slips.Slip.{Slip}
use Rattle.clr_item_explanations.specs.Rows.{wrong_row}
use Rattle.clr_item_explanations.specs.Rules.{wrong_rule}
use Rattle.clr_item_explanations.specs.Slips.{said}
use Rattle.clr_item_explanations.specs.Tables.{wrong_table}
use Rattle.clr_item_explanations.specs.Tellings.{Plain, Tells, TellsIfAny, Wrong, at_key}
use Rattle.clr_item_explanations.proofs.TellingLemmas.{nothing, plain_told, something}
use Rattle.clr_explanations.specs.Items.{item_at_spot}
use Rattle.clr_explanations.specs.Readings.{tables_in}
use Rattle.clr_explanations.specs.WrongItems.{wrong_at_spot, wrong_format, wrong_if_read, wrong_in_item, wrong_row_in, wrong_rule_in, wrong_table_in}

read_told : {A : Type 0} (f : A → Option Wrong) (r : Result A TextFault) (x : A) (slip : Option Slip) → r ≡ Ok x → TellsIfAny (f x) slip
    → TellsIfAny (wrong_if_read f r) slip
read_told f r x slip is told = rw is told

unread_told : {A : Type 0} (f : A → Option Wrong) (r : Result A TextFault) → IsErr r → TellsIfAny (wrong_if_read f r) None
unread_told f (Ok x) failed = absurd cc
unread_told f (Err e) failed = nothing None refl

pub known_format : (r : Result Format TextFault) (found : Format) → r ≡ Ok found → TellsIfAny (wrong_format r) None
known_format r found is = rw is (nothing None refl)

told_of_format : (r : Result Format TextFault) (slip : Slip) → IsErr r → Tells (at_key key.Format (Plain (codes "the format is 1, 2, 3 or 4"))) (said slip)
    → TellsIfAny (wrong_format r) (Some slip)
told_of_format (Ok x) slip failed told = absurd cc
told_of_format (Err e) slip failed told = something _ (at_key key.Format (Plain (codes "the format is 1, 2, 3 or 4"))) slip refl told

pub unknown_format : (r : Result Format TextFault) (slip : Slip) → IsErr r → slip.steps.items ≡ step.Key key.Format ∷ []
    → string_bytes slip.sentence ≡ codes "the format is 1, 2, 3 or 4" → slip.hint ≡ None → TellsIfAny (wrong_format r) (Some slip)
unknown_format r slip failed at told none = told_of_format r slip failed (plain_told (step.Key key.Format ∷ []) _ slip at told none)

pub table_read : (d item : Data) (format : Format) (slip : Option Slip) → format_of d ≡ Ok format → TellsIfAny (wrong_table format item) slip
    → TellsIfAny (wrong_table_in d item) slip
unfolding wrong_table_in
table_read d item format slip is told = read_told (λ f. wrong_table f item) (format_of d) format slip is told

pub no_format : (d item : Data) → IsErr (format_of d) → TellsIfAny (wrong_table_in d item) None
unfolding wrong_table_in
no_format d item failed = unread_told (λ f. wrong_table f item) (format_of d) failed

pub rule_read : (d item : Data) (format : Format) (slip : Option Slip) → format_of d ≡ Ok format → TellsIfAny (wrong_rule format item) slip
    → TellsIfAny (wrong_rule_in d item) slip
unfolding wrong_rule_in
rule_read d item format slip is told = read_told (λ f. wrong_rule f item) (format_of d) format slip is told

pub no_format_of_rule : (d item : Data) → IsErr (format_of d) → TellsIfAny (wrong_rule_in d item) None
unfolding wrong_rule_in
no_format_of_rule d item failed = unread_told (λ f. wrong_rule f item) (format_of d) failed

pub row_read : (place : Within) (d item : Data) (tables : List TableDef) (slip : Option Slip) → tables_in d ≡ Ok tables
    → TellsIfAny (wrong_row tables place item) slip → TellsIfAny (wrong_row_in place d item) slip
unfolding wrong_row_in
row_read place d item tables slip is told = read_told (λ t. wrong_row t place item) (tables_in d) tables slip is told

pub no_tables : (place : Within) (d item : Data) → IsErr (tables_in d) → TellsIfAny (wrong_row_in place d item) None
unfolding wrong_row_in
no_tables place d item failed = unread_told (λ t. wrong_row t place item) (tables_in d) failed

pub item_read : (spot : FaultyItem) (d item : Data) (slip : Option Slip) → item_at_spot spot d ≡ Ok item → TellsIfAny (wrong_in_item spot d item) slip
    → TellsIfAny (wrong_at_spot spot d) slip
unfolding wrong_at_spot
item_read spot d item slip is told = read_told (wrong_in_item spot d) (item_at_spot spot d) item slip is told

pub no_item_read : (spot : FaultyItem) (d : Data) → IsErr (item_at_spot spot d) → TellsIfAny (wrong_at_spot spot d) None
unfolding wrong_at_spot
no_item_read spot d failed = unread_told (wrong_in_item spot d) (item_at_spot spot d) failed

-- what is found, or that nothing is ---------------------------------------------------------------

pub unknown_told : (wrong : Option Wrong) (slip : Slip) (words : List ℕ) → slip.steps.items ≡ [] → string_bytes slip.sentence ≡ words → slip.hint ≡ None
    → TellsIfAny wrong None → Tells (unwrap_or wrong (record { steps = []; telling = Plain words })) (said slip)
unknown_told wrong slip words at told none t = let is : wrong ≡ None = t.told in rw is (plain_told [] words slip at told none)
