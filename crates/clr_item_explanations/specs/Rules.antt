-- What is wrong with a rule that can't be read.
use Rattle.std.specs.Prelude.{ℕ, List, [], ◌∷◌, codes, Option, if◌then◌else◌}
use Rattle.std.specs.Option.{option_or}
use Rattle.std.specs.Str.{bytes_eq}
use Rattle.serde_json.specs.Data.{Data}
use Rattle.clr_text_positions.specs.declared.paths.Key.{Key}
use Rattle.clr_text_positions.specs.declared.paths.Key.TheVariants as key
use Rattle.clr_text_positions.specs.declared.paths.PathStep.TheVariants as step
use Rattle.clr_item_explanations.specs.declared.fields.Wanted.TheVariants as wanted
use Rattle.clr_item_explanations.specs.declared.rules.RuleField.{RuleField}
use Rattle.clr_item_explanations.specs.declared.rules.RuleField.TheVariants as field
use Rattle.clr_rule_text.specs.declared.formats.Format.{Format}
use Rattle.clr_item_explanations.specs.Fields.{missing, wrong_as_pair, wrong_at, wrong_field, wrong_fields, wrong_value, wrong_word_at}
use Rattle.clr_item_explanations.specs.KnownNeeds.{wrong_known}
use Rattle.clr_item_explanations.specs.Tellings.{Wrong, below, first_wrong, wrong_in_list}
use Rattle.clr_item_explanations.specs.Values.{text_at}

-- a column and a value
abbrev pub wrong_literal_pair : Data → Data → Option Wrong
wrong_literal_pair name value = option_or (below (step.At 0 ∷ []) (wrong_value wanted.Text name)) (below (step.At 1 ∷ []) (wrong_value wanted.Value value))

unfoldable pub wrong_literal : Data → Option Wrong
wrong_literal d = wrong_as_pair (codes "a column and a value") wrong_literal_pair d

-- a table, and literals where there are any
unfoldable pub wrong_side : Data → Option Wrong
wrong_side d =
    option_or (wrong_fields ((key.Table, wanted.Text) ∷ (key.Where, wanted.OptionalList) ∷ []) d)
    (wrong_in_list key.Where (λ at literal. wrong_literal literal) d)

unfoldable pub wrong_side_at : Key → Data → Option Wrong
wrong_side_at k d = wrong_at k wrong_side (missing k wanted.Object) d

-- a list of texts
unfoldable pub wrong_names_at : Key → Data → Option Wrong
wrong_names_at k d = option_or (wrong_field k wanted.List d) (wrong_in_list k (λ at name. wrong_value wanted.Text name) d)

abbrev pub wrong_rule_field : RuleField → Data → Option Wrong
wrong_rule_field (field.Side k) d = wrong_side_at k d
wrong_rule_field (field.Columns k) d = wrong_names_at k d
wrong_rule_field field.Tip d = wrong_word_at key.Tip (codes "FIRST" ∷ codes "SECOND" ∷ []) d
wrong_rule_field field.Distance d = wrong_field key.D wanted.WholeNumber d

-- the fields of a rule of a kind, in the order in which they are read
abbrev pub rule_fields : List ℕ → List RuleField
rule_fields kind =
    if bytes_eq kind (codes "UNIQUE") then field.Side key.Subject ∷ field.Columns key.Columns ∷ []
    else (if bytes_eq kind (codes "PARTNER") then
    field.Side key.Subject ∷ field.Columns key.Columns ∷ field.Side key.Server ∷ field.Columns key.ServerColumns ∷ []
    else (if bytes_eq kind (codes "ENDNODE") then field.Side key.Subject ∷ field.Tip ∷ field.Side key.Server ∷ []
    else (if bytes_eq kind (codes "CROSSING") then field.Side key.A ∷ field.Side key.B ∷ field.Side key.Server ∷ []
    else (if bytes_eq kind (codes "NEAR") then field.Side key.A ∷ field.Side key.B ∷ field.Distance ∷ []
    else []))))

-- the fields of a kind, and then the known needs
abbrev pub wrong_rule_fields : Format → List ℕ → Data → Option Wrong
wrong_rule_fields format kind d = option_or (first_wrong (λ one. wrong_rule_field one d) (rule_fields kind)) (wrong_known format kind d)

-- the kind, and then the fields of that kind
unfoldable pub wrong_rule : Format → Data → Option Wrong
wrong_rule format d =
    option_or (wrong_word_at key.Kind (codes "UNIQUE" ∷ codes "PARTNER" ∷ codes "ENDNODE" ∷ codes "CROSSING" ∷ codes "NEAR" ∷ []) d)
    (wrong_rule_fields format (text_at key.Kind d) d)
