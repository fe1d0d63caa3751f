-- What is wrong with a table that can't be read.
use Rattle.std.specs.Prelude.{[], ◌∷◌, codes, Option, Some, None}
use Rattle.std.specs.Option.{option_or}
use Rattle.serde_json.specs.Data.{Data}
use Rattle.clr_rule_text.specs.declared.formats.Format.{Format}
use Rattle.clr_rule_text.specs.declared.formats.Format.TheVariants.{First, Second, Third, Fourth}
use Rattle.clr_text_positions.specs.declared.paths.Key.TheVariants as key
use Rattle.clr_text_positions.specs.declared.paths.PathStep.TheVariants as step
use Rattle.clr_item_explanations.specs.declared.fields.Wanted.TheVariants as wanted
use Rattle.clr_item_explanations.specs.Fields.{wrong_as_pair, wrong_fields, wrong_value, wrong_word, wrong_word_at}
use Rattle.clr_item_explanations.specs.Tellings.{Plain, Wrong, at_key, below, wrong_in_list}

-- a name and a kind, of which the kind is read first
abbrev pub wrong_column_pair : Data → Data → Option Wrong
wrong_column_pair name kind =
    option_or (below (step.At 1 ∷ []) (wrong_word (codes "INT" ∷ codes "TEXT" ∷ []) kind)) (below (step.At 0 ∷ []) (wrong_value wanted.Text name))

unfoldable pub wrong_column : Data → Option Wrong
wrong_column d = wrong_as_pair (codes "a name and a kind") wrong_column_pair d

-- format 1 has no paths: they are all that is wrong with a table whose fields stand
abbrev pub wrong_paths : Format → Option Wrong
wrong_paths First = Some (at_key key.Shape (Plain (codes "PATH is known from format 2 on")))
wrong_paths Second = None
wrong_paths Third = None
wrong_paths Fourth = None

unfoldable pub wrong_table : Format → Data → Option Wrong
wrong_table format d =
    option_or (wrong_fields ((key.Name, wanted.Text) ∷ (key.Columns, wanted.List) ∷ []) d)
    (option_or (wrong_in_list key.Columns (λ at column. wrong_column column) d)
    (option_or (wrong_word_at key.Shape (codes "NONE" ∷ codes "POINT" ∷ codes "SEGMENT" ∷ codes "PATH" ∷ []) d)
    (wrong_paths format)))
