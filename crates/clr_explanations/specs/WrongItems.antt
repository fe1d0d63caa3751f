-- What is wrong with the fields of the item at which a fault stands.
use Rattle.std.specs.Prelude.{[], ◌∷◌, codes, Option, Some, None, Result, Ok, Err}
use Rattle.std.specs.Option.{option_or}
use Rattle.serde_json.specs.Data.{Data}
use Rattle.clr_office_reading.specs.Offices.{format_of}
use Rattle.clr_rule_text.specs.declared.formats.Format.{Format}
use Rattle.clr_rule_text.specs.declared.faults.TextFault.{TextFault}
use Rattle.clr_faults.specs.declared.spots.FaultyItem.{FaultyItem}
use Rattle.clr_faults.specs.declared.spots.FaultyItem.TheVariants.{Whole, Table, Rule, Live, Workspace, Base, Row, Mark, Saved}
use Rattle.clr_text_positions.specs.declared.paths.Key.TheVariants as key
use Rattle.clr_item_explanations.specs.Fields.{wrong_fields}
use Rattle.clr_item_explanations.specs.Rows.{wrong_row}
use Rattle.clr_item_explanations.specs.Rules.{wrong_rule}
use Rattle.clr_item_explanations.specs.Tables.{wrong_table}
use Rattle.clr_item_explanations.specs.Tellings.{Plain, Wrong, at_key, itself}
use Rattle.clr_item_explanations.specs.Workspaces.{wrong_mark, wrong_workspace}
use Rattle.clr_item_explanations.specs.declared.fields.Wanted.TheVariants as wanted
use Rattle.clr_item_explanations.specs.declared.rows.Within.{Within}
use Rattle.clr_item_explanations.specs.declared.rows.Within.TheVariants as within
use Rattle.clr_explanations.specs.Items.{item_at_spot}
use Rattle.clr_explanations.specs.Readings.{tables_in}

-- what is wrong where something can be read, and nothing where it can't
abbrev pub wrong_if_read : {A : Type 0} → (A → Option Wrong) → Result A TextFault → Option Wrong
wrong_if_read f (Ok x) = f x
wrong_if_read f (Err e) = None

-- where no format is read, the number is none of those that are known
abbrev pub wrong_format : Result Format TextFault → Option Wrong
wrong_format (Ok format) = None
wrong_format (Err e) = Some (at_key key.Format (Plain (codes "the format is 1, 2, 3 or 4")))

-- the format of a text, and then its lists
unfoldable pub wrong_text : Data → Option Wrong
wrong_text d =
    option_or (wrong_fields ((key.Format, wanted.WholeNumber) ∷ []) d)
    (option_or (wrong_format (format_of d))
    (wrong_fields ((key.Tables, wanted.List) ∷ (key.Rules, wanted.OptionalList) ∷ (key.Live, wanted.List) ∷ (key.Workspaces, wanted.OptionalList) ∷ []) d))

unfoldable pub wrong_table_in : Data → Data → Option Wrong
wrong_table_in d item = wrong_if_read (λ format. wrong_table format item) (format_of d)

unfoldable pub wrong_rule_in : Data → Data → Option Wrong
wrong_rule_in d item = wrong_if_read (λ format. wrong_rule format item) (format_of d)

unfoldable pub wrong_row_in : Within → Data → Data → Option Wrong
wrong_row_in place d item = wrong_if_read (λ tables. wrong_row tables place item) (tables_in d)

abbrev pub wrong_in_item : FaultyItem → Data → Data → Option Wrong
wrong_in_item Whole d item = wrong_text d
wrong_in_item (Table at) d item = wrong_table_in d item
wrong_in_item (Rule at) d item = wrong_rule_in d item
wrong_in_item (Live at) d item = wrong_row_in within.Live d item
wrong_in_item (Workspace at) d item = wrong_workspace at d
wrong_in_item (Base at cell) d item = wrong_row_in within.Workspace d item
wrong_in_item (Row at cell) d item = wrong_row_in within.Workspace d item
wrong_in_item (Mark at mark) d item = wrong_mark item
wrong_in_item (Saved at mark cell) d item = wrong_row_in within.Workspace d item

unfoldable pub wrong_at_spot : FaultyItem → Data → Option Wrong
wrong_at_spot spot d = wrong_if_read (wrong_in_item spot d) (item_at_spot spot d)

-- what is wrong with a workspace behind those before it
abbrev pub wrong_part_at : FaultyItem → Data → Option Wrong
wrong_part_at (Workspace at) d = wrong_workspace at d
wrong_part_at _ d = None

-- nothing that is known is wrong
abbrev pub unknown : Wrong
unknown = itself (Plain (codes "this can't be read as it stands"))
