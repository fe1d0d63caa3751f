-- What is printed of layers that were copied from another office, from which LIVE has moved on since.
use Rattle.std.specs.Prelude.{◌≡◌, ◌≢◌, ℕ, Bool, List, [], codes, Option, Some, None, Ok, slice_get, take}
use Rattle.clr_rows.specs.declared.tables.TableDef.{TableDef}
use Rattle.clr_rows.specs.Contents.{Content}
use Rattle.clr_rows.specs.Schemas.{FitsSchema}
use Rattle.clr_workspaces.specs.Marks.{Name}
use Rattle.clr_steps.specs.Offices.{Office}
use Rattle.clr_engine.specs.Fitting.{IsFitting}
use Rattle.clr_layer_changes.specs.Wanted.{united}
use Rattle.clr_layer_changes.specs.declared.options.GivenLayer.{GivenLayer}
use Rattle.clr_layer_changes.specs.declared.options.LayerOptions.{LayerOptions}
use Rattle.clr_office_texts.specs.Drafts.{draft_in}
use Rattle.clr_desk_errors.specs.Accepting.{IsPrintoutOfDraft}
use Rattle.clr_desk_prints.specs.Printing.{PrintoutOrFault}
use Rattle.clr_desk_layers.specs.Designs.{IsDesignPrintOver}
use Rattle.clr_desk_layers.specs.Layers.{unfit_print}

-- a text is read as an office that fits its schema, as two contents do
abbrev pub IsDraftFitting : List ℕ → Content → Content → Type 0
IsDraftFitting text copied content = (o : Office) × (draft_in text ≡ Ok o) × IsFitting o × FitsSchema o.schema copied × FitsSchema o.schema content

-- the name of one of two tables that aren't the same, the first if it is there
abbrev pub name_of_other : Option TableDef → Option TableDef → Name
name_of_other (Some table) other = table.name
name_of_other None (Some table) = table.name
name_of_other None None = []

-- two schemas have the same tables up to one, and this is its name
pub record IsFirstOther (tables others : List TableDef) (name : Name) : Type 0 where
  pub at : ℕ
  pub before : take at tables ≡ take at others
  pub other : slice_get tables at ≢ slice_get others at
  pub named : name ≡ name_of_other (slice_get tables at) (slice_get others at)

abbrev pub other_schema_word : List ℕ
other_schema_word = codes "10 OtherSchema"

-- what is to be printed of an office and layers that were copied from another of the same schema: the office with the design that has their rows, as if
-- it had been made there and LIVE had moved on since. Rows without keys get none that LIVE has now or had then. Or the first table that isn't the same
pub data IsSincePrint (name : Name) (options : LayerOptions) (may_remove : Bool) (layers : List GivenLayer) (o copied : Office) (print : PrintoutOrFault)
    : Type 0 where
  of_same : copied.schema ≡ o.schema → IsDesignPrintOver copied.live (united o.live copied.live) name options may_remove layers o print
      → IsSincePrint name options may_remove layers o copied print
  of_other : (table : Name) → IsFirstOther o.schema copied.schema table → print ≡ unfit_print other_schema_word table
      → IsSincePrint name options may_remove layers o copied print

-- the same of the text of the office that was copied, in which rules may be broken; or that this is none
abbrev pub IsDesignSincePrint : List ℕ → Name → LayerOptions → Bool → List GivenLayer → Office → PrintoutOrFault → Type 0
IsDesignSincePrint copied name options may_remove layers o =
    IsPrintoutOfDraft (IsSincePrint name options may_remove layers o) (draft_in copied)
