-- What is printed of a design that stands and is brought again, or that is made anew in its place.
use Rattle.std.specs.Prelude.{◌≡◌, ℕ, Bool, true, false, List, Some, None, Ok, codes}
use Rattle.clr_rows.specs.Contents.{Content}
use Rattle.clr_workspaces.specs.Marks.{Name}
use Rattle.clr_steps.specs.declared.commands.Command.{Command}
use Rattle.clr_steps.specs.declared.commands.Command.TheVariants.{Remove, RollAll}
use Rattle.clr_steps.specs.declared.commands.Reply.{Reply}
use Rattle.clr_steps.specs.Effects.{effect}
use Rattle.clr_steps.specs.Offices.{Office, content_of, set_content}
use Rattle.clr_steps.specs.Readings.{parent_in}
use Rattle.clr_steps.specs.Refusals.{refusal}
use Rattle.clr_scripts.specs.Scripts.{script_in_text}
use Rattle.clr_layer_changes.specs.Changes.{edits_between}
use Rattle.clr_layer_changes.specs.Wanted.{united}
use Rattle.clr_layer_changes.specs.declared.options.GivenLayer.{GivenLayer}
use Rattle.clr_layer_changes.specs.declared.options.LayerOptions.{LayerOptions}
use Rattle.clr_designs.specs.Again.{content_refusal, is_elsewhere}
use Rattle.clr_designs.specs.Scripts.{again_script, again_steps}
use Rattle.clr_office_texts.specs.Drafts.{draft_in}
use Rattle.clr_desk_errors.specs.Accepting.{IsPrintoutOfDraft}
use Rattle.clr_desk_layers.specs.Counted.{IsCounted}
use Rattle.clr_desk_layers.specs.Designs.{IsOfficeText, IsPrintOfLayersOver, refusal_print, text_print}
use Rattle.clr_desk_layers.specs.Layers.{unfit_print}
use Rattle.clr_desk_layers.specs.Since.{IsSincePrint}
use Rattle.clr_desk_prints.specs.Printing.{PrintoutOrFault}

abbrev pub elsewhere_word : List ℕ
elsewhere_word = codes "12 NotUnderLive"

-- what is to be printed of the office that a command on the workspace of a name leaves; or why the command is refused, or that the workspace stands under
-- another than LIVE
pub data IsPrintBehind (command : Command) (name : Name) (IsPrint : Office → PrintoutOrFault → Type 0) (o : Office) (print : PrintoutOrFault) : Type 0 where
  of_next : is_elsewhere (parent_in o name) ≡ false → refusal o command ≡ None → IsPrint (effect o command) print → IsPrintBehind command name IsPrint o print
  of_refused : (reply : Reply) → is_elsewhere (parent_in o name) ≡ false → refusal o command ≡ Some reply → print ≡ refusal_print o.schema reply
      → IsPrintBehind command name IsPrint o print
  of_elsewhere : is_elsewhere (parent_in o name) ≡ true → print ≡ unfit_print elsewhere_word name → IsPrintBehind command name IsPrint o print

-- the text of the office in which a workspace has a content; or why it can't have it
pub data IsPrintOfContent (name : Name) (o : Office) (content : Content) (print : PrintoutOrFault) : Type 0 where
  of_set : (text : List ℕ) → content_refusal o name content ≡ None → IsOfficeText (set_content o name content) text → print ≡ text_print text
      → IsPrintOfContent name o content print
  of_unset : (reply : Reply) → content_refusal o name content ≡ Some reply → print ≡ refusal_print o.schema reply → IsPrintOfContent name o content print

-- the script that brings a design again whose workspace sees its base: it is read as two steps, the second of which leads from there to a content
pub record IsAgainScript (name : Name) (o : Office) (content : Content) (text : List ℕ) : Type 0 where
  pub bytes : text ≡ again_script o.schema name (edits_between (content_of o name) content)
  pub steps : script_in_text o.schema text ≡ Ok (again_steps name (edits_between (content_of o name) content))

-- that script; or why the workspace can't have the content
pub data IsPrintOfScript (name : Name) (o : Office) (content : Content) (print : PrintoutOrFault) : Type 0 where
  of_script : (text : List ℕ) → content_refusal o name content ≡ None → IsAgainScript name o content text → print ≡ text_print text
      → IsPrintOfScript name o content print
  of_unset_script : (reply : Reply) → content_refusal o name content ≡ Some reply → print ≡ refusal_print o.schema reply
      → IsPrintOfScript name o content print

-- one of the two
abbrev pub IsPrintOfChange : (is_script : Bool) → Name → Office → Content → PrintoutOrFault → Type 0
IsPrintOfChange true name o content print = IsPrintOfScript name o content print
IsPrintOfChange false name o content print = IsPrintOfContent name o content print

-- what is to be printed of an office in which the workspace of a design sees its base, and of layers that were copied from this base: the office in which
-- the workspace has their rows, or the script that makes it, and how much of the base it changes. Rows without keys get none that LIVE or the base has
abbrev pub IsPrintOverBase : (is_script : Bool) → Name → LayerOptions → Bool → List GivenLayer → Office → PrintoutOrFault → Type 0
IsPrintOverBase is_script name options may_remove layers o =
    IsPrintOfLayersOver (content_of o name) (united o.live (content_of o name)) options layers
    (IsCounted may_remove (content_of o name) (IsPrintOfChange is_script name)) o

-- what is to be printed of a design that is brought again: its workspace is rolled back to its base, and then has the rows of the layers
abbrev pub IsAgainPrint : (is_script : Bool) → Name → LayerOptions → Bool → List GivenLayer → Office → PrintoutOrFault → Type 0
IsAgainPrint is_script name options may_remove layers = IsPrintBehind (RollAll name) name (IsPrintOverBase is_script name options may_remove layers)

-- what is to be printed of a design that is made anew in place of one that stands, of layers that were copied from another office: its workspace is taken
-- away, and then the design is made as if there had been none
abbrev pub IsAnewPrint : Name → LayerOptions → Bool → List GivenLayer → Office → Office → PrintoutOrFault → Type 0
IsAnewPrint name options may_remove layers o copied =
    IsPrintBehind (Remove name) name (λ next. IsSincePrint name options may_remove layers next copied) o

-- the same of the text of the office that was copied, in which rules may be broken; or that this is none
abbrev pub IsDesignAnewPrint : List ℕ → Name → LayerOptions → Bool → List GivenLayer → Office → PrintoutOrFault → Type 0
IsDesignAnewPrint copied name options may_remove layers o = IsPrintoutOfDraft (IsAnewPrint name options may_remove layers o) (draft_in copied)
