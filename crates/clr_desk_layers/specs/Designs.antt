-- What is printed of layers: the office that has their rows, the office with a design that has them, or the script that makes this design.
use Rattle.std.specs.Prelude.{◌≡◌, ℕ, Bool, true, false, List, [], Some, None, Ok, Err}
use Rattle.clr_rows.specs.Contents.{Content}
use Rattle.clr_rows.specs.Names.{live_name}
use Rattle.clr_rows.specs.declared.tables.TableDef.{TableDef}
use Rattle.clr_rules.specs.declared.needs.Broken.{Broken}
use Rattle.clr_workspaces.specs.Marks.{Name}
use Rattle.clr_steps.specs.declared.commands.Reply.{Reply}
use Rattle.clr_steps.specs.declared.commands.Reply.TheVariants.{RuleBroken}
use Rattle.clr_steps.specs.Offices.{Office}
use Rattle.clr_steps.specs.Refusals.{first_newly_broken}
use Rattle.clr_lines.specs.Replies.{reply_text}
use Rattle.clr_scripts.specs.Scripts.{script_in_text}
use Rattle.clr_layer_changes.specs.Changes.{edits_between}
use Rattle.clr_layer_changes.specs.Wanted.{wanted_over}
use Rattle.clr_layer_changes.specs.declared.faults.FaultyLayer.{FaultyLayer}
use Rattle.clr_layer_changes.specs.declared.options.GivenLayer.{GivenLayer}
use Rattle.clr_layer_changes.specs.declared.options.LayerOptions.{LayerOptions}
use Rattle.clr_designs.specs.Scripts.{design_script, design_steps}
use Rattle.clr_designs.specs.Designs.{AreDone, design_refusal, with_design, with_design_over, with_live}
use Rattle.clr_designs.specs.Since.{IsMadeSince}
use Rattle.clr_office_texts.specs.Drafts.{draft_in, opened_in}
use Rattle.clr_office_reports.specs.Outcomes.{dump_text}
use Rattle.clr_desk_prints.specs.Printing.{PrintoutOrFault, printout_of}
use Rattle.clr_desk_errors.specs.Accepting.{IsAcceptedPrint}
use Rattle.clr_desk_layers.specs.Counted.{IsCounted}
use Rattle.clr_desk_layers.specs.FaultyLayers.{fault_line}

-- the text of an office, ended by `\n`, which is read as the same office, and in which each broken need is known
pub record IsOfficeText (o : Office) (text : List ℕ) : Type 0 where
  pub bytes : text ≡ dump_text o
  pub again : draft_in text ≡ Ok o
  pub admitted : opened_in text ≡ Ok (o, None)

-- a text alone, with status 0
abbrev pub text_print : List ℕ → PrintoutOrFault
text_print text = printout_of text [] false false

-- no text, and the line of a refusal as the only note, with status 1
abbrev pub refusal_print : List TableDef → Reply → PrintoutOrFault
refusal_print tables reply = printout_of [] (reply_text tables reply) true false

-- no text, and the line of the first layer with a fault as the only note, with status 2
abbrev pub faulty_layer_printout : List GivenLayer → FaultyLayer → PrintoutOrFault
faulty_layer_printout layers faulty = Ok (record { text = []; notes = fault_line layers faulty; status = 2 })

-- what is to be printed of a base content with the rows of layers in place of those of their tables, none of which gets a key that is taken; or the first
-- layer with a fault
pub data IsPrintOfLayersOver (base taken : Content) (options : LayerOptions) (layers : List GivenLayer) (IsPrint : Office → Content → PrintoutOrFault → Type 0)
    (o : Office) (print : PrintoutOrFault) : Type 0 where
  of_content : (content : Content) → wanted_over o.schema base taken options layers ≡ Ok content → IsPrint o content print
      → IsPrintOfLayersOver base taken options layers IsPrint o print
  of_fault : (faulty : FaultyLayer) → wanted_over o.schema base taken options layers ≡ Err faulty → print ≡ faulty_layer_printout layers faulty
      → IsPrintOfLayersOver base taken options layers IsPrint o print

-- what is to be printed of LIVE's content with the rows of layers in place of those of their tables; or the first layer with a fault
abbrev pub IsPrintOfLayers : LayerOptions → List GivenLayer → (Office → Content → PrintoutOrFault → Type 0) → Office → PrintoutOrFault → Type 0
IsPrintOfLayers options layers IsPrint o = IsPrintOfLayersOver o.live o.live options layers IsPrint o

-- the text of the office with a design that has a content: as if it had been made where LIVE had the copied content, and LIVE had moved on since; or why
-- its workspace can't be created
pub data IsPrintOfDesign (name : Name) (copied : Content) (o : Office) (content : Content) (print : PrintoutOrFault) : Type 0 where
  of_design : (text : List ℕ) → design_refusal o name ≡ None → IsMadeSince o name copied content (with_design_over o name copied content)
      → IsOfficeText (with_design_over o name copied content) text → print ≡ text_print text
      → IsPrintOfDesign name copied o content print
  of_refusal : (reply : Reply) → design_refusal o name ≡ Some reply → print ≡ refusal_print o.schema reply → IsPrintOfDesign name copied o content print

-- the script that makes a design: it is read as two steps, both of which are done, and which leave the office with the design
pub record IsDesignScript (name : Name) (o : Office) (content : Content) (text : List ℕ) : Type 0 where
  pub bytes : text ≡ design_script o.schema name live_name (edits_between o.live content)
  pub steps : script_in_text o.schema text ≡ Ok (design_steps name live_name (edits_between o.live content))
  pub done : AreDone o name content (with_design o name content)

-- what is printed is a script that makes the design, or why its workspace can't be created
pub data IsPrintOfScript (name : Name) (o : Office) (content : Content) (print : PrintoutOrFault) : Type 0 where
  of_script : (text : List ℕ) → design_refusal o name ≡ None → IsDesignScript name o content text → print ≡ text_print text
      → IsPrintOfScript name o content print
  of_refused_script : (reply : Reply) → design_refusal o name ≡ Some reply → print ≡ refusal_print o.schema reply
      → IsPrintOfScript name o content print

-- the text of the office in which LIVE has a content; or the least need that this content breaks, and LIVE doesn't break now
pub data IsPrintOfLive (o : Office) (content : Content) (print : PrintoutOrFault) : Type 0 where
  of_live : (text : List ℕ) → first_newly_broken o.book o.live content ≡ None → IsOfficeText (with_live o content) text → print ≡ text_print text
      → IsPrintOfLive o content print
  of_broken : (need : Broken) → first_newly_broken o.book o.live content ≡ Some need → print ≡ refusal_print o.schema (RuleBroken need)
      → IsPrintOfLive o content print

-- what is to be printed of an office and layers that were copied from a content: the office with the design that has their rows, and how much of that
-- content it changes
abbrev pub IsDesignPrintOver : Content → Content → Name → LayerOptions → Bool → List GivenLayer → Office → PrintoutOrFault → Type 0
IsDesignPrintOver copied taken name options may_remove layers =
    IsPrintOfLayersOver copied taken options layers (IsCounted may_remove copied (IsPrintOfDesign name copied))

-- the same of layers that were copied from LIVE as it is
abbrev pub IsDesignPrint : Name → LayerOptions → Bool → List GivenLayer → Office → PrintoutOrFault → Type 0
IsDesignPrint name options may_remove layers o = IsDesignPrintOver o.live o.live name options may_remove layers o

-- the script that makes this design
abbrev pub IsDesignScriptPrint : Name → LayerOptions → Bool → List GivenLayer → Office → PrintoutOrFault → Type 0
IsDesignScriptPrint name options may_remove layers o = IsPrintOfLayers options layers (IsCounted may_remove o.live (IsPrintOfScript name)) o

-- the office whose LIVE has their rows
abbrev pub IsOfficePrint : LayerOptions → List GivenLayer → Office → PrintoutOrFault → Type 0
IsOfficePrint options layers = IsPrintOfLayers options layers IsPrintOfLive

-- what is to be printed of LIVE's content, whatever it breaks: the text of the office with its errors accepted, and how many they are
abbrev pub IsPrintOfAccepted : Office → Content → PrintoutOrFault → Type 0
IsPrintOfAccepted o content = IsAcceptedPrint (with_live o content)

-- the same office with its errors accepted
abbrev pub IsAcceptedOfficePrint : LayerOptions → List GivenLayer → Office → PrintoutOrFault → Type 0
IsAcceptedOfficePrint options layers = IsPrintOfLayers options layers IsPrintOfAccepted
