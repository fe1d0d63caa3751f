-- What is printed of an office text into which the rows of layers are put: the text of a cut.
use Rattle.std.specs.Prelude.{◌≡◌, ℕ, Bool, List, [], ◌++◌, codes, Ok, Err, false}
use Rattle.clr_rows.specs.Contents.{Content}
use Rattle.clr_steps.specs.Offices.{Office}
use Rattle.clr_layer_changes.specs.declared.faults.FaultyLayer.{FaultyLayer}
use Rattle.clr_layer_changes.specs.declared.options.GivenLayer.{GivenLayer}
use Rattle.clr_office_reading.specs.Offices.{OfficeText, office_in}
use Rattle.clr_office_texts.specs.Drafts.{draft_in}
use Rattle.clr_cut_texts.specs.CutTexts.{cut_text}
use Rattle.clr_cut_texts.specs.Rows.{rows_of_layers, with_rows_put}
use Rattle.clr_desk_errors.specs.Accepting.{IsPrintoutOfDraft}
use Rattle.clr_desk_layers.specs.Designs.{faulty_layer_printout}
use Rattle.clr_desk_prints.specs.Printing.{PrintoutOrFault, printout_of}

-- the text with these rows in LIVE, marked as a cut, on a line; nothing is asked of its rules. Or the first layer with a fault
pub data IsCutPrint (text : List ℕ) (rounded : Bool) (layers : List GivenLayer) (o : Office) (print : PrintoutOrFault) : Type 0 where
  of_rows : (office : OfficeText) (rows : Content) → office_in text ≡ Ok office → rows_of_layers office.schema rounded layers ≡ Ok rows
      → print ≡ printout_of (cut_text (with_rows_put office rows) ++ codes "\n") [] false false
      → IsCutPrint text rounded layers o print
  of_faulty : (office : OfficeText) (faulty : FaultyLayer) → office_in text ≡ Ok office → rows_of_layers office.schema rounded layers ≡ Err faulty
      → print ≡ faulty_layer_printout layers faulty
      → IsCutPrint text rounded layers o print

-- what is printed of an office text, whatever is broken in it; or that it is none
abbrev pub IsCutAnswer : Bool → List GivenLayer → (office : List ℕ) → PrintoutOrFault → Type 0
IsCutAnswer rounded layers office = IsPrintoutOfDraft (IsCutPrint office rounded layers) (draft_in office)
