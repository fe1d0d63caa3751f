-- An office's text in lines.
use Rattle.std.specs.Prelude.{◌≡◌, ℕ, false, List, [], ◌++◌, codes, None, Ok}
use Rattle.clr_steps.specs.Offices.{Office}
use Rattle.clr_office_texts.specs.Drafts.{opened_in}
use Rattle.clr_office_texts.specs.Writing.{bytes_of, text_of}
use Rattle.clr_office_writing.specs.OfficeData.{office_data}
use Rattle.clr_desk_prints.specs.Printing.{PrintoutOrFault, printout_of}
use Rattle.clr_desk_formats.specs.LinedTexts.{lined_text}

-- the text of an office in lines, the last of which is ended too
abbrev pub lines_of : Office → List ℕ
lines_of o = lined_text (office_data (text_of o)) ++ codes "\n"

-- the text of an office in lines; or in one line where its lines aren't read as this office. What is printed is read as the same
-- office, whose broken needs it names as known
pub data IsInLines (o : Office) (text : List ℕ) : Type 0 where
  in_lines : text ≡ lines_of o → opened_in text ≡ Ok (o, None) → IsInLines o text
  in_one_line : ¬ (opened_in (lines_of o) ≡ Ok (o, None)) → text ≡ bytes_of o → opened_in text ≡ Ok (o, None) → IsInLines o text

abbrev pub IsFormatPrint : Office → PrintoutOrFault → Type 0
IsFormatPrint o print = (text : List ℕ) × IsInLines o text × (print ≡ printout_of text [] false false)
