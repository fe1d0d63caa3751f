-- What is printed of a cut is marked as one.
use Rattle.std.specs.Prelude.{◌≡◌, ℕ, Bool, true, false, List, [], ◌∷◌, ◌++◌, codes, Result, Ok, Err}
use Rattle.clr_rule_text.specs.declared.faults.TextFault.{TextFault}
use Rattle.clr_office_reading.specs.Offices.{OfficeText, office_in}
use Rattle.clr_cut_texts.specs.CutTexts.{cut_text}
use Rattle.clr_cut_texts.specs.Marks.{is_cut_text}
use Rattle.clr_process_io.specs.declared.faults.RunFault.{RunFault}
use Rattle.clr_process_io.specs.declared.faults.RunFault.TheVariants as run_fault
use Rattle.clr_desk_prints.specs.declared.prints.Print.{Print}
use Rattle.clr_desk_prints.specs.NameHints.{with_lines}
use Rattle.clr_desk_prints.specs.Printing.{PrintoutOrFault, printed}

-- an office text as that of a cut, on a line; what is no office text stays as it is
abbrev pub marked_as_read : Result OfficeText TextFault → (text : List ℕ) → List ℕ
marked_as_read (Ok o) text = cut_text o ++ codes "\n"
marked_as_read (Err e) text = text

abbrev pub marked_text : List ℕ → List ℕ
marked_text [] = []
marked_text (byte ∷ rest) = marked_as_read (office_in (byte ∷ rest)) (byte ∷ rest)

-- what is printed, with its text marked if it is printed of a cut
abbrev pub with_mark : (is_of_cut : Bool) → PrintoutOrFault → PrintoutOrFault
with_mark true (Ok print) = Ok (record print { text = marked_text print.text })
with_mark is_of_cut print = print

abbrev pub IsMarkedAlike : (PrintoutOrFault → Type 0) → (text : List ℕ) → PrintoutOrFault → Type 0
IsMarkedAlike IsPrint text print = (bare : PrintoutOrFault) × IsPrint bare × (print ≡ with_mark (is_cut_text text) bare)

-- a layer of a cut lacks rows that the network has
abbrev pub cut_note : List ℕ
cut_note = codes "cut: this layer has the rows of the cut alone; give it back to a design of the cut, and to no table\n"

-- what is printed, with that as a last note if it is printed of a cut
abbrev pub with_cut_note : (is_of_cut : Bool) → PrintoutOrFault → PrintoutOrFault
with_cut_note true print = with_lines cut_note print
with_cut_note false print = print

abbrev pub IsNotedCut : (PrintoutOrFault → Type 0) → (text : List ℕ) → PrintoutOrFault → Type 0
IsNotedCut IsPrint text print = (bare : PrintoutOrFault) × IsPrint bare × (print ≡ with_cut_note (is_cut_text text) bare)

-- an answer that was made, and what was made of its print; or memory ran out
abbrev pub IsMadeOf : (PrintoutOrFault → PrintoutOrFault) → Result Print RunFault → Result Print RunFault → Type 0
IsMadeOf change (Ok bare) (Ok print) = printed print ≡ change (printed bare)
IsMadeOf change (Ok bare) (Err e) = e ≡ run_fault.OutOfMemory
IsMadeOf change (Err e) (Ok print) = ⊥
IsMadeOf change (Err e) (Err f) = f ≡ e
