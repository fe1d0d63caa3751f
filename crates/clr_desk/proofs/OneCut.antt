-- What is printed of a cut is one thing where what is printed of an office is.
use Rattle.std.proofs.Common.{◌≡◌, ◌∙◌, Bool, true, false, List, ℕ, Ok, Err, ap, subst, sym}
use Rattle.clr_cut_texts.specs.Marks.{is_cut_text}
use Rattle.clr_desk_prints.specs.Printing.{PrintoutOrFault}
use Rattle.clr_desk.specs.CutMarks.{IsMarkedAlike, with_mark}
use Rattle.clr_desk.specs.Geographic.{IsPrintIf}
use Rattle.clr_desk.specs.OneAnswer.{FoundMemory, IsOnePrint}

-- a print that is marked has the status of the one that isn't
found_bare : (is_of_cut : Bool) (bare print : PrintoutOrFault) → print ≡ with_mark is_of_cut bare → FoundMemory print → FoundMemory bare
found_bare true (Ok p) print is found = subst FoundMemory is found
found_bare true (Err e) print is found = tt
found_bare false (Ok p) print is found = subst FoundMemory is found
found_bare false (Err e) print is found = tt

-- where one text is printed, one is printed with its mark
pub one_marked : (P : PrintoutOrFault → Type 0) (text : List ℕ) → IsOnePrint P → IsOnePrint (IsMarkedAlike P text)
one_marked P text one print other (bare, made, is) (bare_too, made_too, is_too) found found_too =
    let cut = is_cut_text text in
    is ∙ ap (with_mark cut) (one bare bare_too made made_too (found_bare cut bare print is found) (found_bare cut bare_too other is_too found_too)) ∙ sym is_too

-- where a text is a cut there is one refusal
pub one_unless : (is_cut : Bool) (P : PrintoutOrFault → Type 0) (refused : PrintoutOrFault) → IsOnePrint P
    → IsOnePrint (λ print. IsPrintIf is_cut (print ≡ refused) (P print))
one_unless true P refused one print other a b found found_too = a ∙ sym b
one_unless false P refused one print other a b found found_too = one print other a b found found_too
