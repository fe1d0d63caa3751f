-- What is printed of the verdict on a certificate.
use Rattle.std.specs.Prelude.{◌≡◌, ◌==◌, ◌||◌, ℕ, Bool, false, not, List, [], ◌++◌, codes, decimal, if◌then◌else◌, length}
use Rattle.clr_steps.specs.Offices.{Office}
use Rattle.clr_clearance.specs.declared.verdicts.Verdict.{Verdict}
use Rattle.clr_cert.specs.declared.certificates.Certificate.{Certificate}
use Rattle.clr_check.specs.TextChecks.{IsCheckedVerdict}
use Rattle.clr_lines.specs.Verdicts.{verdict_text_in_turn}
use Rattle.clr_office.specs.Clearances.{is_clear, is_without_memory}
use Rattle.clr_desk_prints.specs.Printing.{PrintoutOrFault, printout_of}

abbrev pub names_nobody : Certificate → Bool
names_nobody c = length c.members == 0

-- how many there are of what a word names
abbrev pub counted : ℕ → List ℕ → List ℕ
counted n word = decimal n ++ codes " " ++ word ++ (if n == 1 then [] else codes "s")

-- whom a certificate speaks of
abbrev pub remark_on : Certificate → List ℕ
remark_on c =
    if names_nobody c then codes "the certificate names no design\n"
    else codes "the certificate has " ++ counted (length c.members) (codes "design") ++ codes " and " ++ counted (length c.entries) (codes "need") ++ codes "\n"

-- the line of the verdict, and as a note whom the certificate speaks of; a verdict that isn't clear, and one on nobody, counts as a refusal
abbrev pub check_print : Office → Certificate → Verdict → PrintoutOrFault
check_print o c v = printout_of (verdict_text_in_turn o.schema c.members c.before c.root v) (remark_on c) (not (is_clear v) || names_nobody c) false

-- of the verdict on a certificate, for which memory was found
abbrev pub IsCheckPrint : Office → Certificate → PrintoutOrFault → Type 0
IsCheckPrint o c print = (v : Verdict) × IsCheckedVerdict o c v × (is_without_memory v ≡ false) × (print ≡ check_print o c v)
