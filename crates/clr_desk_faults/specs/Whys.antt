-- What is printed of a text that is asked about: whether it can be used, and where its fault is.
use Rattle.std.specs.Prelude.{◌≡◌, ℕ, List, [], ◌++◌, codes, Ok}
use Rattle.clr_desk_command_line.specs.declared.asks.TextKind.{TextKind}
use Rattle.clr_desk_command_line.specs.declared.asks.TextKind.TheVariants as kind
use Rattle.clr_text_diagnosis.specs.Whys.{IsCertificateWhy, IsOfficeWhy, IsScriptWhy}
use Rattle.clr_text_diagnosis.specs.declared.whys.Why.{Why}
use Rattle.clr_text_diagnosis.specs.declared.whys.Why.TheVariants as why
use Rattle.clr_desk_prints.specs.Printing.{PrintoutOrFault}

-- what is found in the office text, or in the second text over it
abbrev pub IsWhy : TextKind → List ℕ → List ℕ → Why → Type 0
IsWhy kind.Office office second = IsOfficeWhy office
IsWhy kind.Script office second = IsScriptWhy office second
IsWhy kind.Certificate office second = IsCertificateWhy office second

-- status 0 where there is no fault, 4 where a need is broken in the office that isn't known, and 2 where there is a fault
abbrev pub why_print : Why → PrintoutOrFault
why_print why.NoFault = Ok (record { text = codes "no fault\n"; notes = []; status = 0 })
why_print (why.OldErrors lines) = Ok (record { text = codes "no fault\n" ++ lines.items; notes = []; status = 0 })
why_print (why.Unheld lines) = Ok (record { text = lines.items; notes = []; status = 4 })
why_print (why.Faulty lines) = Ok (record { text = lines.items; notes = []; status = 2 })

abbrev pub IsWhyPrint : TextKind → List ℕ → List ℕ → PrintoutOrFault → Type 0
IsWhyPrint asked office second print = (found : Why) × IsWhy asked office second found × (print ≡ why_print found)
