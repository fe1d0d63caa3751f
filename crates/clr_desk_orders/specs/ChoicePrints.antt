-- What is printed of names that are tried one after another, of which some are taken.
use Rattle.std.specs.Prelude.{ℕ, false, not, List, ◌++◌, codes, length}
use Rattle.std.specs.Fmt.{decimal}
use Rattle.std.specs.List.{flat_map, list_any}
use Rattle.clr_workspaces.specs.Marks.{Name}
use Rattle.clr_steps.specs.Offices.{Office}
use Rattle.clr_cert.specs.declared.certificates.Certificate.{Certificate}
use Rattle.clr_cert.specs.Texts.{certificate_text}
use Rattle.clr_choices.specs.ChoiceLines.{left_text}
use Rattle.clr_choices.specs.Trials.{Trial, is_taken, taken_in}
use Rattle.clr_desk_prints.specs.Printing.{PrintoutOrFault, printout_of}

-- a word, how many names there are, and the names
abbrev pub names_line : List ℕ → List Name → List ℕ
names_line word names = word ++ codes " " ++ decimal (length names) ++ flat_map (λ name. codes " " ++ name) names ++ codes "\n"

-- the certificate of those taken, and as notes who they are, and why each other is left, which counts as a refusal
abbrev pub choice_print : Office → Name → List Trial → Certificate → PrintoutOrFault
choice_print o root trials c =
    printout_of (certificate_text o.schema c) (names_line (codes "kept") (taken_in trials) ++ flat_map (left_text o.schema root) trials)
    (list_any (λ t. not (is_taken t)) trials) false
