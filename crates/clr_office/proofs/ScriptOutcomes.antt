-- What steps print one after another.
use Rattle.std.proofs.Common.{◌≡◌, ℕ, suc, ◌+◌, ◌<◌, ◌≤◌, Bool, ◌||◌, List, ◌∷◌, ◌++◌, length, get_or, drop, Result, Ok, refl, sym, ap, subst}
use Rattle.std.proofs.Common.{◌∙◌, append_assoc, add-one}
use Rattle.std.proofs.Math.Bool.{or-false, or_assoc}
use Rattle.std.proofs.Math.Seq.{drop-cons}
use Rattle.std.proofs.lemmas.List.{append-nil, drop_all}
use Rattle.clr_steps.specs.Offices.{Office}
use Rattle.clr_scripts.specs.declared.faults.RecordFault.{RecordFault}
use Rattle.clr_scripts.specs.declared.steps.Step.{Step}
use Rattle.clr_office_reports.specs.declared.outputs.Output.{Output}
use Rattle.clr_office.specs.Outcomes.{nothing, followed_by, IsOutcome, IsScriptOutcome}
use Rattle.clr_office_reports.specs.Outcomes.{Outcome, outcome, outcome_of}
use Rattle.clr_office.specs.Scripts.{ArePrinted}
use Rattle.clr_office_reports.specs.Printing.{IsOutput, print_of}

-- whatever the rest prints makes with this the whole
abbrev pub Leads : Office → List Step → Outcome → List Step → Type 0
Leads start steps all rest = (later : Outcome) → IsScriptOutcome all.office rest later → IsScriptOutcome start steps (followed_by all later)

-- one more step
pub goes_on : (start before after : Office) (steps : List Step) (i : ℕ) (s : Step) (lines line : List ℕ) (refused also lost now_lost : Bool) → i < length steps
    → s ≡ get_or steps i s
    → IsOutcome before s (outcome line also now_lost after) → Leads start steps (outcome lines refused lost before) (drop i steps)
    → Leads start steps (outcome (lines ++ line) (refused || also) (lost || now_lost) after) (drop (i + 1) steps)
goes_on start before after steps i s lines line refused also lost now_lost lt is now so_far later rest =
    let first = outcome line also now_lost after in
    let next : s ∷ drop (i + 1) steps ≡ drop i steps = rw (add-one i) (sym (drop-cons steps i s lt ∙ ap (λ x. x ∷ drop (suc i) steps) (sym is))) in
    let both : IsScriptOutcome before (s ∷ drop (i + 1) steps) (followed_by first later) = (first, later, now, rest, refl) in
    let regrouped : followed_by (outcome lines refused lost before) (followed_by first later) ≡ followed_by
    (outcome (lines ++ line) (refused || also) (lost || now_lost) after) later =
    rw (append_assoc, sym (or_assoc refused also later.refused), sym (or_assoc lost now_lost later.lost)) refl in
    subst (IsScriptOutcome start steps) regrouped (so_far (followed_by first later) (subst (λ xs. IsScriptOutcome before xs (followed_by first later)) next
    both))

-- no step is left
pub ends : (start o : Office) (steps : List Step) (i : ℕ) (lines : List ℕ) (refused lost : Bool) → length steps ≤ i
    → Leads start steps (outcome lines refused lost o) (drop i steps)
    → IsScriptOutcome start steps (outcome lines refused lost o)
ends start o steps i lines refused lost le so_far =
    let none : followed_by (outcome lines refused lost o) (nothing o) ≡ outcome lines refused lost o =
    rw (append-nil lines, or-false refused, or-false lost) refl in
    subst (IsScriptOutcome start steps) none (so_far (nothing o) (subst (λ xs. IsScriptOutcome o xs (nothing o)) (sym (drop_all i steps le)) refl))

-- texts --------------------------------------------------------------------------------------

-- the output of the script of a text
pub script_made : (o after : Office) (read : Result (List Step) (ℕ × RecordFault)) (steps : List Step) (output : Output) → read ≡ Ok steps
    → IsScriptOutcome o steps (outcome_of output after) → IsOutput (ArePrinted o read) (Ok output)
script_made o after read steps output is h =
    subst (λ m. ArePrinted o m (print_of output.lines.items output.refused output.lost)) (sym is) (outcome_of output after, h, refl)
