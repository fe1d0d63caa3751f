-- Tests of names in an office without rows, computed from the definitions.
use Rattle.std.specs.Prelude.{◌≡◌, false, List, [], ◌∷◌, Option, Some, None, codes}
use Rattle.clr_rows.specs.Names.{live_name}
use Rattle.clr_workspaces.specs.Marks.{Name}
use Rattle.clr_steps.specs.declared.commands.Command.TheVariants.{Create, Hold}
use Rattle.clr_steps.specs.Offices.{Office}
use Rattle.clr_steps.specs.Examples.{empty_office, first, second}
use Rattle.clr_steps.specs.Steps.{run}
use Rattle.clr_clearance.specs.declared.verdicts.Verdict.{Verdict}
use Rattle.clr_clearance.specs.declared.verdicts.Verdict.TheVariants.{NotKept, RepeatedMember, NoWorkspace, NotUnderRoot}
use Rattle.clr_clearance.specs.Verdicts.{names_fault}

abbrev pub third : Name
third = codes "C"

abbrev pub nobody : Name
nobody = codes "Z"

-- A and C under LIVE, and B under A, which is kept
abbrev pub three_workspaces : Office
three_workspaces = (run empty_office (Create first live_name ∷ Create second first ∷ Create third live_name ∷ Hold first ∷ []) (λ at. false)).office

abbrev pub example_fault_of : Name → List Name → Option Verdict
example_fault_of root members = names_fault three_workspaces (record { root = root; members = members })

-- each test is made over all members before the next; a root is no child of itself
abbrev pub FaultExample : Type 0
FaultExample =
    example_fault_of live_name [] ∷ example_fault_of live_name (third ∷ first ∷ []) ∷ example_fault_of first (second ∷ [])
    ∷ example_fault_of third (nobody ∷ nobody ∷ []) ∷ example_fault_of nobody [] ∷ example_fault_of live_name (nobody ∷ first ∷ nobody ∷ [])
    ∷ example_fault_of live_name (second ∷ nobody ∷ []) ∷ example_fault_of live_name (first ∷ second ∷ []) ∷ example_fault_of live_name (live_name ∷ [])
    ∷ example_fault_of first (first ∷ []) ∷ []
    ≡ None ∷ None ∷ None
    ∷ Some NotKept ∷ Some NotKept ∷ Some (RepeatedMember 2)
    ∷ Some (NoWorkspace 1) ∷ Some (NotUnderRoot 1) ∷ Some (NotUnderRoot 0)
    ∷ Some (NotUnderRoot 0) ∷ []
