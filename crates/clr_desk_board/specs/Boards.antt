-- What is printed of the board of the designs of a root.
use Rattle.std.specs.Prelude.{◌≡◌, ℕ, false, List, [], Some, length, nat_lt}
use Rattle.clr_workspaces.specs.Marks.{Name}
use Rattle.clr_steps.specs.Offices.{Office}
use Rattle.clr_steps.specs.Quiet.{MergeSet}
use Rattle.clr_clearance.specs.declared.verdicts.Verdict.{Verdict}
use Rattle.clr_clearance.specs.Verdicts.{names_fault}
use Rattle.clr_merge_sets.specs.declared.plans.Plan.TheVariants as plan
use Rattle.clr_merge_clashes.specs.Laws.{AreSmallestSets}
use Rattle.clr_merge_clashes.specs.MergeClashes.{FindsClashes}
use Rattle.clr_merge_clashes.specs.declared.clash_sets.MergeClashes.{MergeClashes}
use Rattle.clr_board_page.specs.Boards.{IsBoardText}
use Rattle.clr_desk_orders.specs.PlanPrints.{plan_print}
use Rattle.clr_desk_prints.specs.Members.{set_asked}
use Rattle.clr_desk_prints.specs.Printing.{PrintoutOrFault, printout_of}

-- the page of members with these clashes; one clash counts as a refusal
abbrev pub IsFoundBoard : Office → MergeSet → MergeClashes → PrintoutOrFault → Type 0
IsFoundBoard o s found print =
    (text : List ℕ) × IsBoardText o s found text × (print ≡ printout_of text [] (nat_lt 0 (length found.clashes.items)) false)

-- the page of the smallest clashes, with what these promise; or the test of names that fails, as the line of a plan that is unfit
pub data IsBoardOfSet (s : MergeSet) (o : Office) (print : PrintoutOrFault) : Type 0 where
  of_found : (found : MergeClashes) → FindsClashes o s found → AreSmallestSets o s found → IsFoundBoard o s found print → IsBoardOfSet s o print
  of_names : (v : Verdict) → names_fault o s ≡ Some v → print ≡ plan_print o s (plan.Unfit v) → IsBoardOfSet s o print

-- of the members that names ask for
abbrev pub IsBoardPrint : Name → List Name → Office → PrintoutOrFault → Type 0
IsBoardPrint root names o print = IsBoardOfSet (set_asked o root names) o print
