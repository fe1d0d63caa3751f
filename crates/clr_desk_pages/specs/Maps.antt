-- What is printed of the map of a plan.
use Rattle.std.specs.Prelude.{◌≡◌, ℕ, List}
use Rattle.clr_workspaces.specs.Marks.{Name}
use Rattle.clr_steps.specs.Offices.{Office}
use Rattle.clr_steps.specs.Quiet.{MergeSet}
use Rattle.clr_merge_sets.specs.declared.plans.Plan.{Plan}
use Rattle.clr_plan_page.specs.Maps.{IsMap}
use Rattle.clr_desk_prints.specs.Members.{set_asked}
use Rattle.clr_desk_prints.specs.Printing.{IsFoundPlan, PrintoutOrFault, plan_text_print}

-- the map of the plan of a merge set
abbrev pub IsMapOfSet : Office → MergeSet → PrintoutOrFault → Type 0
IsMapOfSet o s print = (p : Plan) × (text : List ℕ) × IsFoundPlan o s p × IsMap o s p text × (print ≡ plan_text_print text p)

-- of the members that names ask for
abbrev pub IsMapPrint : Name → List Name → Office → PrintoutOrFault → Type 0
IsMapPrint root names o = IsMapOfSet o (set_asked o root names)
