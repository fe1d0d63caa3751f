-- What is printed of the plan of members: the certificate alone, or why there is none.
use Rattle.std.specs.Prelude.{◌≡◌, List}
use Rattle.clr_workspaces.specs.Marks.{Name}
use Rattle.clr_steps.specs.Offices.{Office}
use Rattle.clr_steps.specs.Quiet.{MergeSet}
use Rattle.clr_merge_sets.specs.declared.plans.Plan.{Plan}
use Rattle.clr_office.specs.Outcomes.{IsPlanned}
use Rattle.clr_desk_prints.specs.Members.{set_asked}
use Rattle.clr_desk_prints.specs.Printing.{PrintoutOrFault}
use Rattle.clr_desk_orders.specs.PlanPrints.{plan_print}

-- of a plan of a merge set
abbrev pub IsPlanPrint : Office → MergeSet → PrintoutOrFault → Type 0
IsPlanPrint o s print = (p : Plan) × IsPlanned o s p × (print ≡ plan_print o s p)

-- of the members that names ask for
abbrev pub IsCertificatePrint : Name → List Name → Office → PrintoutOrFault → Type 0
IsCertificatePrint root names o = IsPlanPrint o (set_asked o root names)
