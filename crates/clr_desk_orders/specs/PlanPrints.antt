-- What is printed of a plan: the certificate alone, or why there is none.
use Rattle.std.specs.Prelude.{true, false, []}
use Rattle.clr_cert.specs.Texts.{certificate_text}
use Rattle.clr_steps.specs.Offices.{Office}
use Rattle.clr_steps.specs.Quiet.{MergeSet}
use Rattle.clr_merge_sets.specs.declared.plans.Plan.{Plan}
use Rattle.clr_merge_sets.specs.declared.plans.Plan.TheVariants as plan
use Rattle.clr_merge_sets.specs.Plans.{is_out_of_memory}
use Rattle.clr_plan.specs.PlanLines.{plan_text}
use Rattle.clr_desk_prints.specs.Printing.{PrintoutOrFault, printout_of}

-- the certificate of a cleared plan; of any other its lines, as notes, which counts as a refusal
abbrev pub plan_print : Office → MergeSet → Plan → PrintoutOrFault
plan_print o s (plan.Cleared c) = printout_of (certificate_text o.schema c) [] false false
plan_print o s p = printout_of [] (plan_text o.schema s.members s.root p) true (is_out_of_memory p)
