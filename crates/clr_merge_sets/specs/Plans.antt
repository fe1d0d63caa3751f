-- Which answer a plan is.
use Rattle.std.specs.Prelude.{Bool, true, false}
use Rattle.clr_merge_sets.specs.declared.plans.Plan.{Plan}
use Rattle.clr_merge_sets.specs.declared.plans.Plan.TheVariants as plan

abbrev pub is_cleared : Plan → Bool
is_cleared (plan.Cleared c) = true
is_cleared (plan.Blocked order cause) = false
is_cleared (plan.Unfit v) = false
is_cleared plan.OutOfMemory = false

abbrev pub is_out_of_memory : Plan → Bool
is_out_of_memory (plan.Cleared c) = false
is_out_of_memory (plan.Blocked order cause) = false
is_out_of_memory (plan.Unfit v) = false
is_out_of_memory plan.OutOfMemory = true
