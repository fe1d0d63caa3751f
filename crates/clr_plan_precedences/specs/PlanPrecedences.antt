-- Which members go before which, where a plan for every order is blocked.
use Rattle.std.specs.Prelude.{◌≡◌, List, map, Option, Some, None}
use Rattle.clr_workspaces.specs.Marks.{Name}
use Rattle.clr_steps.specs.Offices.{Office}
use Rattle.clr_steps.specs.Quiet.{MergeSet}
use Rattle.clr_cert.specs.declared.certificates.Precedence.{Precedence}
use Rattle.clr_merge_sets.specs.declared.plans.Plan.{Plan}
use Rattle.clr_merge_sets.specs.declared.plans.Plan.TheVariants as plan
use Rattle.clr_scene_orders.specs.declared.scene_orders.SceneOrder.{SceneOrder}
use Rattle.clr_scene_orders.specs.declared.scene_orders.SceneOrder.TheVariants as scene_order
use Rattle.clr_merge_orders.specs.declared.merge_orders.MergeOrder.{MergeOrder}
use Rattle.clr_merge_orders.specs.declared.merge_orders.MergeOrder.TheVariants as merge_order
use Rattle.clr_merge_orders.specs.MergeOrders.{IsFoundOrder}
use Rattle.clr_ordered_plans.specs.Listed.{precedence_of}

-- who goes before whom in the order that is said of a scene, if one is
abbrev pub precedences_in_scene : List Name → SceneOrder → Option (List Precedence)
precedences_in_scene members (scene_order.Order order pairs) = Some (map (precedence_of members) pairs.items)
precedences_in_scene members (scene_order.Final need blockers) = None
precedences_in_scene members (scene_order.Stuck concerned) = None
precedences_in_scene members (scene_order.TooMany concerned) = None

-- who goes before whom in the order in which members can be merged, if one was found
abbrev pub precedences_in : List Name → MergeOrder → Option (List Precedence)
precedences_in members (merge_order.Ordered order) = precedences_in_scene members order
precedences_in members (merge_order.Planned p) = None

-- of a plan that is blocked, who goes before whom in the order that is found, if one is; of another plan nothing is said
abbrev pub ArePrecedencesOfPlan : Office → MergeSet → Plan → Option (List Precedence) → Type 0
ArePrecedencesOfPlan o s (plan.Blocked order cause) found = (said : MergeOrder) × IsFoundOrder o s said × (found ≡ precedences_in s.members said)
ArePrecedencesOfPlan o s (plan.Cleared c) found = found ≡ None
ArePrecedencesOfPlan o s (plan.Unfit v) found = found ≡ None
ArePrecedencesOfPlan o s plan.OutOfMemory found = found ≡ None
