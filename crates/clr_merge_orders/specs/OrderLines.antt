-- The lines of what is said of orders.
use Rattle.std.specs.Prelude.{ℕ, List, ◌++◌, codes, length}
use Rattle.std.specs.Fmt.{decimal}
use Rattle.std.specs.List.{flat_map}
use Rattle.clr_rows.specs.declared.tables.TableDef.{TableDef}
use Rattle.clr_workspaces.specs.Marks.{Name}
use Rattle.clr_needs.specs.declared.needs.Need.{Need}
use Rattle.clr_clearance.specs.declared.verdicts.Verdict.TheVariants as verdict
use Rattle.clr_lines.specs.Verdicts.{verdict_text}
use Rattle.clr_order_answers.specs.declared.pairs.Pair.{Pair}
use Rattle.clr_plan.specs.PlanLines.{order_name, plan_text}
use Rattle.clr_scene_orders.specs.declared.scene_orders.SceneOrder.{SceneOrder}
use Rattle.clr_scene_orders.specs.declared.scene_orders.SceneOrder.TheVariants as scene_order
use Rattle.clr_merge_orders.specs.declared.merge_orders.MergeOrder.{MergeOrder}
use Rattle.clr_merge_orders.specs.declared.merge_orders.MergeOrder.TheVariants as merge_order

-- a line of members: a word, how many they are, and their names
abbrev pub names_text : List ℕ → List Name → List ℕ → List ℕ
names_text word members positions = word ++ decimal (length positions) ++ flat_map (order_name members) positions ++ codes "\n"

-- the line of a pair
abbrev pub pair_text : List Name → Pair → List ℕ
pair_text members pair = codes "before" ++ order_name members pair.earlier ++ order_name members pair.later ++ codes "\n"

-- the lines of an order: its members, and then its pairs
abbrev pub order_text : List Name → List ℕ → List Pair → List ℕ
order_text members order pairs = names_text (codes "order ") members order ++ flat_map (pair_text members) pairs

-- the lines of a need that no member helps: those that block it, and then the cause
abbrev pub final_text : List TableDef → List Name → Name → Need → List ℕ → List ℕ
final_text tables members root need blockers =
    names_text (codes "final ") members blockers ++ codes "cause " ++ verdict_text tables members root (verdict.Uncovered need)

abbrev pub scene_order_text : List TableDef → List Name → Name → SceneOrder → List ℕ
scene_order_text tables members root (scene_order.Order order pairs) = order_text members order.items pairs.items
scene_order_text tables members root (scene_order.Final need blockers) = final_text tables members root need blockers.items
scene_order_text tables members root (scene_order.Stuck stuck) = names_text (codes "stuck ") members stuck.items
scene_order_text tables members root (scene_order.TooMany knot) = names_text (codes "toomany ") members knot.items

-- the lines of what is said of the orders of members of a root
abbrev pub merge_order_text : List TableDef → List Name → Name → MergeOrder → List ℕ
merge_order_text tables members root (merge_order.Planned plan) = plan_text tables members root plan
merge_order_text tables members root (merge_order.Ordered order) = scene_order_text tables members root order
