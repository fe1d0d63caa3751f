-- What is said of the orders of a merge set's members, and what it promises.
use Rattle.std.specs.Prelude.{◌≡◌, ℕ, true, false, List, [], Option, Some, None, get_or, map}
use Rattle.clr_workspaces.specs.Marks.{Name}
use Rattle.clr_needs.specs.Covers.{Entry}
use Rattle.clr_needs.specs.Members.{AreApart}
use Rattle.clr_needs.specs.Settings.{AreAmong}
use Rattle.clr_steps.specs.Offices.{Office}
use Rattle.clr_steps.specs.Quiet.{MergeSet}
use Rattle.clr_clearance.specs.MergeSets.{change_sets, setting_by_position}
use Rattle.clr_clearance.specs.Plans.{is_order_refused, members_at}
use Rattle.clr_clearance.specs.Verdicts.{member_fault}
use Rattle.clr_ordered_needs.specs.Turns.{ListsAll}
use Rattle.clr_ordered_clearance.specs.Headlines.{HeadlineInTurn}
use Rattle.clr_ordered_clearance.specs.Laws.{CanBeMergedAs}
use Rattle.clr_ordered_clearance.specs.MergeSets.{CoversInTurn, OrderedMergeSet}
use Rattle.clr_merge_sets.specs.MergeSetNames.{merge_set}
use Rattle.clr_merge_sets.specs.Plans.{is_out_of_memory}
use Rattle.clr_merge_sets.specs.declared.plans.Plan.{Plan}
use Rattle.clr_plan.specs.Plans.{IsPlan}
use Rattle.clr_plan.specs.Promises.{Promises as PromisesOfPlan}
use Rattle.clr_order_answers.specs.declared.pairs.Pair.{Pair}
use Rattle.clr_scene_orders.specs.declared.scene_orders.SceneOrder.{SceneOrder}
use Rattle.clr_scene_orders.specs.declared.scene_orders.SceneOrder.TheVariants as scene_order
use Rattle.clr_scene_orders.specs.SceneOrders.{IsSceneOrder}
use Rattle.clr_merge_orders.specs.declared.merge_orders.MergeOrder.{MergeOrder}
use Rattle.clr_merge_orders.specs.declared.merge_orders.MergeOrder.TheVariants as merge_order

-- no test of members fails and no cell is changed by two, and this is said of the members by position
pub record IsOrderOf (o : Office) (s : MergeSet) (order : SceneOrder) : Type 0 where
  pub free : member_fault o s ≡ None
  pub apart : AreApart (change_sets o s)
  pub told : IsSceneOrder (setting_by_position o s) order

-- the plan of members whose orders aren't looked at: some test of members fails, or two members change one cell
pub record IsPlanWithoutOrders (o : Office) (s : MergeSet) (p : Plan) : Type 0 where
  pub planned : IsPlan o s p
  pub barred : ¬ ((member_fault o s ≡ None) × AreApart (change_sets o s))
  pub found : is_out_of_memory p ≡ false

abbrev pub IsMergeOrder : Office → MergeSet → MergeOrder → Type 0
IsMergeOrder o s (merge_order.Planned p) = IsPlanWithoutOrders o s p
IsMergeOrder o s (merge_order.Ordered order) = IsOrderOf o s order

-- the order that is said of a scene, if one is
abbrev pub order_in_scene : SceneOrder → Option (List ℕ)
order_in_scene (scene_order.Order order pairs) = Some order.items
order_in_scene (scene_order.Final need members) = None
order_in_scene (scene_order.Stuck members) = None
order_in_scene (scene_order.TooMany members) = None

-- the order in which members can be merged, by position, if one was found
abbrev pub order_in : MergeOrder → Option (List ℕ)
order_in (merge_order.Ordered order) = order_in_scene order
order_in (merge_order.Planned p) = None

-- the members in an order
abbrev pub in_this_order : MergeSet → List ℕ → MergeSet
in_this_order s order = merge_set s.root (members_at s order)

-- what it promises ---------------------------------------------------------------------------------------------

-- the name of the member at a position
abbrev pub name_at : MergeSet → ℕ → Name
name_at s at = get_or s.members at []

-- the members, of whom the first of each pair goes before the second
abbrev pub ordered_by : MergeSet → List Pair → OrderedMergeSet
ordered_by s pairs = record { merge_set = s; before = map (λ p. (name_at s p.earlier, name_at s p.later)) pairs }

-- some entries cover the members under the pairs, so that the headline holds for merges in turn
abbrev pub IsClearedBy : Office → MergeSet → List Pair → Type 0
IsClearedBy o s pairs = ((entries : List Entry) × CoversInTurn o (ordered_by s pairs) entries) × HeadlineInTurn o (ordered_by s pairs)

-- in each order of all members one of the merges meets a conflict or breaks a rule
abbrev pub IsEachOrderRefused : Office → MergeSet → Type 0
IsEachOrderRefused o s = (order : List ℕ) → ListsAll (setting_by_position o s) order → is_order_refused o (members_at s order) ≡ true

-- in each list of members among which are all of these, whichever others are, one of the merges meets a conflict or breaks a rule
abbrev pub IsRefusedWith : Office → MergeSet → List ℕ → Type 0
IsRefusedWith o s blockers = let c = setting_by_position o s in
    (list : List ℕ) → AreAmong c blockers list → AreAmong c list c.members → is_order_refused o (members_at s list) ≡ true

-- of an order its pairs promise the headline, and its merges, one after another, are all done
abbrev pub PromisesOrder : Office → MergeSet → SceneOrder → Type 0
PromisesOrder o s (scene_order.Order order pairs) =
    IsClearedBy o s pairs.items × CanBeMergedAs o (ordered_by s pairs.items) (members_at s order.items)
PromisesOrder o s (scene_order.Final need members) = IsRefusedWith o s members.items
PromisesOrder o s (scene_order.Stuck members) = IsEachOrderRefused o s
PromisesOrder o s (scene_order.TooMany members) = Unit {0}

-- a plan promises what it promises where it is asked for
abbrev pub Promises : Office → MergeSet → MergeOrder → Type 0
Promises o s (merge_order.Planned p) = PromisesOfPlan o s p
Promises o s (merge_order.Ordered order) = PromisesOrder o s order

-- what is said of the orders of members, with what it promises
pub record IsFoundOrder (o : Office) (s : MergeSet) (order : MergeOrder) : Type 0 where
  pub told : IsMergeOrder o s order
  pub promises : Promises o s order
