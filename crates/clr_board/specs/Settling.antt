-- Which of the members that can be merged now or after others have an order together.
use Rattle.std.specs.Prelude.{◌≡◌, ◌==◌, ℕ, suc, Bool, true, false, not, List, [], Option, Some, None, filter, find, slice_get}
use Rattle.std.specs.List.{filter_map, list_any}
use Rattle.clr_steps.specs.Offices.{Office}
use Rattle.clr_steps.specs.Quiet.{MergeSet}
use Rattle.clr_merge_sets.specs.declared.plans.Plan.{Plan}
use Rattle.clr_merge_sets.specs.declared.plans.Plan.TheVariants as plan
use Rattle.clr_scene_orders.specs.declared.scene_orders.SceneOrder.{SceneOrder}
use Rattle.clr_scene_orders.specs.declared.scene_orders.SceneOrder.TheVariants as scene_order
use Rattle.clr_merge_orders.specs.declared.merge_orders.MergeOrder.{MergeOrder}
use Rattle.clr_merge_orders.specs.declared.merge_orders.MergeOrder.TheVariants as merge_order
use Rattle.clr_merge_orders.specs.MergeOrders.{IsFoundOrder}
use Rattle.clr_merge_clashes.specs.Laws.{merge_set_of_part}
use Rattle.clr_clash_helpers.specs.declared.helped.HelpedClash.{HelpedClash}
use Rattle.clr_board.specs.declared.states.DesignState.{DesignState}
use Rattle.clr_board.specs.declared.states.DesignState.TheVariants.{Free, Waiting, Unaided, Conflicted, Clashing}
use Rattle.clr_board.specs.States.{goes, helpers_of, is_waiting, state_of}

-- a member is free, or waits
abbrev pub may_go : List HelpedClash → ℕ → Bool
may_go helped at = goes (state_of helped at)

abbrev pub is_any_going : List HelpedClash → List ℕ → Bool
is_any_going helped positions = list_any (may_go helped) positions

-- a member is free; or it waits, and one of those that help it is free or waits itself
abbrev pub goes_as : List HelpedClash → ℕ → DesignState → Bool
goes_as helped at Free = true
goes_as helped at Waiting = is_any_going helped (helpers_of helped at)
goes_as helped at Unaided = false
goes_as helped at Conflicted = false
goes_as helped at Clashing = false

abbrev pub goes_at : List HelpedClash → ℕ → Bool
goes_at helped at = goes_as helped at (state_of helped at)

-- the members that can be merged now, or perhaps after others that help them
abbrev pub goers_of : List HelpedClash → List ℕ → List ℕ
goers_of helped positions = filter (goes_at helped) positions

abbrev pub waits : List HelpedClash → ℕ → Bool
waits helped at = is_waiting (state_of helped at)

-- the members that show why no order is found, by their positions among those that are asked about
abbrev pub places_in_plan : Plan → List ℕ
places_in_plan (plan.Blocked order cause) = order.items
places_in_plan _ = []

abbrev pub places_in_scene : SceneOrder → List ℕ
places_in_scene (scene_order.Order order pairs) = []
places_in_scene (scene_order.Final need blockers) = blockers.items
places_in_scene (scene_order.Stuck concerned) = concerned.items
places_in_scene (scene_order.TooMany concerned) = concerned.items

abbrev pub places_of : MergeOrder → List ℕ
places_of (merge_order.Ordered order) = places_in_scene order
places_of (merge_order.Planned p) = places_in_plan p

-- the first of these that waits for another, by its position among all members
abbrev pub dropped : List HelpedClash → List ℕ → MergeOrder → Option ℕ
dropped helped goers order = find (waits helped) (filter_map (slice_get goers) (places_of order))

abbrev pub without : ℕ → List ℕ → List ℕ
without at goers = filter (λ x. not (x == at)) goers

-- an order is asked for of some members, and where none is found, of those but for the first that waits of the members that show it, and so on, at most so
-- many times; the last ones, and what is said of their orders
pub data Settles (o : Office) (s : MergeSet) (helped : List HelpedClash) : ℕ → List ℕ → List ℕ → MergeOrder → Type 0 where
  settled : (rounds : ℕ) (goers : List ℕ) (order : MergeOrder) → IsFoundOrder o (merge_set_of_part s goers) order → dropped helped goers order ≡ None
      → Settles o s helped rounds goers goers order
  spent : (goers : List ℕ) (order : MergeOrder) → IsFoundOrder o (merge_set_of_part s goers) order → Settles o s helped 0 goers goers order
  drops : (rounds : ℕ) (goers last : List ℕ) (at : ℕ) (order found : MergeOrder) → IsFoundOrder o (merge_set_of_part s goers) order
      → dropped helped goers order ≡ Some at → Settles o s helped rounds (without at goers) last found → Settles o s helped (suc rounds) goers last found
