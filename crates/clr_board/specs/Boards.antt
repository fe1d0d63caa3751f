-- What is said of all members of a merge set at once.
use Rattle.std.specs.Prelude.{◌≡◌, ◌==◌, ℕ, Bool, true, false, List, [], filter, get_or, length, map}
use Rattle.clr_steps.specs.Offices.{Office}
use Rattle.clr_steps.specs.Quiet.{MergeSet}
use Rattle.clr_order_answers.specs.declared.pairs.Pair.{Pair}
use Rattle.clr_scene_orders.specs.declared.scene_orders.SceneOrder.{SceneOrder}
use Rattle.clr_scene_orders.specs.declared.scene_orders.SceneOrder.TheVariants as scene_order
use Rattle.clr_merge_orders.specs.declared.merge_orders.MergeOrder.{MergeOrder}
use Rattle.clr_merge_orders.specs.declared.merge_orders.MergeOrder.TheVariants as merge_order
use Rattle.clr_merge_clashes.specs.ClashSets.{positions_of}
use Rattle.clr_merge_clashes.specs.declared.clash_sets.MergeClashes.{MergeClashes}
use Rattle.clr_clash_helpers.specs.declared.helped.HelpedClash.{HelpedClash}
use Rattle.clr_clash_helpers.specs.Helpers.{AreHelped}
use Rattle.clr_board.specs.declared.boards.Board.{Board}
use Rattle.clr_board.specs.declared.states.DesignState.{DesignState}
use Rattle.clr_board.specs.declared.turns.Turn.{Turn}
use Rattle.clr_board.specs.Settling.{Settles, goers_of}
use Rattle.clr_board.specs.States.{state_of}

-- how each of the members stands
abbrev pub states_of : List HelpedClash → List ℕ → List DesignState
states_of helped positions = map (state_of helped) positions

-- the order ----------------------------------------------------------------------------------------

-- the pairs of an order, if one is found
abbrev pub pairs_of_scene : SceneOrder → List Pair
pairs_of_scene (scene_order.Order order pairs) = pairs.items
pairs_of_scene (scene_order.Final need blockers) = []
pairs_of_scene (scene_order.Stuck concerned) = []
pairs_of_scene (scene_order.TooMany concerned) = []

abbrev pub pairs_of : MergeOrder → List Pair
pairs_of (merge_order.Ordered order) = pairs_of_scene order
pairs_of (merge_order.Planned p) = []

abbrev pub is_scene_ordered : SceneOrder → Bool
is_scene_ordered (scene_order.Order order pairs) = true
is_scene_ordered (scene_order.Final need blockers) = false
is_scene_ordered (scene_order.Stuck concerned) = false
is_scene_ordered (scene_order.TooMany concerned) = false

-- an order is found
abbrev pub is_ordered : MergeOrder → Bool
is_ordered (merge_order.Ordered order) = is_scene_ordered order
is_ordered (merge_order.Planned p) = false

-- a pair of those that go, by their positions among all members
abbrev pub turn_of : List ℕ → Pair → Turn
turn_of goers p = record { earlier = get_or goers p.earlier 0; later = get_or goers p.later 0 }

abbrev pub turns_of : List ℕ → MergeOrder → List Turn
turns_of goers order = map (turn_of goers) (pairs_of order)

-- those that go before a member
abbrev pub earlier_of : List Turn → ℕ → List ℕ
earlier_of turns at = map (λ (t : Turn). t.earlier) (filter (λ (t : Turn). t.later == at) turns)

-- the whole ----------------------------------------------------------------------------------------

-- an order is looked for of the members that can be merged now, or after others; at most so many that wait are left out as there are members
abbrev pub Settled : Office → MergeSet → List HelpedClash → List ℕ → List ℕ → MergeOrder → Type 0
Settled o s helped goers last order = Settles o s helped (length goers) goers last order

-- each set with who helps it, how each member stands, and what is said of the orders of those that go, with what that promises
pub record IsBoard (o : Office) (s : MergeSet) (found : MergeClashes) (board : Board) : Type 0 where
  pub helped : AreHelped o s found.clashes.items board.helped.items
  pub states : board.states.items ≡ states_of board.helped.items (positions_of s.members)
  pub order : Settled o s board.helped.items (goers_of board.helped.items (positions_of s.members)) board.goers.items board.order
  pub turns : board.turns.items ≡ turns_of board.goers.items board.order
