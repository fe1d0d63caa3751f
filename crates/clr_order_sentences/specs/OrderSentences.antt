-- What is said of the orders of members that a plan blocks, in sentences.
use Rattle.std.specs.Prelude.{◌≡◌, ◌++◌, ◌==◌, ℕ, List, [], ◌∷◌, codes, length, map, if◌then◌else◌}
use Rattle.clr_workspaces.specs.Marks.{Name}
use Rattle.clr_steps.specs.Offices.{Office}
use Rattle.clr_steps.specs.Quiet.{MergeSet}
use Rattle.clr_clearance.specs.Plans.{members_at}
use Rattle.clr_member_changes.specs.Names.{member_name}
use Rattle.clr_merge_sets.specs.declared.plans.Plan.{Plan}
use Rattle.clr_merge_sets.specs.declared.plans.Plan.TheVariants as plan
use Rattle.clr_phrases.specs.Lists.{names_text}
use Rattle.clr_order_answers.specs.declared.pairs.Pair.{Pair}
use Rattle.clr_scene_orders.specs.declared.scene_orders.SceneOrder.{SceneOrder}
use Rattle.clr_scene_orders.specs.declared.scene_orders.SceneOrder.TheVariants as scene_order
use Rattle.clr_merge_orders.specs.declared.merge_orders.MergeOrder.{MergeOrder}
use Rattle.clr_merge_orders.specs.declared.merge_orders.MergeOrder.TheVariants as merge_order
use Rattle.clr_merge_orders.specs.MergeOrders.{IsFoundOrder}

-- an order ----------------------------------------------------------------------------------------------------

-- a pair with a verb between its names
abbrev pub pair_phrase : List Name → List ℕ → Pair → List ℕ
pair_phrase members verb pair = member_name members pair.earlier ++ verb ++ member_name members pair.later

-- pairs, of which only the first has the whole verb
abbrev pub pair_phrases : List Name → List Pair → List (List ℕ)
pair_phrases members [] = []
pair_phrases members (first ∷ others) = pair_phrase members (codes " goes before ") first ∷ map (pair_phrase members (codes " before ")) others

-- members in an order that is cleared, and which of them go before others
abbrev pub ordered_text : MergeSet → List ℕ → List Pair → List ℕ
ordered_text s order pairs =
    codes "CLEARED IN THIS ORDER. " ++ names_text (members_at s order) ++ codes " can be merged into " ++ s.root ++ codes " where "
    ++ names_text (pair_phrases s.members pairs) ++ codes ".\nAll other merges, and refreshes, may come at any time.\n"

-- no order ----------------------------------------------------------------------------------------------------

-- behind the name of the one member that blocks a need which none of so many members helps
abbrev pub refused_end : ℕ → List ℕ
refused_end count =
    if count == 1 then codes " is refused. Change it, or name a design that helps it.\n"
    else codes " is refused in each order of these designs. Change it, leave it out, or name a design that helps it.\n"

abbrev pub alone_text : MergeSet → List ℕ → List ℕ
alone_text s blockers = names_text (members_at s blockers) ++ refused_end (length s.members)

-- each order of members is refused that merges all of those which block a need
abbrev pub together_text : MergeSet → List ℕ → List ℕ
together_text s blockers =
    codes "No order of these designs works: each that merges " ++ names_text (members_at s blockers)
    ++ codes " is refused. Change one of them, leave one out, or name a design that helps.\n"

-- a need that no member helps, by the members that block it
abbrev pub final_text : MergeSet → List ℕ → List ℕ
final_text s blockers = if length blockers == 1 then alone_text s blockers else together_text s blockers

-- each order breaks a need on the way, though members help each
abbrev pub stuck_text : MergeSet → List ℕ → List ℕ
stuck_text s concerned =
    codes "No order of " ++ names_text (members_at s concerned) ++ codes " works: each order is refused. Merge them as one design.\n"

-- open needs concern too many members
abbrev pub too_many_text : MergeSet → List ℕ → List ℕ
too_many_text s concerned =
    codes "No order was looked for among so many designs: " ++ names_text (members_at s concerned)
    ++ codes ".\nOf an order of your own, clr_desk certificate --in-order says whether it works.\n"

-- the whole ---------------------------------------------------------------------------------------------------

abbrev pub scene_order_sentences : MergeSet → SceneOrder → List ℕ
scene_order_sentences s (scene_order.Order order pairs) = ordered_text s order.items pairs.items
scene_order_sentences s (scene_order.Final need blockers) = final_text s blockers.items
scene_order_sentences s (scene_order.Stuck concerned) = stuck_text s concerned.items
scene_order_sentences s (scene_order.TooMany concerned) = too_many_text s concerned.items

-- nothing is said where a member is in conflict or two change one cell
abbrev pub merge_order_sentences : MergeSet → MergeOrder → List ℕ
merge_order_sentences s (merge_order.Planned p) = []
merge_order_sentences s (merge_order.Ordered order) = scene_order_sentences s order

-- the sentences of what is said of the orders of members
abbrev pub AreSentencesOfMembers : Office → MergeSet → List ℕ → Type 0
AreSentencesOfMembers o s text = (found : MergeOrder) × IsFoundOrder o s found × (text ≡ merge_order_sentences s found)

-- of members that a plan blocks; nothing of any other plan
abbrev pub AreOrderSentences : Office → MergeSet → Plan → List ℕ → Type 0
AreOrderSentences o s (plan.Blocked order cause) text = AreSentencesOfMembers o s text
AreOrderSentences o s _ text = text ≡ []
