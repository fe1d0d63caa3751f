-- What is said of the orders of a setting's members, by position.
use Rattle.std.specs.Prelude.{◌≡◌, ℕ, ◌==◌, ◌&&◌, Bool, true, List, ◌∷◌, ◌++◌, Option, Some, length, slice_get, take}
use Rattle.std.specs.List.{list_any}
use Rattle.std.specs.declared.cmp.Ordering.TheVariants.{Less}
use Rattle.clr_needs.specs.declared.needs.Need.{Need}
use Rattle.clr_needs.specs.Covers.{Entry}
use Rattle.clr_needs.specs.Needs.{IsPossible}
use Rattle.clr_needs.specs.Orders.{need_cmp}
use Rattle.clr_needs.specs.Picks.{Blocks}
use Rattle.clr_needs.specs.Settings.{Setting, Lived}
use Rattle.clr_order_search.specs.declared.open_needs.OpenNeed.{OpenNeed}
use Rattle.clr_ordered_needs.specs.Covers.{AreCovered, EachHasCover}
use Rattle.clr_ordered_needs.specs.Helpers.{IsHelper}
use Rattle.clr_ordered_needs.specs.States.{IsBrokenWith, IsOpen}
use Rattle.clr_ordered_needs.specs.Turns.{Order, ListsAll, is_earlier}
use Rattle.clr_order_answers.specs.declared.pairs.Pair.{Pair}
use Rattle.clr_order_answers.specs.Answers.{AreFewLeft, IsCause, IsLargeKnotLeft}
use Rattle.clr_open_needs.specs.declared.listing.OpenNeeds.{OpenNeeds}
use Rattle.clr_open_needs.specs.OpenNeeds.{AreOpenNeeds, IsHelperOf, IsOpenNeed}
use Rattle.clr_scene_orders.specs.declared.scene_orders.SceneOrder.{SceneOrder}
use Rattle.clr_scene_orders.specs.declared.scene_orders.SceneOrder.TheVariants as scene_order

-- a pair says that the one goes before the other
abbrev pub order_by : List Pair → Order ℕ
order_by pairs x y = list_any (λ p. (p.earlier == x) && (p.later == y)) pairs

-- some entries cover each touched need where the first of each pair goes before the second
abbrev pub AreCoveredBy : Setting ℕ → List Pair → Type 0
AreCoveredBy c pairs = (entries : List Entry) × AreCovered (order_by pairs) c entries

-- a list of all members in which the first of each pair stands before the second; under the pairs each touched need is covered, and without any of them
-- one isn't
pub record IsOrderBy (c : Setting ℕ) (order : List ℕ) (pairs : List Pair) : Type 0 where
  pub lists : ListsAll c order
  pub in_order : (x y : ℕ) → order_by pairs x y ≡ true → is_earlier c.same order x y ≡ true
  pub covered : AreCoveredBy c pairs
  pub needed : (firsts : List Pair) (pair : Pair) (others : List Pair) → pairs ≡ firsts ++ pair ∷ others → ¬ (EachHasCover (order_by (firsts ++ others)) c)

-- no member helps the need
abbrev pub IsUnhelped : Setting ℕ → Need → Type 0
IsUnhelped c n = (x : ℕ) → ¬ (IsHelperOf c n x)

-- the least open need that no member helps, and exactly the members that block it
pub record IsFinal (c : Setting ℕ) (n : Need) (members : List ℕ) : Type 0 where
  pub is_open : IsOpenNeed c n
  pub blockers : Blocks c n members
  pub unhelped : IsUnhelped c n
  pub least : (m : Need) → need_cmp m n ≡ Less → IsOpenNeed c m → ¬ (IsUnhelped c m)

-- some first members of a list break an open need
abbrev pub IsBrokenOnTheWay : Setting ℕ → List ℕ → Type 0
IsBrokenOnTheWay c order = (k : ℕ) × (n : Need) × (a : Lived ℕ) × (b : Option (Lived ℕ)) × IsOpen c n a b × IsBrokenWith c n a b (take k order)

-- each list of all members breaks an open need on the way
abbrev pub EachListBreaks : Setting ℕ → Type 0
EachListBreaks c = (order : List ℕ) → ListsAll c order → IsBrokenOnTheWay c order

-- members help each open need
abbrev pub AreHelped : Setting ℕ → Type 0
AreHelped c = (n : Need) → IsOpenNeed c n → ¬ (IsUnhelped c n)

-- what is left of the open needs, once members that block none went first and members that help none last, has no knot that is too large
abbrev pub AreKnotsFew : Setting ℕ → Type 0
AreKnotsFew c = (found : OpenNeeds) × AreOpenNeeds c found × (left : List OpenNeed) × AreFewLeft found.sides.items left

-- why no order works, by the open needs: members wait for one another; or none do, and a knot of what is left has no order
abbrev pub AreStuck : Setting ℕ → List ℕ → Type 0
AreStuck c members = (found : OpenNeeds) × AreOpenNeeds c found × IsCause found.sides.items (length c.members) members

-- no members wait for one another, and these are a knot of what is left that has more members than are searched
abbrev pub AreTooMany : Setting ℕ → List ℕ → Type 0
AreTooMany c members = (found : OpenNeeds) × AreOpenNeeds c found × IsLargeKnotLeft found.sides.items (length c.members) members

-- the least open need that no member helps; or else an order with its pairs, where no knot is too large; or that there is none, and the members that show it;
-- or a knot that is too large
abbrev pub IsSceneOrder : Setting ℕ → SceneOrder → Type 0
IsSceneOrder c (scene_order.Order order pairs) = AreHelped c × AreKnotsFew c × IsOrderBy c order.items pairs.items
IsSceneOrder c (scene_order.Final need members) = IsFinal c need members.items
IsSceneOrder c (scene_order.Stuck members) = AreHelped c × AreStuck c members.items × EachListBreaks c
IsSceneOrder c (scene_order.TooMany members) = AreHelped c × AreTooMany c members.items

-- the open need at a place, with the members that block it
abbrev pub IsFinalAt : OpenNeeds → ℕ → SceneOrder → Type 0
IsFinalAt found at (scene_order.Final need members) = (sides : OpenNeed) × (slice_get found.needs.items at ≡ Some need)
    × (slice_get found.sides.items at ≡ Some sides) × (members.items ≡ sides.blockers.items)
IsFinalAt found at _ = ⊥
