-- What is said of the orders of members, and when.
use Rattle.std.specs.Prelude.{◌≡◌, ◌⊎◌, ℕ, ◌<◌, true, List, [], Some, length, slice_get}
use Rattle.clr_order_search.specs.declared.open_needs.OpenNeed.{OpenNeed}
use Rattle.clr_order_search.specs.OpenNeeds.{has}
use Rattle.clr_order_search.specs.Orders.{IsWorkingOrder, NoneWorks}
use Rattle.clr_order_knots.specs.Knots.{AreKnotsSmall, IsKnot, IsLargeKnot, needs_of}
use Rattle.clr_order_knots.specs.Peeling.{AreLeft}
use Rattle.clr_order_knots.specs.Waiting.{AreWaiting, IsWaitingSet}
use Rattle.clr_order_answers.specs.declared.answers.OrderAnswer.{OrderAnswer}
use Rattle.clr_order_answers.specs.declared.answers.OrderAnswer.TheVariants as answer
use Rattle.clr_order_answers.specs.Pairs.{ArePairsFor}

-- each of the first needs has a helper
abbrev pub AreHelpedTo : List OpenNeed → ℕ → Type 0
AreHelpedTo needs end = (need : OpenNeed) (at : ℕ) → at < end → slice_get needs at ≡ Some need → ¬ (need.helpers.items ≡ [])

-- each need has a helper
abbrev pub AreAllHelped : List OpenNeed → Type 0
AreAllHelped needs = AreHelpedTo needs (length needs)

-- the first need that has no helper stands there
pub record IsUnhelpedAt (needs : List OpenNeed) (at : ℕ) : Type 0 where
  pub need : OpenNeed
  pub there : slice_get needs at ≡ Some need
  pub unhelped : need.helpers.items ≡ []
  pub first : AreHelpedTo needs at

-- an order that works, with the pairs that matter
abbrev pub IsOrdered : List OpenNeed → ℕ → OrderAnswer → Type 0
IsOrdered needs count (answer.Order order pairs) = IsWorkingOrder needs count order.items × ArePairsFor needs order.items pairs.items
IsOrdered needs count _ = ⊥

-- a knot that has no order: each order of all members breaks one of its needs
pub record IsTightKnot (left : List OpenNeed) (count : ℕ) (members : List ℕ) : Type 0 where
  pub knot : IsKnot left members
  pub tight : NoneWorks (needs_of left members) count

-- by the knots of what is left of the needs: an order, a knot that has none, or one that is too large
abbrev pub IsKnotAnswer : List OpenNeed → ℕ → List OpenNeed → OrderAnswer → Type 0
IsKnotAnswer needs count left (answer.Order order pairs) = IsWorkingOrder needs count order.items × ArePairsFor needs order.items pairs.items
IsKnotAnswer needs count left (answer.Final at) = ⊥
IsKnotAnswer needs count left (answer.Stuck members) = IsTightKnot left count members.items × NoneWorks needs count
IsKnotAnswer needs count left (answer.TooMany members) = IsLargeKnot left members.items

-- what is left of the needs has no knot that is too large
pub record AreFewLeft (needs left : List OpenNeed) : Type 0 where
  pub is_left : AreLeft needs left
  pub small : AreKnotsSmall left

-- the members are a knot of what is left that has no order, and none that is left is too large
abbrev pub IsTightKnotLeft : List OpenNeed → ℕ → List ℕ → Type 0
IsTightKnotLeft needs count members = (left : List OpenNeed) × AreFewLeft needs left × IsTightKnot left count members

-- by what is left of the needs: an order, a knot that has none, where none is too large; or one that is
abbrev pub IsLeftAnswer : List OpenNeed → ℕ → OrderAnswer → Type 0
IsLeftAnswer needs count (answer.Order order pairs) = ((left : List OpenNeed) × AreFewLeft needs left) × IsWorkingOrder needs count order.items
    × ArePairsFor needs order.items pairs.items
IsLeftAnswer needs count (answer.Final at) = ⊥
IsLeftAnswer needs count (answer.Stuck members) = IsTightKnotLeft needs count members.items × NoneWorks needs count
IsLeftAnswer needs count (answer.TooMany members) = (left : List OpenNeed) × AreLeft needs left × IsLargeKnot left members.items

-- no members wait for one another
abbrev pub NoneWait : List OpenNeed → ℕ → Type 0
NoneWait needs count = (members : List ℕ) (m : ℕ) → AreWaiting needs count members → has members m ≡ true → ⊥

-- members that wait for one another: the greatest set of them, and there is one
pub record IsWaitingCause (needs : List OpenNeed) (count : ℕ) (members : List ℕ) : Type 0 where
  pub set : IsWaitingSet needs count members
  pub some : (m : ℕ) × (has members m ≡ true)

-- why no order works: members wait for one another; or none do, and a knot has no order
abbrev pub IsCause : List OpenNeed → ℕ → List ℕ → Type 0
IsCause needs count members = IsWaitingCause needs count members ⊎ (NoneWait needs count × IsTightKnotLeft needs count members)

-- the members are a knot of what is left that is too large, where no members wait for one another
abbrev pub IsLargeKnotLeft : List OpenNeed → ℕ → List ℕ → Type 0
IsLargeKnotLeft needs count members = NoneWait needs count × ((left : List OpenNeed) × AreLeft needs left × IsLargeKnot left members)

-- the first need that no member helps; or else an order that works with the pairs that matter, where what is left has no knot that is too large; or that none
-- works, and the members that show it; or a knot that is too large
abbrev pub IsAnswer : List OpenNeed → ℕ → OrderAnswer → Type 0
IsAnswer needs count (answer.Order order pairs) = AreAllHelped needs × ((left : List OpenNeed) × AreFewLeft needs left) × IsWorkingOrder needs count order.items
    × ArePairsFor needs order.items pairs.items
IsAnswer needs count (answer.Final at) = IsUnhelpedAt needs at
IsAnswer needs count (answer.Stuck members) = AreAllHelped needs × IsCause needs count members.items × NoneWorks needs count
IsAnswer needs count (answer.TooMany members) = AreAllHelped needs × IsLargeKnotLeft needs count members.items
