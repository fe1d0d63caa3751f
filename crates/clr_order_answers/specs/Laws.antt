-- What pairs and needs without helpers say of every order.
use Rattle.std.specs.Prelude.{◌≡◌, ℕ, ◌<◌, true, List, [], Some, slice_get}
use Rattle.clr_order_search.specs.declared.open_needs.OpenNeed.{OpenNeed}
use Rattle.clr_order_search.specs.OpenNeeds.{has}
use Rattle.clr_order_search.specs.Orders.{IsOrder, NoneWorks, Works}
use Rattle.clr_order_answers.specs.declared.pairs.Pair.{Pair}
use Rattle.clr_order_answers.specs.Pairs.{AreInOrder, are_served}

-- where each need is served by one of some pairs, each order works in which the first of each pair stands before the second
abbrev pub KeptPairsLaw : Type 0
KeptPairsLaw = (needs : List OpenNeed) (pairs : List Pair) (count : ℕ) (order : List ℕ) → are_served pairs needs ≡ true → IsOrder count order
    → AreInOrder order pairs → Works needs order

-- where only members block a need and none helps it, no order works
abbrev pub UnhelpedLaw : Type 0
UnhelpedLaw = (needs : List OpenNeed) (count : ℕ) (need : OpenNeed) (at : ℕ) → slice_get needs at ≡ Some need
    → ((m : ℕ) → has need.blockers.items m ≡ true → m < count) → need.helpers.items ≡ [] → NoneWorks needs count
