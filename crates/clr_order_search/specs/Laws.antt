-- What orders that work are, by needs; members of whom none can be the first, and members of whom none can be the last.
use Rattle.std.specs.Prelude.{◌≡◌, ◌↔◌, ℕ, ◌<◌, ◌≤◌, true, false, List, Some, slice_get}
use Rattle.clr_order_search.specs.declared.open_needs.OpenNeed.{OpenNeed}
use Rattle.clr_order_search.specs.OpenNeeds.{has}
use Rattle.clr_order_search.specs.Orders.{IsOrder, NoneWorks, Works}

-- a helper of the need stands in the order before one of its blockers, or is one of them
pub record IsHelpedInTime (order : List ℕ) (need : OpenNeed) : Type 0 where
  pub helper : ℕ
  pub blocker : ℕ
  pub helps : has need.helpers.items helper ≡ true
  pub blocks : has need.blockers.items blocker ≡ true
  pub early : ℕ
  pub late : ℕ
  pub helper_at : slice_get order early ≡ Some helper
  pub blocker_at : slice_get order late ≡ Some blocker
  pub in_time : early ≤ late

-- an order of all members works exactly where each need that only members block is helped in time
abbrev pub HelpLaw : Type 0
HelpLaw = (needs : List OpenNeed) (count : ℕ) (order : List ℕ) → IsOrder count order
    → Works needs order ↔ ((need : OpenNeed) (at : ℕ) → slice_get needs at ≡ Some need
    → ((x : ℕ) → has need.blockers.items x ≡ true → x < count) → IsHelpedInTime order need)

-- the member alone breaks a need that only others of some members help
pub record Waits (needs : List OpenNeed) (count : ℕ) (members : List ℕ) (m : ℕ) : Type 0 where
  pub below : m < count
  pub need : OpenNeed
  pub at : ℕ
  pub is_need : slice_get needs at ≡ Some need
  pub alone : (x : ℕ) → has need.blockers.items x ≡ true → x ≡ m
  pub helpers : (x : ℕ) → has need.helpers.items x ≡ true → has members x ≡ true
  pub no_helper : has need.helpers.items m ≡ false

-- where each of some members waits for others of them, and there is one, no order works: whoever of them comes first breaks its need
abbrev pub WaitingLaw : Type 0
WaitingLaw = (needs : List OpenNeed) (count : ℕ) (members : List ℕ) (w : ℕ) → has members w ≡ true
    → ((m : ℕ) → has members m ≡ true → Waits needs count members m) → NoneWorks needs count

-- the member alone helps a need that only others of some members block
pub record Trails (needs : List OpenNeed) (count : ℕ) (members : List ℕ) (m : ℕ) : Type 0 where
  pub below : m < count
  pub need : OpenNeed
  pub at : ℕ
  pub is_need : slice_get needs at ≡ Some need
  pub alone : (x : ℕ) → has need.helpers.items x ≡ true → x ≡ m
  pub blockers : (x : ℕ) → has need.blockers.items x ≡ true → has members x ≡ true
  pub no_blocker : has need.blockers.items m ≡ false

-- where each of some members helps others of them alone, and there is one, no order works: before the last of them comes, its need is broken
abbrev pub TrailingLaw : Type 0
TrailingLaw = (needs : List OpenNeed) (count : ℕ) (members : List ℕ) (w : ℕ) → has members w ≡ true
    → ((m : ℕ) → has members m ≡ true → Trails needs count members m) → NoneWorks needs count
