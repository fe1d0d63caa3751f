-- Orders in which all members are merged one after another, and which of them work.
use Rattle.std.specs.Prelude.{◌≡◌, ℕ, suc, ◌<◌, ◌≤◌, true, false, List, [], ◌∷◌, ◌++◌, Some, slice_get, take}
use Rattle.clr_order_search.specs.declared.limits.TheConstants.{MOST_SEARCHED}
use Rattle.clr_order_search.specs.declared.open_needs.OpenNeed.{OpenNeed}
use Rattle.clr_order_search.specs.declared.searches.OrderSearch.{OrderSearch}
use Rattle.clr_order_search.specs.declared.searches.OrderSearch.TheVariants as search
use Rattle.clr_order_search.specs.OpenNeeds.{breaks_one, has}

-- the members below a number, each of them once
pub record IsOrder (count : ℕ) (order : List ℕ) : Type 0 where
  pub below : (m : ℕ) → has order m ≡ true → m < count
  pub every : (m : ℕ) → m < count → has order m ≡ true
  pub once : (j k m : ℕ) → slice_get order j ≡ Some m → slice_get order k ≡ Some m → j ≡ k

-- no need is broken before the first merge, or after any
abbrev pub Works : List OpenNeed → List ℕ → Type 0
Works needs order = (k : ℕ) → breaks_one needs (has (take k order)) ≡ false

pub record IsWorkingOrder (needs : List OpenNeed) (count : ℕ) (order : List ℕ) : Type 0 where
  pub is_order : IsOrder count order
  pub works : Works needs order

-- of the orders that work the first, by the numbers of members: none begins like it and goes on with a lesser one
pub record IsFirstOrder (needs : List OpenNeed) (count : ℕ) (order : List ℕ) : Type 0 where
  pub working : IsWorkingOrder needs count order
  pub first : (k m x : ℕ) (other : List ℕ) → slice_get order k ≡ Some x → m < x → IsWorkingOrder needs count other
      → ¬ (take (suc k) other ≡ take k order ++ m ∷ [])

-- each order breaks a need on the way
abbrev pub NoneWorks : List OpenNeed → ℕ → Type 0
NoneWorks needs count = (order : List ℕ) → IsOrder count order → (k : ℕ) × (breaks_one needs (has (take k order)) ≡ true)

-- among the orders of no more members than are searched the first that works, or none does; or there are more members
abbrev pub IsSearched : List OpenNeed → ℕ → OrderSearch → Type 0
IsSearched needs count (search.Found order) = (count ≤ MOST_SEARCHED) × IsFirstOrder needs count order.items
IsSearched needs count search.NoneWorks = (count ≤ MOST_SEARCHED) × NoneWorks needs count
IsSearched needs count search.TooMany = MOST_SEARCHED < count
