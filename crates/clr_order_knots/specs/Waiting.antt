-- Members of whom each waits for others of them.
use Rattle.std.specs.Prelude.{◌≡◌, ℕ, Bool, true, ◌==◌, ◌&&◌, List, get_or}
use Rattle.std.specs.List.{list_all, list_any}
use Rattle.clr_order_search.specs.declared.open_needs.OpenNeed.{OpenNeed}
use Rattle.clr_order_search.specs.Laws.{Waits}
use Rattle.clr_order_search.specs.OpenNeeds.{has}
use Rattle.clr_order_knots.specs.Members.{AreOnce}

-- each of the members alone blocks a need that only others of them help
abbrev pub AreWaiting : List OpenNeed → ℕ → List ℕ → Type 0
AreWaiting needs count members = (m : ℕ) → has members m ≡ true → Waits needs count members m

-- the greatest set of members of whom each waits for others of them
pub record IsWaitingSet (needs : List OpenNeed) (count : ℕ) (members : List ℕ) : Type 0 where
  pub waiting : AreWaiting needs count members
  pub greatest : (others : List ℕ) → AreWaiting needs count others → (m : ℕ) → has others m ≡ true → has members m ≡ true
  pub once : AreOnce members

-- how it is found ---------------------------------------------------------------------------------------------

-- all members of a list are one
abbrev pub are_one : List ℕ → Bool
are_one members = list_all (λ m. m == get_or members 0 0) members

-- one member alone blocks the need, and all who help it pass a test
abbrev pub makes_wait : (ℕ → Bool) → OpenNeed → Bool
makes_wait test need = are_one need.blockers.items && list_all test need.helpers.items

-- the member alone blocks a need that only members help who pass a test
abbrev pub waits_for : List OpenNeed → (ℕ → Bool) → ℕ → Bool
waits_for needs test m = list_any (λ need. makes_wait test need && has need.blockers.items m) needs
