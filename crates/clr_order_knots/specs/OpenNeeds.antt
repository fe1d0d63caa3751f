-- Needs of the members below a number.
use Rattle.std.specs.Prelude.{◌≡◌, ℕ, ◌<◌, true, List, Some, slice_get}
use Rattle.clr_order_search.specs.declared.open_needs.OpenNeed.{OpenNeed}
use Rattle.clr_order_search.specs.OpenNeeds.{has}

-- no helper of the need is a blocker
abbrev pub AreSidesApart : OpenNeed → Type 0
AreSidesApart need = (m : ℕ) → has need.helpers.items m ≡ true → has need.blockers.items m ≡ true → ⊥

-- all blockers and helpers are below a number, none is both, and there is a blocker
pub record IsWithin (count : ℕ) (need : OpenNeed) : Type 0 where
  pub blockers : (m : ℕ) → has need.blockers.items m ≡ true → m < count
  pub helpers : (m : ℕ) → has need.helpers.items m ≡ true → m < count
  pub apart : AreSidesApart need
  pub blocked : (m : ℕ) × (has need.blockers.items m ≡ true)

abbrev pub AreWithin : List OpenNeed → ℕ → Type 0
AreWithin needs count = (need : OpenNeed) (at : ℕ) → slice_get needs at ≡ Some need → IsWithin count need

-- each need has a helper
abbrev pub AreHelped : List OpenNeed → Type 0
AreHelped needs = (need : OpenNeed) (at : ℕ) → slice_get needs at ≡ Some need → (m : ℕ) × (has need.helpers.items m ≡ true)
