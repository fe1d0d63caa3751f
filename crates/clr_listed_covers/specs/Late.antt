-- Open needs of which no helper stands before a blocker, in the order of positions.
use Rattle.std.specs.Prelude.{◌≡◌, ℕ, suc, ◌<◌, nat_lt, Bool, true, false, ◌⊎◌, List, [], Some, slice_get}
use Rattle.std.specs.List.{list_any}
use Rattle.clr_order_search.specs.declared.open_needs.OpenNeed.{OpenNeed}
use Rattle.clr_order_search.specs.OpenNeeds.{has}

-- a helper stands before a blocker
abbrev pub is_helped_in_list : OpenNeed → Bool
is_helped_in_list need = list_any (λ helper. list_any (nat_lt helper) need.blockers.items) need.helpers.items

-- each of the first needs has a helper that stands before a blocker
abbrev pub AreHelpedInList : List OpenNeed → ℕ → Type 0
AreHelpedInList needs end = (need : OpenNeed) (at : ℕ) → at < end → slice_get needs at ≡ Some need → is_helped_in_list need ≡ true

-- the first need stands there of which no helper stands before a blocker
pub record IsLateAt (needs : List OpenNeed) (at : ℕ) : Type 0 where
  pub need : OpenNeed
  pub there : slice_get needs at ≡ Some need
  pub late : is_helped_in_list need ≡ false
  pub first : AreHelpedInList needs at

-- each of the members stands before the end, and one of them just before it; it is 0 where there is none
pub record IsEndOf (members : List ℕ) (end : ℕ) : Type 0 where
  pub below : (m : ℕ) → has members m ≡ true → m < end
  pub last : ((members ≡ []) × (end ≡ 0)) ⊎ ((m : ℕ) × (has members m ≡ true) × (end ≡ suc m))
