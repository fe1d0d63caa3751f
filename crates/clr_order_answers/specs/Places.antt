-- The first and the last of some members in an order.
use Rattle.std.specs.Prelude.{◌≡◌, ℕ, ◌≤◌, true, false, List, Some, slice_get}
use Rattle.clr_order_search.specs.OpenNeeds.{has}

-- no member of the order is one of some
abbrev pub IsNoneAmong : List ℕ → List ℕ → Type 0
IsNoneAmong members order = (j x : ℕ) → slice_get order j ≡ Some x → has members x ≡ false

-- the first of some members in the order
pub record IsFirstAmong (members order : List ℕ) (m : ℕ) : Type 0 where
  pub among : has members m ≡ true
  pub place : ℕ
  pub there : slice_get order place ≡ Some m
  pub first : (j x : ℕ) → slice_get order j ≡ Some x → has members x ≡ true → place ≤ j

-- the last of some members in the order
pub record IsLastAmong (members order : List ℕ) (m : ℕ) : Type 0 where
  pub among : has members m ≡ true
  pub place : ℕ
  pub there : slice_get order place ≡ Some m
  pub last : (j x : ℕ) → slice_get order j ≡ Some x → has members x ≡ true → j ≤ place
