-- Groups of members: no possible need involves members of two.
use Rattle.std.specs.Prelude.{◌≡◌, ◌↔◌, ℕ, true, List, [], ◌∷◌, Some, get_or, slice_get, Contains}
use Rattle.std.specs.List.Sorted.{IsStrictlySortedBy}
use Rattle.std.specs.Ordering.{nat_cmp}
use Rattle.clr_needs.specs.Independence.{AreDependent}
use Rattle.clr_needs.specs.Settings.{Setting, has}

-- the position among all members of the one that stands at a position of a group
abbrev pub position_of : List ℕ → ℕ → ℕ
position_of group k = get_or group k 0

-- chains -------------------------------------------------------------------------------------

-- a chain from one member over others to another, each depending on the next
abbrev pub IsChain : {A : Type 0} → Setting A → A → List A → A → Type 0
IsChain c x [] y = x ≡ y
IsChain c x (z ∷ zs) y = AreDependent c x z × IsChain c z zs y

-- a chain of dependent pairs joins two members
abbrev pub AreJoined : {A : Type 0} → Setting A → A → A → Type 0
AreJoined {A} c x y = (zs : List A) × IsChain c x zs y

-- groups -------------------------------------------------------------------------------------

-- groups ascend and aren't empty, each member stands in one, and two members stand in the same one exactly where a chain of dependent pairs joins them
pub record AreGroups (c : Setting ℕ) (groups : List (List ℕ)) : Type 0 where
  pub ascending : (g : List ℕ) → Contains groups g → IsStrictlySortedBy nat_cmp g
  pub filled : (g : List ℕ) → Contains groups g → (x : ℕ) × Contains g x
  pub members : (g : List ℕ) (x : ℕ) → Contains groups g → Contains g x → has c.same c.members x ≡ true
  pub every : (x : ℕ) → has c.same c.members x ≡ true → (g : List ℕ) × Contains groups g × Contains g x
  pub joined : (i j : ℕ) (g h : List ℕ) (x y : ℕ) → slice_get groups i ≡ Some g → slice_get groups j ≡ Some h → Contains g x → Contains h y
      → (i ≡ j) ↔ AreJoined c x y
