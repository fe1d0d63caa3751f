-- The search: a table tells of each set of members, as the bits of a number, whether these can follow once all others are merged.
use Rattle.std.specs.Prelude.{◌≡◌, ℕ, ◌<◌, ◌≤◌, ◌==◌, nat_lt, Bool, true, false, not, ◌&&◌, ◌||◌, List, Option, Some, None, get_or, length, slice_get, take}
use Rattle.std.specs.Int.{bit_at}
use Rattle.clr_order_search.specs.declared.open_needs.OpenNeed.{OpenNeed}
use Rattle.clr_order_search.specs.OpenNeeds.{breaks_one, has}

-- the bit of the member is set
abbrev pub is_in : ℕ → ℕ → Bool
is_in set m = bit_at set m == 1

-- of the members below a number, those that aren't in a set
abbrev pub outside : ℕ → ℕ → ℕ → Bool
outside count set m = nat_lt m count && not (is_in set m)

-- no member is merged
abbrev pub none_merged : ℕ → Bool
none_merged m = false

-- one member more is merged
abbrev pub and_also : (ℕ → Bool) → ℕ → ℕ → Bool
and_also merged m x = merged x || (m == x)

-- an order of the members that aren't merged yet, in which no need is broken before the first of them or after any
pub record IsRest (needs : List OpenNeed) (count : ℕ) (merged : ℕ → Bool) (rest : List ℕ) : Type 0 where
  pub below : (m : ℕ) → has rest m ≡ true → m < count
  pub fresh : (m : ℕ) → has rest m ≡ true → merged m ≡ false
  pub every : (m : ℕ) → m < count → merged m ≡ false → has rest m ≡ true
  pub once : (j k m : ℕ) → slice_get rest j ≡ Some m → slice_get rest k ≡ Some m → j ≡ k
  pub works : (k : ℕ) → breaks_one needs (λ x. merged x || has (take k rest) x) ≡ false

-- the others can follow in some order
abbrev pub CanFollow : List OpenNeed → ℕ → (ℕ → Bool) → Type 0
CanFollow needs count merged = (rest : List ℕ) × IsRest needs count merged rest

-- the answer of a test is true exactly where the statement holds
abbrev pub IsTestOf : Bool → Type 0 → Type 0
IsTestOf true P = P
IsTestOf false P = ¬ P

-- a table tells of each set below a number whether its members can follow once all others are merged
pub record TellsBelow (needs : List OpenNeed) (count : ℕ) (table : List Bool) (end : ℕ) : Type 0 where
  pub long : end ≤ length table
  pub told : (set : ℕ) → set < end → IsTestOf (get_or table set false) (CanFollow needs count (outside count set))

-- the member is one of those that are left, and the others can follow it
abbrev pub CanBeNext : List OpenNeed → ℕ → ℕ → ℕ → Type 0
CanBeNext needs count left m = (outside count left m ≡ false) × CanFollow needs count (and_also (outside count left) m)

-- the first member that isn't merged and after which the others can follow, if there is one
abbrev pub IsNext : List OpenNeed → ℕ → (ℕ → Bool) → Option ℕ → Type 0
IsNext needs count merged None = (m : ℕ) → m < count → merged m ≡ false → ¬ (CanFollow needs count (and_also merged m))
IsNext needs count merged (Some m) = (m < count) × (merged m ≡ false) × CanFollow needs count (and_also merged m)
    × ((k : ℕ) → k < m → merged k ≡ false → ¬ (CanFollow needs count (and_also merged k)))
