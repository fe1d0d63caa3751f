-- What can be said of a setting whose members are merged in the order of their positions.
use Rattle.std.specs.Prelude.{◌≡◌, ℕ, suc, ◌<◌, nat_lt, true, List, ◌∷◌, ◌++◌, Option, Some, Contains, slice_get}
use Rattle.std.specs.List.{range_with_len}
use Rattle.std.specs.declared.cmp.Ordering.TheVariants.{Less}
use Rattle.clr_cert.specs.declared.certificates.Entry.{Entry}
use Rattle.clr_needs.specs.declared.needs.Need.{Need}
use Rattle.clr_needs.specs.Covers.{IsBlocker}
use Rattle.clr_needs.specs.Needs.{IsPossible, IsTouchedBy}
use Rattle.clr_needs.specs.Orders.{need_cmp}
use Rattle.clr_needs.specs.Settings.{Setting, Lived, has}
use Rattle.clr_ordered_needs.specs.Covers.{EachHasCover, HasCover, IsUncovered}
use Rattle.clr_ordered_needs.specs.States.{IsBrokenWith}
use Rattle.clr_ordered_needs.specs.Turns.{Order}
use Rattle.clr_order_answers.specs.declared.pairs.Pair.{Pair}
use Rattle.clr_order_search.specs.declared.open_needs.OpenNeed.{OpenNeed}
use Rattle.clr_open_needs.specs.declared.listing.OpenNeeds.{OpenNeeds}
use Rattle.clr_scene_orders.specs.SceneOrders.{order_by}
use Rattle.clr_listed_covers.specs.declared.listed_covers.ListedCover.{ListedCover}
use Rattle.clr_listed_covers.specs.declared.listed_covers.ListedCover.TheVariants as listed
use Rattle.clr_listed_covers.specs.Entries.{AreEntriesUnder}
use Rattle.clr_listed_covers.specs.Late.{IsEndOf}

-- both are members, and the first stands before the second
pub record StandsAsListed (c : Setting ℕ) (p : Pair) : Type 0 where
  pub earlier : has c.same c.members p.earlier ≡ true
  pub later : has c.same c.members p.later ≡ true
  pub in_order : p.earlier < p.later

-- whoever goes before another does so by a pair
abbrev pub IsSaidBy : Order ℕ → List Pair → Type 0
IsSaidBy before pairs = (x y : ℕ) → before x y ≡ true → order_by pairs x y ≡ true

-- pairs that stand as listed, and entries that cover wherever they are kept; by the pairs without any one of them not every touched need is covered
pub record IsCoveredAsListed (c : Setting ℕ) (pairs : List Pair) (entries : List Entry) : Type 0 where
  pub listed : (p : Pair) → Contains pairs p → StandsAsListed c p
  pub under : AreEntriesUnder c pairs entries
  pub needed : (firsts : List Pair) (p : Pair) (others : List Pair) → pairs ≡ firsts ++ p ∷ others → (before : Order ℕ) → IsSaidBy before (firsts ++ others)
      → ¬ (EachHasCover before c)

-- the least touched need that nothing covers where each member goes before those behind it: so many first members break it, the last of whom blocks it
pub record IsBrokenAsListed (c : Setting ℕ) (n : Need) (count : ℕ) : Type 0 where
  pub first : Lived ℕ
  pub second : Option (Lived ℕ)
  pub uncovered : IsUncovered nat_lt c n first second
  pub least : (m : Need) (d : Lived ℕ) (e : Option (Lived ℕ)) → need_cmp m n ≡ Less → IsPossible c m d e → IsTouchedBy c m d e → HasCover nat_lt c m d e
  pub last : ℕ
  pub ends : count ≡ suc last
  pub blocks : IsBlocker c n first second last
  pub broken : IsBrokenWith c n first second (range_with_len 0 count)

abbrev pub IsListedCover : Setting ℕ → ListedCover → Type 0
IsListedCover c (listed.Covered pairs entries) = IsCoveredAsListed c pairs.items entries
IsListedCover c (listed.Broken need count) = IsBrokenAsListed c need count

-- the open need at a place, with the end of the members that block it
abbrev pub IsBrokenAt : OpenNeeds → ℕ → ListedCover → Type 0
IsBrokenAt found at (listed.Broken need count) = (sides : OpenNeed) × (slice_get found.needs.items at ≡ Some need)
    × (slice_get found.sides.items at ≡ Some sides) × IsEndOf sides.blockers.items count
IsBrokenAt found at _ = ⊥
