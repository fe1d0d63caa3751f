-- Touched needs that nothing covers in every order, with exactly the members that block each and those that help it.
use Rattle.std.specs.Prelude.{ℕ, Bool, true, false, ◌⊎◌, List, [], ◌∷◌, Option, Some, ⊤, Contains}
use Rattle.std.specs.Ordering.{nat_cmp}
use Rattle.clr_needs.specs.declared.needs.Need.{Need}
use Rattle.clr_needs.specs.declared.needs.VersionId.{VersionId}
use Rattle.clr_needs.specs.Covers.{IsUncoveredNeed}
use Rattle.clr_needs.specs.Needs.{AreTouchedNeeds, IsPossible, IsTouched, Lists}
use Rattle.clr_needs.specs.Orders.{need_cmp}
use Rattle.clr_needs.specs.Picks.{Blocks, Picks}
use Rattle.clr_needs.specs.Settings.{Setting, Lived}
use Rattle.clr_ordered_needs.specs.Helpers.{IsHelper}
use Rattle.clr_order_search.specs.declared.open_needs.OpenNeed.{OpenNeed}
use Rattle.clr_open_needs.specs.declared.listing.OpenNeeds.{OpenNeeds}

-- the member helps the possible need
abbrev pub IsHelperOf : Setting ℕ → Need → ℕ → Type 0
IsHelperOf c n x = (a : Lived ℕ) × (b : Option (Lived ℕ)) × IsPossible c n a b × IsHelper c n a b x

abbrev pub IsToldHelper : Setting ℕ → Need → ℕ → Bool → Type 0
IsToldHelper c n x true = IsHelperOf c n x
IsToldHelper c n x false = ¬ (IsHelperOf c n x)

-- exactly the members that help the need, ascending
abbrev pub Helps : Setting ℕ → Need → List ℕ → Type 0
Helps c n list = (a : Lived ℕ) (b : Option (Lived ℕ)) → IsPossible c n a b → Lists nat_cmp (IsHelper c n a b) list

-- a touched need that nothing covers in every order
pub record IsOpenNeed (c : Setting ℕ) (n : Need) : Type 0 where
  pub touched : IsTouched c n
  pub uncovered : IsUncoveredNeed c n

-- exactly the blockers of the need, and exactly its helpers
pub record HasSides (c : Setting ℕ) (n : Need) (sides : OpenNeed) : Type 0 where
  pub blockers : Blocks c n sides.blockers.items
  pub helpers : Helps c n sides.helpers.items

-- for each need, at the same place, its blockers and helpers
abbrev pub AreSidesOf : Setting ℕ → List Need → List OpenNeed → Type 0
AreSidesOf c [] [] = ⊤
AreSidesOf c (n ∷ ns) (sides ∷ others) = HasSides c n sides × AreSidesOf c ns others
AreSidesOf c _ _ = ⊥

-- witnesses are picked for the need
abbrev pub IsPicked : Setting ℕ → Need → Type 0
IsPicked c n = (p : VersionId × Option VersionId) × Picks c n (Some p)

-- exactly the open needs, ascending, each once, and exactly the blockers and the helpers of each; for each other touched need witnesses are picked
pub record AreOpenNeeds (c : Setting ℕ) (found : OpenNeeds) : Type 0 where
  pub needs : Lists need_cmp (IsOpenNeed c) found.needs.items
  pub sides : AreSidesOf c found.needs.items found.sides.items
  pub told : (n : Need) → IsTouched c n → Contains found.needs.items n ⊎ IsPicked c n

-- the touched needs can be listed
abbrev pub AreTouchedListed : Setting ℕ → Type 0
AreTouchedListed c = (ns : List Need) × AreTouchedNeeds c ns
