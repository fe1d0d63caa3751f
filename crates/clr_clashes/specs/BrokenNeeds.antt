-- The touched needs that nothing covers, each with the members that break it; and which of them some of the members break alone.
use Rattle.std.specs.Prelude.{◌≡◌, ◌∷◌, ◌++◌, ◌⊎◌, ◌<◌, ℕ, List, [], Option, Some, None, Contains, get_or, length, map}
use Rattle.std.specs.declared.cmp.Ordering.TheVariants.{Less}
use Rattle.clr_needs.specs.declared.needs.Need.{Need}
use Rattle.clr_needs.specs.declared.needs.VersionId.{VersionId}
use Rattle.clr_needs.specs.Needs.{IsTouched, Lists}
use Rattle.clr_needs.specs.Orders.{need_cmp}
use Rattle.clr_needs.specs.Picks.{Blocks, Picks}
use Rattle.clr_needs.specs.Settings.{Setting}
use Rattle.clr_clashes.specs.Clashes.{IsAllIn}
use Rattle.clr_clashes.specs.ListedClashes.{ListedClash, listed_cmp}

-- a touched need without witnesses, and exactly the members that break it, ascending
pub record IsBrokenNeed (c : Setting ℕ) (k : ListedClash) : Type 0 where
  pub touched : IsTouched c k.need
  pub none : Picks c k.need None
  pub blockers : Blocks c k.need k.members

-- all of these, in the order of needs
abbrev pub AreBrokenNeeds : Setting ℕ → List ListedClash → Type 0
AreBrokenNeeds c ks = Lists listed_cmp (IsBrokenNeed c) ks

-- one more need: nothing changes where witnesses are picked for it; else it is added, with the members that break it
abbrev pub AddsBrokenNeed : Setting ℕ → Need → List ListedClash → List ListedClash → Type 0
AddsBrokenNeed c n old new = ((p : VersionId × Option VersionId) × Picks c n (Some p) × (new ≡ old))
    ⊎ ((members : List ℕ) × Picks c n None × Blocks c n members × (new ≡ old ++ (record { members = members; need = n }) ∷ []))

-- some of the members ------------------------------------------------------------------------------

-- the least of some needs of which the members at some positions hold all that break it
pub record IsFirstHeld (ks : List ListedClash) (positions : List ℕ) (k : ListedClash) : Type 0 where
  pub listed : Contains ks k
  pub held : IsAllIn k.members positions
  pub first : (j : ListedClash) → Contains ks j → need_cmp j.need k.need ≡ Less → ¬ (IsAllIn j.members positions)

-- the places of some members in a list of positions
pub record ArePlaces (positions members places : List ℕ) : Type 0 where
  pub stand : map (λ at. get_or positions at 0) places ≡ members
  pub below : (at : ℕ) → Contains places at → at < length positions

-- a broken need, where each lesser touched need has witnesses
pub record IsLeastBroken (c : Setting ℕ) (k : ListedClash) : Type 0 where
  pub broken : IsBrokenNeed c k
  pub first : (m : Need) → need_cmp m k.need ≡ Less → IsTouched c m → (p : VersionId × Option VersionId) × Picks c m (Some p)
