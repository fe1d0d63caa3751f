-- Open needs that are found one after another.
use Rattle.std.specs.Prelude.{◌≡◌, ◌⊎◌, ℕ, [], ◌∷◌, ◌++◌, Option, Some, None}
use Rattle.clr_needs.specs.declared.needs.Need.{Need}
use Rattle.clr_needs.specs.declared.needs.VersionId.{VersionId}
use Rattle.clr_needs.specs.Picks.{Picks}
use Rattle.clr_needs.specs.Settings.{Setting}
use Rattle.clr_order_search.specs.declared.open_needs.OpenNeed.{OpenNeed}
use Rattle.clr_open_needs.specs.declared.listing.OpenNeeds.{OpenNeeds}
use Rattle.clr_open_needs.specs.OpenNeeds.{HasSides}

-- the need is put behind the others with its blockers and helpers
pub record PutsNeed (c : Setting ℕ) (n : Need) (old new : OpenNeeds) : Type 0 where
  pub put : OpenNeed
  pub has_sides : HasSides c n put
  pub needs : new.needs.items ≡ old.needs.items ++ n ∷ []
  pub sides : new.sides.items ≡ old.sides.items ++ put ∷ []

-- one more need: nothing changes where witnesses are picked for it; else it is put behind the others
abbrev pub AddsNeed : Setting ℕ → Need → OpenNeeds → OpenNeeds → Type 0
AddsNeed c n old new = ((p : VersionId × Option VersionId) × Picks c n (Some p) × (new ≡ old)) ⊎ (Picks c n None × PutsNeed c n old new)
