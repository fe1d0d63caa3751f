-- Needs of members that are numbered by their places in a list.
use Rattle.std.specs.Prelude.{◌≡◌, ℕ, true, List, [], ◌∷◌, ◌++◌, Option, None, Some, ⊤, get_or, map, slice_get}
use Rattle.clr_order_search.specs.declared.open_needs.OpenNeed.{OpenNeed}
use Rattle.clr_order_search.specs.OpenNeeds.{has}

-- the places are those of the members in a list
pub record StandFor (list places members : List ℕ) : Type 0 where
  pub only : (place : ℕ) → has places place ≡ true → (m : ℕ) × (slice_get list place ≡ Some m) × (has members m ≡ true)
  pub every : (m : ℕ) → has members m ≡ true → (place : ℕ) × (slice_get list place ≡ Some m) × (has places place ≡ true)

-- the members of the need are in a list
pub record IsAmong (list : List ℕ) (need : OpenNeed) : Type 0 where
  pub blockers : (m : ℕ) → has need.blockers.items m ≡ true → has list m ≡ true
  pub helpers : (m : ℕ) → has need.helpers.items m ≡ true → has list m ≡ true

abbrev pub AreNumberedBy : List ℕ → List OpenNeed → Type 0
AreNumberedBy list needs = (need : OpenNeed) (at : ℕ) → slice_get needs at ≡ Some need → IsAmong list need

-- the need with its members numbered by their places
pub record IsRenumbered (list : List ℕ) (need new : OpenNeed) : Type 0 where
  pub blockers : StandFor list new.blockers.items need.blockers.items
  pub helpers : StandFor list new.helpers.items need.helpers.items

-- each of the needs with its members numbered by their places
abbrev pub AreRenumbered : List ℕ → List OpenNeed → List OpenNeed → Type 0
AreRenumbered list [] [] = ⊤
AreRenumbered list (need ∷ needs) (new ∷ news) = IsRenumbered list need new × AreRenumbered list needs news
AreRenumbered list _ _ = ⊥

-- the need, if there is one, is put behind others with its members numbered
abbrev pub AddsRenumbered : List ℕ → Option OpenNeed → List OpenNeed → List OpenNeed → Type 0
AddsRenumbered list None old new = new ≡ old
AddsRenumbered list (Some need) old new = (other : OpenNeed) × IsRenumbered list need other × (new ≡ old ++ other ∷ [])

-- the members at some places of a list
abbrev pub members_at : List ℕ → List ℕ → List ℕ
members_at list places = map (λ place. get_or list place 0) places
