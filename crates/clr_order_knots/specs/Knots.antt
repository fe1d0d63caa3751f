-- Knots: members that needs join.
use Rattle.std.specs.Prelude.{◌≡◌, ◌⊎◌, ℕ, ◌<◌, ◌≤◌, Bool, true, false, not, List, ◌++◌, Contains, length}
use Rattle.std.specs.List.{filter, list_any}
use Rattle.clr_order_search.specs.declared.limits.TheConstants.{MOST_SEARCHED}
use Rattle.clr_order_search.specs.declared.open_needs.OpenNeed.{OpenNeed}
use Rattle.clr_order_search.specs.OpenNeeds.{has}
use Rattle.clr_order_knots.specs.declared.knots.Knot.{Knot}
use Rattle.clr_order_knots.specs.Members.{AreOnce, ArePlaces, concerns, is_concerned, needs_at}
use Rattle.clr_order_knots.specs.Peeling.{AreAmong}
use Rattle.clr_order_knots.specs.Places.{reaches}

-- a need that concerns one of the members concerns only members
abbrev pub IsClosed : List OpenNeed → List ℕ → Type 0
IsClosed needs members = (need : OpenNeed) (m x : ℕ) → Contains needs need → has members m ≡ true → concerns m need ≡ true → concerns x need ≡ true
    → has members x ≡ true

-- members whom needs concern and join, and no others: a closed set that has one of them has all
pub record IsKnot (needs : List OpenNeed) (members : List ℕ) : Type 0 where
  pub some : (m : ℕ) × (has members m ≡ true)
  pub once : AreOnce members
  pub concerned : (m : ℕ) → has members m ≡ true → is_concerned needs m ≡ true
  pub closed : IsClosed needs members
  pub joined : (others : List ℕ) (m : ℕ) → IsClosed needs others → has others m ≡ true → has members m ≡ true → (x : ℕ) → has members x ≡ true
      → has others x ≡ true

-- a knot of more members than are searched
abbrev pub IsLargeKnot : List OpenNeed → List ℕ → Type 0
IsLargeKnot needs members = IsKnot needs members × (MOST_SEARCHED < length members)

-- the member is in a knot of no more members than are searched
pub record IsInSmallKnot (needs : List OpenNeed) (m : ℕ) : Type 0 where
  pub members : List ℕ
  pub knot : IsKnot needs members
  pub there : has members m ≡ true
  pub small : length members ≤ MOST_SEARCHED

-- no knot has more members than are searched
abbrev pub AreKnotsSmall : List OpenNeed → Type 0
AreKnotsSmall needs = (m : ℕ) → is_concerned needs m ≡ true → IsInSmallKnot needs m

-- the needs that concern one of some members
abbrev pub needs_of : List OpenNeed → List ℕ → List OpenNeed
needs_of needs members = filter (λ need. list_any (λ m. concerns m need) members) needs

-- some needs of all, such that a need that concerns one of their members is one of them
pub record IsPart (needs part : List OpenNeed) : Type 0 where
  pub among : AreAmong part needs
  pub whole : (need : OpenNeed) (m : ℕ) → Contains needs need → concerns m need ≡ true → is_concerned part m ≡ true → Contains part need

-- a knot, with its needs and the others
pub record IsKnotOf (needs : List OpenNeed) (count : ℕ) (left : List ℕ) (knot : Knot) : Type 0 where
  pub is_knot : IsKnot (needs_at needs left) knot.members.items
  pub below : (m : ℕ) → has knot.members.items m ≡ true → m < count
  pub short : length knot.members.items ≤ count
  pub members : (m : ℕ) → has knot.members.items m ≡ is_concerned (needs_at needs knot.inside.items) m
  pub inside : AreAmong (needs_at needs knot.inside.items) (needs_at needs left)
  pub outside : AreAmong (needs_at needs knot.outside.items) (needs_at needs left)
  pub every : (need : OpenNeed) → Contains (needs_at needs left) need → Contains (needs_at needs knot.inside.items) need
      ⊎ Contains (needs_at needs knot.outside.items) need
  pub apart : (m : ℕ) → is_concerned (needs_at needs knot.inside.items) m ≡ true → is_concerned (needs_at needs knot.outside.items) m ≡ false
  pub fewer : length knot.outside.items < length left
  pub places : ArePlaces needs knot.outside.items

-- how it is found ---------------------------------------------------------------------------------------------

-- the need concerns a member whom some needs concern
abbrev pub touches : List OpenNeed → OpenNeed → Bool
touches needs need = reaches (is_concerned needs) need

-- the needs outside that touch those inside are put inside, and fewer are outside
pub record Absorbs (needs : List OpenNeed) (inside outside more others : List ℕ) : Type 0 where
  pub touching : List ℕ
  pub put : more ≡ inside ++ touching
  pub touch : needs_at needs touching ≡ filter (touches (needs_at needs inside)) (needs_at needs outside)
  pub rest : needs_at needs others ≡ filter (λ need. not (touches (needs_at needs inside) need)) (needs_at needs outside)
  pub fewer : length others < length outside
  pub among : (at : ℕ) → has others at ≡ true → has outside at ≡ true

-- no need outside touches those inside
abbrev pub NoneTouches : List OpenNeed → List ℕ → List ℕ → Type 0
NoneTouches needs inside outside = (need : OpenNeed) → Contains (needs_at needs outside) need → touches (needs_at needs inside) need ≡ false

-- either some are absorbed, or nothing changes since none touches those inside
abbrev pub AbsorbsIfAny : List OpenNeed → List ℕ → List ℕ → List ℕ → List ℕ → Bool → Type 0
AbsorbsIfAny needs inside outside more others true = Absorbs needs inside outside more others
AbsorbsIfAny needs inside outside more others false = (more ≡ inside) × (others ≡ outside) × NoneTouches needs inside outside
