-- What a search finds in a knot.
use Rattle.std.specs.Prelude.{◌≡◌, ℕ, ◌<◌, ◌≤◌, true, List, ◌++◌, length}
use Rattle.clr_order_search.specs.declared.limits.TheConstants.{MOST_SEARCHED}
use Rattle.clr_order_search.specs.declared.open_needs.OpenNeed.{OpenNeed}
use Rattle.clr_order_search.specs.declared.searches.OrderSearch.{OrderSearch}
use Rattle.clr_order_search.specs.declared.searches.OrderSearch.TheVariants as search
use Rattle.clr_order_search.specs.OpenNeeds.{has}
use Rattle.clr_order_search.specs.Orders.{NoneWorks}
use Rattle.clr_order_knots.specs.declared.knots.Knot.{Knot}
use Rattle.clr_order_knots.specs.declared.peeling.Peeled.{Peeled}
use Rattle.clr_order_knots.specs.Members.{AreOnce, is_concerned, needs_at}
use Rattle.clr_order_knots.specs.Peeling.{AreHelpedInTime}

-- the needs inside concern exactly these members, each once
pub record IsSearchable (needs : List OpenNeed) (count : ℕ) (knot : Knot) : Type 0 where
  pub members : (m : ℕ) → has knot.members.items m ≡ is_concerned (needs_at needs knot.inside.items) m
  pub below : (m : ℕ) → has knot.members.items m ≡ true → m < count
  pub once : AreOnce knot.members.items
  pub short : length knot.members.items ≤ count

-- an order of the members of the knot that helps its needs in time
pub record IsKnotOrder (needs : List OpenNeed) (knot : Knot) (order : List ℕ) : Type 0 where
  pub those : (m : ℕ) → has order m ≡ has knot.members.items m
  pub once : AreOnce order
  pub helped : AreHelpedInTime order (needs_at needs knot.inside.items)

-- such an order, or none works for the needs of the knot, where its members are searched; or they are too many
abbrev pub IsFoundIn : List OpenNeed → ℕ → Knot → OrderSearch → Type 0
IsFoundIn needs count knot (search.Found order) = IsKnotOrder needs knot order.items
IsFoundIn needs count knot search.NoneWorks = NoneWorks (needs_at needs knot.inside.items) count
IsFoundIn needs count knot search.TooMany = MOST_SEARCHED < length knot.members.items

-- the knot's order is put behind those that go first, and the needs outside it are left
pub record PutsKnot (order outside : List ℕ) (old new : Peeled) : Type 0 where
  pub firsts : new.firsts.items ≡ old.firsts.items ++ order
  pub lasts : new.lasts ≡ old.lasts
  pub left : new.left.items ≡ outside
