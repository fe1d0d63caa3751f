-- Members that may go first and members that may go last, and the needs that are left without them.
use Rattle.std.specs.Prelude.{◌≡◌, ℕ, ◌<◌, Bool, true, false, not, ◌&&◌, ◌||◌, List, ◌++◌, Contains, slice_get, Some, length}
use Rattle.std.specs.List.{filter, list_all}
use Rattle.clr_order_search.specs.declared.open_needs.OpenNeed.{OpenNeed}
use Rattle.clr_order_search.specs.Laws.{IsHelpedInTime}
use Rattle.clr_order_search.specs.OpenNeeds.{has}
use Rattle.clr_order_search.specs.Orders.{IsOrder}
use Rattle.clr_order_knots.specs.declared.peeling.Peeled.{Peeled}
use Rattle.clr_order_knots.specs.declared.sides.NeedSide.TheVariants as side
use Rattle.clr_order_knots.specs.Members.{AreOnce, AreThose, is_concerned, is_on, needs_at}

-- whoever blocks one of the needs helps one of them too, and the other way round
abbrev pub AreTangled : List OpenNeed → Type 0
AreTangled needs = (m : ℕ) → is_on side.Blockers needs m ≡ is_on side.Helpers needs m

-- some needs are among others
abbrev pub AreAmong : List OpenNeed → List OpenNeed → Type 0
AreAmong some needs = (need : OpenNeed) → Contains some need → Contains needs need

-- what is left of needs once members that block none went first, and members that help none last: the greatest tangle
pub record AreLeft (needs left : List OpenNeed) : Type 0 where
  pub among : AreAmong left needs
  pub tangled : AreTangled left
  pub greatest : (others : List OpenNeed) → AreAmong others needs → AreTangled others → AreAmong others left

-- each need is helped in time
abbrev pub AreHelpedInTime : List ℕ → List OpenNeed → Type 0
AreHelpedInTime order needs = (need : OpenNeed) (at : ℕ) → slice_get needs at ≡ Some need → IsHelpedInTime order need

-- members of whom some go first and some last, so that an order helps each need in time if in between it helps each need that is left in time
pub record AreEnds (needs : List OpenNeed) (count : ℕ) (left : List OpenNeed) (firsts lasts : List ℕ) : Type 0 where
  pub below : (m : ℕ) → has (firsts ++ lasts) m ≡ true → m < count
  pub once : AreOnce (firsts ++ lasts)
  pub free : (m : ℕ) → has (firsts ++ lasts) m ≡ true → is_concerned left m ≡ false
  pub helped : (between : List ℕ) → IsOrder count (firsts ++ (between ++ lasts)) → AreHelpedInTime between left
      → AreHelpedInTime (firsts ++ (between ++ lasts)) needs

abbrev pub IsPeeled : List OpenNeed → ℕ → Peeled → Type 0
IsPeeled needs count peeled = AreEnds needs count (needs_at needs peeled.left.items) peeled.firsts.items peeled.lasts.items

-- all members below a number, of whom some go first and some last
pub record IsFilled (count : ℕ) (firsts lasts order : List ℕ) : Type 0 where
  pub between : List ℕ
  pub others : AreThose count (λ m. not (has firsts m || has lasts m)) between
  pub is : order ≡ firsts ++ (between ++ lasts)

-- how it is found ---------------------------------------------------------------------------------------------

-- who helps the need blocks one of the needs, and who blocks it helps one
abbrev pub stays : List OpenNeed → OpenNeed → Bool
stays needs need = list_all (is_on side.Blockers needs) need.helpers.items && list_all (is_on side.Helpers needs) need.blockers.items

-- who helps one of the needs and blocks none
abbrev pub goes_first : List OpenNeed → ℕ → Bool
goes_first needs m = is_on side.Helpers needs m && not (is_on side.Blockers needs m)

-- who blocks one of the needs and helps none
abbrev pub goes_last : List OpenNeed → ℕ → Bool
goes_last needs m = is_on side.Blockers needs m && not (is_on side.Helpers needs m)

-- the needs that stay
abbrev pub Stay : List OpenNeed → List ℕ → List ℕ → Type 0
Stay needs old new = needs_at needs new ≡ filter (stays (needs_at needs old)) (needs_at needs old)

-- one round: those that may go first and last went, and fewer needs are left
pub record IsRound (needs : List OpenNeed) (count : ℕ) (old new : Peeled) : Type 0 where
  pub first : List ℕ
  pub last : List ℕ
  pub are_first : AreThose count (goes_first (needs_at needs old.left.items)) first
  pub are_last : AreThose count (goes_last (needs_at needs old.left.items)) last
  pub firsts : new.firsts.items ≡ old.firsts.items ++ first
  pub lasts : new.lasts.items ≡ last ++ old.lasts.items
  pub left : Stay needs old.left.items new.left.items
  pub fewer : length new.left.items < length old.left.items
  pub among : (at : ℕ) → has new.left.items at ≡ true → has old.left.items at ≡ true

-- either one round was made, or nothing changes since each need stays
abbrev pub IsRoundIfAny : List OpenNeed → ℕ → Peeled → Peeled → Bool → Type 0
IsRoundIfAny needs count old new true = IsRound needs count old new
IsRoundIfAny needs count old new false = (new ≡ old) × Stay needs old.left.items old.left.items
