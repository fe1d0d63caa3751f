-- The members whom needs concern, and lists of members.
use Rattle.std.specs.Prelude.{◌≡◌, ℕ, ◌<◌, ◌≤◌, Bool, true, ◌||◌, List, Option, None, Some, get_or, length, slice_get, false}
use Rattle.std.specs.List.{filter_map, list_any}
use Rattle.clr_order_search.specs.declared.open_needs.OpenNeed.{OpenNeed}
use Rattle.clr_order_search.specs.OpenNeeds.{has}
use Rattle.clr_order_knots.specs.declared.sides.NeedSide.{NeedSide}
use Rattle.clr_order_knots.specs.declared.sides.NeedSide.TheVariants as side

-- the members who block the need, or those who help it
abbrev pub on_side : NeedSide → OpenNeed → List ℕ
on_side side.Blockers need = need.blockers.items
on_side side.Helpers need = need.helpers.items

-- the member is on this side of the need, if there is one
abbrev pub is_at : NeedSide → Option OpenNeed → ℕ → Bool
is_at s None m = false
is_at s (Some need) m = has (on_side s need) m

-- the member is on this side of one of the needs
abbrev pub is_on : NeedSide → List OpenNeed → ℕ → Bool
is_on s needs m = list_any (λ need. has (on_side s need) m) needs

-- the member blocks the need or helps it
abbrev pub concerns : ℕ → OpenNeed → Bool
concerns m need = has need.blockers.items m || has need.helpers.items m

-- one of the needs concerns the member
abbrev pub is_concerned : List OpenNeed → ℕ → Bool
is_concerned needs m = is_on side.Blockers needs m || is_on side.Helpers needs m

-- the needs at some places of a list
abbrev pub needs_at : List OpenNeed → List ℕ → List OpenNeed
needs_at needs places = filter_map (slice_get needs) places

-- the places are those of needs
abbrev pub ArePlaces : List OpenNeed → List ℕ → Type 0
ArePlaces needs places = (at : ℕ) → has places at ≡ true → at < length needs

-- no member stands twice
abbrev pub AreOnce : List ℕ → Type 0
AreOnce xs = (j k m : ℕ) → slice_get xs j ≡ Some m → slice_get xs k ≡ Some m → j ≡ k

-- exactly the members below a number that pass a test, each once
pub record AreThose (count : ℕ) (test : ℕ → Bool) (list : List ℕ) : Type 0 where
  pub below : (m : ℕ) → has list m ≡ true → m < count
  pub such : (m : ℕ) → has list m ≡ true → test m ≡ true
  pub every : (m : ℕ) → m < count → test m ≡ true → has list m ≡ true
  pub once : AreOnce list
  pub short : length list ≤ count

-- the table says of each number whether it passes a test
abbrev pub Tells : List Bool → (ℕ → Bool) → Type 0
Tells table test = (m : ℕ) → get_or table m false ≡ test m
