-- Pairs of members of which the first goes before the second, and which needs they serve.
use Rattle.std.specs.Prelude.{◌≡◌, ℕ, ◌<◌, Bool, true, false, ◌&&◌, List, ◌∷◌, ◌++◌, Some, Contains, slice_get}
use Rattle.std.specs.List.{list_all, list_any}
use Rattle.clr_order_search.specs.declared.open_needs.OpenNeed.{OpenNeed}
use Rattle.clr_order_search.specs.OpenNeeds.{has}
use Rattle.clr_order_knots.specs.OpenNeeds.{AreSidesApart}
use Rattle.clr_order_answers.specs.declared.pairs.Pair.{Pair}

-- the first of the pair helps the need, and the second blocks it
abbrev pub serves : Pair → OpenNeed → Bool
serves pair need = has need.helpers.items pair.earlier && has need.blockers.items pair.later

-- one of the pairs serves the need
abbrev pub is_served : List Pair → OpenNeed → Bool
is_served pairs need = list_any (λ p. serves p need) pairs

-- each need is served by one of the pairs
abbrev pub are_served : List Pair → List OpenNeed → Bool
are_served pairs needs = list_all (is_served pairs) needs

-- the first of the pair stands in the order before the second
pub record StandsInOrder (order : List ℕ) (pair : Pair) : Type 0 where
  pub early : ℕ
  pub late : ℕ
  pub earlier_at : slice_get order early ≡ Some pair.earlier
  pub later_at : slice_get order late ≡ Some pair.later
  pub in_order : early < late

abbrev pub AreInOrder : List ℕ → List Pair → Type 0
AreInOrder order pairs = (pair : Pair) → Contains pairs pair → StandsInOrder order pair

-- a pair that serves the need and stands so in the order
pub record IsPairFor (order : List ℕ) (need : OpenNeed) (pair : Pair) : Type 0 where
  pub serves_it : serves pair need ≡ true
  pub stands : StandsInOrder order pair

-- without any of the pairs some need is served by none
abbrev pub NoneIsLeftOver : List OpenNeed → List Pair → Type 0
NoneIsLeftOver needs pairs = (firsts : List Pair) (pair : Pair) (others : List Pair) → pairs ≡ firsts ++ pair ∷ others
    → are_served (firsts ++ others) needs ≡ false

abbrev pub AreAllApart : List OpenNeed → Type 0
AreAllApart needs = (need : OpenNeed) (at : ℕ) → slice_get needs at ≡ Some need → AreSidesApart need

-- pairs that stand so in the order and serve each need, of which none can be left out
pub record ArePairsFor (needs : List OpenNeed) (order : List ℕ) (pairs : List Pair) : Type 0 where
  pub served : are_served pairs needs ≡ true
  pub in_order : AreInOrder order pairs
  pub needed : NoneIsLeftOver needs pairs
