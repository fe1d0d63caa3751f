-- Pairs that are chosen for needs one after another, and of which those are kept that are needed.
use Rattle.std.specs.Prelude.{◌≡◌, ◌⊎◌, ℕ, ◌+◌, true, false, List, [], ◌∷◌, ◌++◌, Some, Contains, drop, slice_get}
use Rattle.clr_order_search.specs.declared.open_needs.OpenNeed.{OpenNeed}
use Rattle.clr_order_answers.specs.declared.pairs.Pair.{Pair}
use Rattle.clr_order_answers.specs.Pairs.{AreInOrder, IsPairFor, NoneIsLeftOver, are_served, is_served}

-- one more need: nothing changes where one of the pairs serves it; else one that does is put behind them
abbrev pub AddsPair : List ℕ → OpenNeed → List Pair → List Pair → Type 0
AddsPair order need old new = ((is_served old need ≡ true) × (new ≡ old)) ⊎ ((pair : Pair) × IsPairFor order need pair × (new ≡ old ++ pair ∷ []))

-- pairs that stand so in the order and serve each need
pub record AreServingPairs (needs : List OpenNeed) (order : List ℕ) (pairs : List Pair) : Type 0 where
  pub served : are_served pairs needs ≡ true
  pub in_order : AreInOrder order pairs

-- the pair at a position: nothing changes where those that are kept and those behind it serve each need; else it is kept too
abbrev pub KeepsNeeded : List OpenNeed → List Pair → ℕ → List Pair → List Pair → Type 0
KeepsNeeded needs pairs at old new = ((are_served (old ++ drop (at + 1) pairs) needs ≡ true) × (new ≡ old))
    ⊎ ((pair : Pair) × (slice_get pairs at ≡ Some pair) × (are_served (old ++ drop (at + 1) pairs) needs ≡ false) × (new ≡ old ++ pair ∷ []))

-- some of the pairs that serve each need, of which none can be left out
pub record AreKeptOf (needs : List OpenNeed) (pairs kept : List Pair) : Type 0 where
  pub served : are_served kept needs ≡ true
  pub among : (pair : Pair) → Contains kept pair → Contains pairs pair
  pub needed : NoneIsLeftOver needs kept
