-- What covers a need where the first of each of some pairs goes before the second.
use Rattle.std.specs.Prelude.{◌≡◌, ℕ, true, List, Option, Some, None, ⊤, Contains, IfSome}
use Rattle.clr_needs.specs.declared.needs.Need.{Need}
use Rattle.clr_needs.specs.Covers.{IsBlocker}
use Rattle.clr_needs.specs.Needs.{IsPossible, IsServing}
use Rattle.clr_needs.specs.Settings.{Setting, Lived}
use Rattle.clr_ordered_needs.specs.Covers.{SubjectsNeverMeet, WitnessesCover}
use Rattle.clr_ordered_needs.specs.Helpers.{IsHelper}
use Rattle.clr_ordered_needs.specs.Turns.{Order}
use Rattle.clr_order_answers.specs.declared.pairs.Pair.{Pair}
use Rattle.clr_listed_covers.specs.declared.covers.Cover.{Cover}
use Rattle.clr_listed_covers.specs.declared.covers.Cover.TheVariants as cover

-- the first of each pair goes before the second
abbrev pub Keeps : Order ℕ → List Pair → Type 0
Keeps before pairs = (p : Pair) → Contains pairs p → before p.earlier p.later ≡ true

-- the subjects of the need never stand together, or the versions cover it
abbrev pub CoversNeed : Order ℕ → Setting ℕ → Need → Cover → Type 0
CoversNeed before c n cover.NeverMeet = (a : Lived ℕ) (b : Option (Lived ℕ)) → IsPossible c n a b → SubjectsNeverMeet before a b
CoversNeed before c n (cover.Witnesses v w) = (a : Lived ℕ) (b : Option (Lived ℕ)) → IsPossible c n a b → WitnessesCover before c n a b v w

-- the witnesses, if there are some, serve the need
abbrev pub DoServe : Setting ℕ → Need → Cover → Type 0
DoServe c n cover.NeverMeet = ⊤
DoServe c n (cover.Witnesses v w) = IsServing c n v × IfSome w (IsServing c n)

-- the first of the pair doesn't help the need, or the second doesn't block it
abbrev pub IsNoPairFor : Setting ℕ → Need → Pair → Type 0
IsNoPairFor c n p = (a : Lived ℕ) (b : Option (Lived ℕ)) → IsPossible c n a b → IsHelper c n a b p.earlier → IsBlocker c n a b p.later → ⊥

-- what covers the need wherever the first of the pair goes before the second; or the pair doesn't serve it
abbrev pub IsCoverByPair : Setting ℕ → Need → Pair → Option Cover → Type 0
IsCoverByPair c n p None = IsNoPairFor c n p
IsCoverByPair c n p (Some found) = ((before : Order ℕ) → before p.earlier p.later ≡ true → CoversNeed before c n found) × DoServe c n found

-- what covers the need wherever the pairs are kept; or none of them serves it
abbrev pub IsCoverByPairs : Setting ℕ → Need → List Pair → Option Cover → Type 0
IsCoverByPairs c n pairs None = (p : Pair) → Contains pairs p → IsNoPairFor c n p
IsCoverByPairs c n pairs (Some found) = ((before : Order ℕ) → Keeps before pairs → CoversNeed before c n found) × DoServe c n found
