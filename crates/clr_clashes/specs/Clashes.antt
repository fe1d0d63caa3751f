-- Clashes: members that break a touched need which nothing covers.
use Rattle.std.specs.Prelude.{◌≡◌, ℕ, List, Contains}
use Rattle.clr_needs.specs.declared.needs.Need.{Need}
use Rattle.clr_needs.specs.Covers.{IsUncoveredNeed}
use Rattle.clr_needs.specs.Needs.{IsTouched}
use Rattle.clr_needs.specs.Picks.{Blocks}
use Rattle.clr_needs.specs.Settings.{Setting}

-- all of one list are in another
abbrev pub IsAllIn : List ℕ → List ℕ → Type 0
IsAllIn xs ys = (x : ℕ) → Contains xs x → Contains ys x

-- a touched need that nothing covers, and exactly the members that break it, ascending
pub record IsBrokenBy (c : Setting ℕ) (n : Need) (list : List ℕ) : Type 0 where
  pub touched : IsTouched c n
  pub uncovered : IsUncoveredNeed c n
  pub blockers : Blocks c n list

-- exactly the members that break some touched need which nothing covers
abbrev pub IsClash : Setting ℕ → List ℕ → Type 0
IsClash c list = (n : Need) × IsBrokenBy c n list

-- a clash that holds no other
pub record IsSmallestClash (c : Setting ℕ) (list : List ℕ) : Type 0 where
  pub clash : IsClash c list
  pub smallest : (other : List ℕ) → IsClash c other → IsAllIn other list → other ≡ list

-- nothing that is touched is left uncovered
abbrev pub LeavesNoneUncovered : Setting ℕ → Type 0
LeavesNoneUncovered c = (n : Need) → IsTouched c n → ¬ (IsUncoveredNeed c n)

-- some members hold none of the smallest clashes
abbrev pub HoldNoClash : Setting ℕ → List ℕ → Type 0
HoldNoClash c positions = (list : List ℕ) → IsSmallestClash c list → ¬ (IsAllIn list positions)
