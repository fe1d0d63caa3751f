-- Passes over the rows of a root, as they are read one after another: which of them a cut lacks.
use Rattle.std.specs.Prelude.{◌≡◌, ◌↔◌, ◌⊎◌, Bool, true, not, ◌&&◌, ◌||◌, List, Some, Contains, filter, is_some}
use Rattle.clr_rows.specs.Held.{Held}
use Rattle.clr_rules.specs.Needs.{View}
use Rattle.clr_needs.specs.Settings.{Setting, changer}
use Rattle.clr_cuts.specs.Cuts.{with_root}
use Rattle.clr_cuts.specs.Reach.{IsInReach}

-- the list has exactly the rows of a root, in whatever order and however often
abbrev pub AreRowsOf : View → List Held → Type 0
AreRowsOf root list = (s : Held) → Contains list s ↔ (root s.0 ≡ Some s.1)

-- the rows have none at the cell, and a member changes it or the test takes its row
abbrev pub is_lacked : {A : Type 0} → Setting A → View → (Held → Bool) → Held → Bool
is_lacked c rows test s = not (is_some (rows s.0)) && (is_some (changer c s.0) || test s)

-- what a pass over a list answers: the rows of it that are lacked
abbrev pub lacked : {A : Type 0} → Setting A → View → (Held → Bool) → List Held → List Held
lacked c rows test list = filter (is_lacked c rows test) list

-- a test that takes each row in reach, and may take others
abbrev pub TakesReach : {A : Type 0} → Setting A → View → (Held → Bool) → Type 0
TakesReach c rows test = (s : Held) → IsInReach (with_root c rows) s → test s ≡ true

-- the rows with those put in that a pass answered
abbrev pub IsAfterPass : {A : Type 0} → Setting A → View → (Held → Bool) → List Held → View → Type 0
IsAfterPass c rows test list next = (s : Held) → (next s.0 ≡ Some s.1) ↔ ((rows s.0 ≡ Some s.1) ⊎ Contains (lacked c rows test list) s)

-- one pass over a list by a test that takes each row in reach
pub record IsPass {A : Type 0} (c : Setting A) (list : List Held) (rows next : View) : Type 0 where
  pub test : Held → Bool
  pub takes : TakesReach c rows test
  pub after : IsAfterPass c rows test list next
