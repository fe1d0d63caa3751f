-- What finding rows by their spots promises of cuts.
use Rattle.std.specs.Prelude.{◌≡◌, ◌⊎◌, ℕ, Bool, true, List, []}
use Rattle.clr_rows.specs.Held.{Held}
use Rattle.clr_rules.specs.Needs.{View}
use Rattle.clr_needs.specs.Settings.{Setting}
use Rattle.clr_row_versions.specs.Versions.{FitsSetting}
use Rattle.clr_cuts.specs.Cuts.{AreSomeOf, with_root}
use Rattle.clr_cuts.specs.Others.{IsOfTie}
use Rattle.clr_cuts.specs.Passes.{AreRowsOf, TakesReach, lacked}
use Rattle.clr_cuts.specs.Reach.{HasReach, HasTied, IsInReach}
use Rattle.clr_reach.specs.declared.aims.Aim.{Aim}
use Rattle.clr_reach.specs.declared.aims.Aim.TheVariants.{Plans, Groups}
use Rattle.clr_reach.specs.Found.{IsFound}

-- a row in reach is found, for plans
abbrev pub FoundLaw : Type 0
FoundLaw = (c : Setting ℕ) (s : Held) → FitsSetting c → IsInReach c s → IsFound Plans c s

-- a row in reach, or of a tie of a member, is found for groups
abbrev pub FoundForGroupsLaw : Type 0
FoundForGroupsLaw = (c : Setting ℕ) (s : Held) → FitsSetting c → IsInReach c s ⊎ IsOfTie c s → IsFound Groups c s

-- a test that takes each row which is found, and may take others
abbrev pub TakesFound : Aim → Setting ℕ → View → (Held → Bool) → Type 0
TakesFound aim c rows test = (s : Held) → IsFound aim (with_root c rows) s → test s ≡ true

-- the rules and the rows of the cut fit one schema
abbrev pub FitsCut : Setting ℕ → View → Type 0
FitsCut c rows = FitsSetting (with_root c rows)

-- such a test takes each row in reach, and so passes by it are passes
abbrev pub TestLaw : Type 0
TestLaw = (aim : Aim) (c : Setting ℕ) (rows : View) (test : Held → Bool) → FitsCut c rows → TakesFound aim c rows test → TakesReach c rows test

-- where a pass for groups over all rows of a root answers none, the rows have all in their reach and all that are tied to members
abbrev pub GroupPassLaw : Type 0
GroupPassLaw = (c : Setting ℕ) (rows : View) (test : Held → Bool) (list : List Held)
    → AreRowsOf c.root list
    → AreSomeOf rows c.root
    → FitsCut c rows
    → TakesFound Groups c rows test
    → lacked c rows test list ≡ []
    → HasReach c rows × HasTied c rows
