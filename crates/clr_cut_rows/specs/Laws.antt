-- What the standings of rows of a root show of a cut.
use Rattle.std.specs.Prelude.{◌≡◌, ◌⊎◌, ℕ, List, Some, Contains}
use Rattle.clr_rows.specs.Held.{Held}
use Rattle.clr_rules.specs.Needs.{View}
use Rattle.clr_needs.specs.Settings.{Setting}
use Rattle.clr_row_versions.specs.Versions.{FitsSetting}
use Rattle.clr_cuts.specs.Cuts.{AreSomeOf, with_root}
use Rattle.clr_cuts.specs.Passes.{AreRowsOf}
use Rattle.clr_cuts.specs.Reach.{HasReach, HasTied}
use Rattle.clr_reach.specs.declared.aims.Aim.{Aim}
use Rattle.clr_reach.specs.declared.aims.Aim.TheVariants.{Groups}
use Rattle.clr_cut_rows.specs.declared.standings.Standing.TheVariants.{Has, Beyond}
use Rattle.clr_cut_rows.specs.Standings.{IsStanding}

-- the rows of the cut are some of the root, and have all in their reach there; for groups also all that are tied to members
pub record IsCutFor (aim : Aim) (c : Setting ℕ) (root : View) : Type 0 where
  pub reach : HasReach (with_root c root) c.root
  pub tied : aim ≡ Groups → HasTied (with_root c root) c.root

-- of each row of the list the cut has it, or the row is beyond the cut
abbrev pub AreRight : Aim → Setting ℕ → List Held → Type 0
AreRight aim c list = (s : Held) → Contains list s → IsStanding aim c s Has ⊎ IsStanding aim c s Beyond

-- so it is, and each row of the cut is one of the list
pub record AreAllRight (aim : Aim) (c : Setting ℕ) (list : List Held) : Type 0 where
  pub met : (s : Held) → c.root s.0 ≡ Some s.1 → Contains list s
  pub right : AreRight aim c list

-- where this is so of all rows of a root, the rows of the cut are one of that root
abbrev pub StandingsLaw : Type 0
StandingsLaw = (aim : Aim) (c : Setting ℕ) (root : View) (list : List Held)
    → FitsSetting c
    → AreRowsOf root list
    → AreAllRight aim c list
    → IsCutFor aim c root

-- where another root still has the rows of a cut, and its rows that the cut's root hasn't are all right, they are a cut of the other root too
abbrev pub NewStandingsLaw : Type 0
NewStandingsLaw = (aim : Aim) (c : Setting ℕ) (root other : View) (news : List Held)
    → FitsSetting c
    → IsCutFor aim c root
    → AreSomeOf c.root other
    → ((s : Held) → other s.0 ≡ Some s.1 → (root s.0 ≡ Some s.1) ⊎ Contains news s)
    → AreRight aim c news
    → IsCutFor aim c other
