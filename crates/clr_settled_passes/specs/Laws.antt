-- Passes over all rows of a root by look-ups of spots, and after how many of them nothing is lacked.
use Rattle.std.specs.Prelude.{◌≡◌, ◌↔◌, ◌⊎◌, ℕ, List, Some, Contains}
use Rattle.clr_rows.specs.Held.{Held}
use Rattle.clr_rules.specs.Needs.{View}
use Rattle.clr_needs.specs.Settings.{Setting}
use Rattle.clr_cuts.specs.Cuts.{HasChanged, AreSomeOf, with_root}
use Rattle.clr_cuts.specs.Passes.{AreRowsOf}
use Rattle.clr_reach.specs.declared.aims.Aim.{Aim}
use Rattle.clr_cut_rows.specs.declared.standings.Standing.TheVariants.{Lacks}
use Rattle.clr_cut_rows.specs.Laws.{AreRight}
use Rattle.clr_cut_rows.specs.Standings.{IsStanding}

-- the rows with those of a list put in that they lack, as a pass over the list finds them
pub record IsFoundPass (aim : Aim) (c : Setting ℕ) (list : List Held) (rows next : View) : Type 0 where
  pub after : (s : Held) → (next s.0 ≡ Some s.1) ↔ ((rows s.0 ≡ Some s.1) ⊎ (Contains list s × IsStanding aim (with_root c rows) s Lacks))

-- three passes over all rows of a root lead from any of them to rows of which none is lacked any more
abbrev pub ThreePassesLaw : Type 0
ThreePassesLaw = (aim : Aim) (c : Setting ℕ) (list : List Held) (start first second third : View)
    → AreRowsOf c.root list
    → AreSomeOf start c.root
    → IsFoundPass aim c list start first
    → IsFoundPass aim c list first second
    → IsFoundPass aim c list second third
    → AreRight aim (with_root c third) list

-- from rows with each cell that a member changes two passes do
abbrev pub TwoPassesLaw : Type 0
TwoPassesLaw = (aim : Aim) (c : Setting ℕ) (list : List Held) (start first second : View)
    → AreRowsOf c.root list
    → AreSomeOf start c.root
    → HasChanged c start
    → IsFoundPass aim c list start first
    → IsFoundPass aim c list first second
    → AreRight aim (with_root c second) list
