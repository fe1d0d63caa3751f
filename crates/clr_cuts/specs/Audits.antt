-- Audits of some rows of a root that have what serves their needs, and of a root by its sections.
use Rattle.std.specs.Prelude.{◌≡◌, true, List, Option, Some}
use Rattle.clr_rows.specs.declared.cells.CellId.{CellId}
use Rattle.clr_rows.specs.declared.rows.Row.{Row}
use Rattle.clr_rows.specs.Held.{Held}
use Rattle.clr_rules.specs.declared.needs.Ask.{Ask}
use Rattle.clr_rules.specs.declared.rules.Rule.{Rule}
use Rattle.clr_rules.specs.Calls.{serves}
use Rattle.clr_rules.specs.Needs.{IsNeed, View}
use Rattle.clr_cuts.specs.Cuts.{HasCell, AreSomeOf}

-- the row serves a need of some rows, touched or not
pub record ServesNeedOf (rules : List Rule) (rows : View) (r : Held) : Type 0 where
  pub ask : Ask
  pub first : Held
  pub second : Option Held
  pub need : IsNeed rules rows ask first second
  pub it_serves : serves rules ask first second r ≡ true

-- rows of the root, among them all that serve a need of them
pub record AreServed (rules : List Rule) (root rows : View) : Type 0 where
  pub of_root : AreSomeOf rows root
  pub servers : (q : CellId) (r : Row) → root q ≡ Some r → ServesNeedOf rules rows (q, r) → HasCell rows root q

-- sections of a root, each with what serves its needs, such that each need of the root is one of some section
pub record AreSections {K : Type 0} (rules : List Rule) (root : View) (sections : K → View) : Type 0 where
  pub served : (k : K) → AreServed rules root (sections k)
  pub all : (ask : Ask) (s : Held) (t : Option Held) → IsNeed rules root ask s t → (k : K) × IsNeed rules (sections k) ask s t
