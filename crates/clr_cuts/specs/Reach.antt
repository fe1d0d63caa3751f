-- Which rows are in reach of a cut: those that stand in a need beside a new row, that an old row serves which a member changes, or that serve a touched
-- need of the cut. It is asked of one row at a time.
use Rattle.std.specs.Prelude.{◌≡◌, true, List, Option, Some, None, ◌⊎◌}
use Rattle.clr_rows.specs.declared.cells.CellId.{CellId}
use Rattle.clr_rows.specs.declared.rows.Row.{Row}
use Rattle.clr_rows.specs.Held.{Held}
use Rattle.clr_rules.specs.declared.needs.Ask.{Ask}
use Rattle.clr_rules.specs.declared.rules.Rule.{Rule}
use Rattle.clr_rules.specs.Calls.{calls, serves}
use Rattle.clr_rules.specs.Needs.{View}
use Rattle.clr_needs.specs.declared.needs.Need.{Need}
use Rattle.clr_needs.specs.declared.needs.VersionId.{VersionId}
use Rattle.clr_needs.specs.Independence.{Names}
use Rattle.clr_needs.specs.Needs.{IsChanged, IsPossible, IsTouchedBy, ask_of, held_if_any}
use Rattle.clr_needs.specs.Settings.{Setting, Lived, held_row, version}
use Rattle.clr_cuts.specs.Cuts.{HasCell, HasChanged, AreSomeOf, with_root}

-- two rows call a rule, whichever is named first
abbrev pub CallBeside : List Rule → Held → Held → Type 0
CallBeside rules s t = (ask : Ask) × ((calls rules ask s (Some t) ≡ true) ⊎ (calls rules ask t (Some s) ≡ true))

-- subjects call, and the row serves them
abbrev pub IsServed : List Rule → Ask → Held → Option Held → Held → Type 0
IsServed rules ask s t r = (calls rules ask s t ≡ true) × (serves rules ask s t r ≡ true)

-- a row serves another, be it alone or beside some row
abbrev pub ServesSubject : List Rule → Held → Held → Type 0
ServesSubject rules r s = (ask : Ask) × (IsServed rules ask s None r ⊎ ((t : Held) × (IsServed rules ask s (Some t) r ⊎ IsServed rules ask t (Some s) r)))

-- a version of which P holds calls a rule with the row
pub record IsBesideSome {A : Type 0} (P : VersionId → Lived A → Type 0) (c : Setting A) (s : Held) : Type 0 where
  pub id : VersionId
  pub lived : Lived A
  pub is : version c id ≡ Some lived
  pub holds : P id lived
  pub they_call : CallBeside c.rules (held_row id lived) s

-- a version of which P holds serves the row
pub record IsServedBySome {A : Type 0} (P : VersionId → Lived A → Type 0) (c : Setting A) (s : Held) : Type 0 where
  pub id : VersionId
  pub lived : Lived A
  pub is : version c id ≡ Some lived
  pub holds : P id lived
  pub it_serves : ServesSubject c.rules (held_row id lived) s

-- the row serves a possible need of which P holds
pub record ServesSome {A : Type 0} (P : Need → Lived A → Option (Lived A) → Type 0) (c : Setting A) (r : Held) : Type 0 where
  pub need : Need
  pub first : Lived A
  pub second : Option (Lived A)
  pub possible : IsPossible c need first second
  pub holds : P need first second
  pub it_serves : serves c.rules (ask_of need) (held_row need.first first) (held_if_any need.second second) r ≡ true

abbrev pub IsNew : {A : Type 0} → VersionId → Lived A → Type 0
IsNew v l = v.fresh ≡ true

-- an old version that a member changes
abbrev pub IsTakenAway : {A : Type 0} → VersionId → Lived A → Type 0
IsTakenAway v l = IsChanged l.life

abbrev pub IsInReach : {A : Type 0} → Setting A → Held → Type 0
IsInReach c s = IsBesideSome IsNew c s ⊎ (IsServedBySome IsTakenAway c s ⊎ ServesSome (IsTouchedBy c) c s)

-- rows of the root, among them all at cells that a member changes, and all that are in reach of them
pub record HasReach {A : Type 0} (c : Setting A) (rows : View) : Type 0 where
  pub of_root : AreSomeOf rows c.root
  pub changed : HasChanged c rows
  pub reached : (q : CellId) (r : Row) → c.root q ≡ Some r → IsInReach (with_root c rows) (q, r) → HasCell rows c.root q

-- ties ---------------------------------------------------------------------------------------------

-- a version of a member: one that lives with it, or until it is merged
abbrev pub IsOfMember : {A : Type 0} → VersionId → Lived A → Type 0
IsOfMember {A} v l = (x : A) × Names l.life x

-- the row is a subject of a tie of a member: it stands in a need beside a version of the member, or one serves it
abbrev pub IsTied : {A : Type 0} → Setting A → Held → Type 0
IsTied c s = IsBesideSome IsOfMember c s ⊎ IsServedBySome IsOfMember c s

-- all rows that are tied
abbrev pub HasTied : {A : Type 0} → Setting A → View → Type 0
HasTied c rows = (q : CellId) (r : Row) → c.root q ≡ Some r → IsTied (with_root c rows) (q, r) → HasCell rows c.root q
