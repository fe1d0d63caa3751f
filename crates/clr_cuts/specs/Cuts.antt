-- A cut: the same rules and members over some of the root's rows, and when these are enough.
use Rattle.std.specs.Prelude.{◌≡◌, Option, Some, None, ⊤}
use Rattle.clr_rows.specs.declared.cells.CellId.{CellId}
use Rattle.clr_rows.specs.declared.rows.Row.{Row}
use Rattle.clr_rules.specs.Needs.{View}
use Rattle.clr_needs.specs.declared.needs.Need.{Need}
use Rattle.clr_needs.specs.declared.needs.VersionId.{VersionId}
use Rattle.clr_needs.specs.Independence.{Involves}
use Rattle.clr_needs.specs.Needs.{IsPossible, IsTouchedBy, Serves}
use Rattle.clr_needs.specs.Settings.{Setting, Lived, changer}

-- the same rules and members over another root
abbrev pub with_root : {A : Type 0} → Setting A → View → Setting A
with_root c rows = record c { root = rows }

-- each row is one of the root
abbrev pub AreSomeOf : View → View → Type 0
AreSomeOf rows root = (q : CellId) (r : Row) → rows q ≡ Some r → root q ≡ Some r

-- the rows have this cell of the root: the same row, or none as the root
abbrev pub HasCell : View → View → CellId → Type 0
HasCell rows root q = rows q ≡ root q

abbrev pub HasCellIfAny : View → View → Option VersionId → Type 0
HasCellIfAny rows root None = ⊤
HasCellIfAny rows root (Some v) = HasCell rows root v.cell

-- the cells of the need's subjects
abbrev pub HasSubjects : View → View → Need → Type 0
HasSubjects rows root n = HasCell rows root n.first.cell × HasCellIfAny rows root n.second

-- each cell that a member changes
abbrev pub HasChanged : {A : Type 0} → Setting A → View → Type 0
HasChanged {A} c rows = (q : CellId) (x : A) → changer c q ≡ Some x → HasCell rows c.root q

-- rows of the root, among them all at cells that a member changes, and all subjects of touched needs
pub record IsSafeCut {A : Type 0} (c : Setting A) (rows : View) : Type 0 where
  pub of_root : AreSomeOf rows c.root
  pub changed : HasChanged c rows
  pub subjects : (n : Need) (a : Lived A) (b : Option (Lived A)) → IsPossible c n a b → IsTouchedBy c n a b → HasSubjects rows c.root n

-- all that serves a touched need of the cut
abbrev pub HasServers : {A : Type 0} → Setting A → View → Type 0
HasServers {A} c rows = (n : Need) (a : Lived A) (b : Option (Lived A)) (v : VersionId) (l : Lived A)
    → IsPossible (with_root c rows) n a b
    → IsTouchedBy (with_root c rows) n a b
    → Serves c n a b v l
    → HasCell rows c.root v.cell

-- a safe cut that has all that serves its touched needs
pub record IsCut {A : Type 0} (c : Setting A) (rows : View) : Type 0 where
  pub safe : IsSafeCut c rows
  pub servers : HasServers c rows

-- all subjects of needs that involve a member
abbrev pub HasInvolved : {A : Type 0} → Setting A → View → Type 0
HasInvolved {A} c rows = (n : Need) (a : Lived A) (b : Option (Lived A)) (x : A)
    → IsPossible c n a b
    → Involves c n a b x
    → HasSubjects rows c.root n
