-- A later setting: some members are merged by then, some are gone, and the others stay as they were.
use Rattle.std.specs.Prelude.{◌≡◌, true, Option, None, Some}
use Rattle.clr_rows.specs.declared.cells.CellId.{CellId}
use Rattle.clr_rows.specs.declared.rows.Row.{Row}
use Rattle.clr_needs.specs.Settings.{Setting, AreDisjoint, has}
use Rattle.clr_ordered_needs.specs.Turns.{Order}

-- what becomes of a member: the root takes its changes over, its changes go with it, or it stays under some name
pub data Fate (B : Type 0) : Type 0 where
  Merged Gone : Fate B
  Stays : B → Fate B

-- the member changes the cell to this row, or to none
pub record Changes {A : Type 0} (c : Setting A) (x : A) (q : CellId) (row : Option Row) : Type 0 where
  pub member : has c.same c.members x ≡ true
  pub after : c.after x q ≡ Some row

-- no member changes the cell
abbrev pub AreIdle : {A : Type 0} → Setting A → CellId → Type 0
AreIdle {A} c q = (x : A) → has c.same c.members x ≡ true → c.after x q ≡ None

-- the same rules; who stays has the changes that it had, and no other has any; the root has the changes of the merged ones over its rows
pub record IsLater {A B : Type 0} (c : Setting A) (next : Setting B) (fate : A → Fate B) : Type 0 where
  pub rules : next.rules ≡ c.rules
  pub apart : AreDisjoint c
  pub came : (y : B) (q : CellId) (row : Option Row) → Changes next y q row → (x : A) × Changes c x q row × (fate x ≡ Stays y)
  pub stayed : (x : A) (y : B) (q : CellId) (row : Option Row) → Changes c x q row → fate x ≡ Stays y → Changes next y q row
  pub idle : (q : CellId) → AreIdle c q → next.root q ≡ c.root q
  pub merged : (x : A) (q : CellId) (row : Option Row) → Changes c x q row → fate x ≡ Merged → next.root q ≡ row
  pub unmerged : (x : A) (q : CellId) (row : Option Row) → Changes c x q row → ¬ (fate x ≡ Merged) → next.root q ≡ c.root q

-- those that stay go before one another as they did; who goes before a merged member is merged, and for whom a gone one comes first is gone
pub record IsLaterInTurn {A B : Type 0} (before : Order A) (c : Setting A) (now_before : Order B) (fate : A → Fate B) : Type 0 where
  pub goes_first : (x z : A) (y w : B) → before x z ≡ true → fate x ≡ Stays y → fate z ≡ Stays w → now_before y w ≡ true
  pub merged_first : (x z : A) → has c.same c.members x ≡ true → before x z ≡ true → fate z ≡ Merged → fate x ≡ Merged
  pub gone_first : (x z : A) → has c.same c.members x ≡ true → before x z ≡ true → fate x ≡ Gone → fate z ≡ Gone
