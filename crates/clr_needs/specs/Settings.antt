-- Versions of rows over a root and what each member changes there. A member is anything with a test of sameness: a position, or a name.
use Rattle.std.specs.Prelude.{◌≡◌, Bool, true, false, ◌||◌, List, [], ◌∷◌, Option, Some, None, if◌then◌else◌, is_some, unwrap_or, Decides}
use Rattle.std.specs.Option.{option_map}
use Rattle.clr_rows.specs.declared.cells.CellId.{CellId}
use Rattle.clr_rows.specs.declared.rows.Row.{Row}
use Rattle.clr_rows.specs.Held.{Held}
use Rattle.clr_rules.specs.declared.rules.Rule.{Rule}
use Rattle.clr_rules.specs.Needs.{View}
use Rattle.clr_needs.specs.declared.needs.VersionId.{VersionId}

-- rules, a root's rows, and what each member has at a cell that it changes
pub record Setting (A : Type 0) : Type 0 where
  pub rules : List Rule
  pub root : View
  pub members : List A
  pub after : A → CellId → Option (Option Row)
  pub same : A → A → Bool
  pub decides : (a b : A) → Decides (same a b) (a ≡ b)

-- the member is one of a list
abbrev pub has : {A : Type 0} → (A → A → Bool) → List A → A → Bool
has same [] n = false
has same (m ∷ ms) n = same m n || has same ms n

abbrev pub AreAmong : {A : Type 0} → Setting A → List A → List A → Type 0
AreAmong {A} c ts ss = (n : A) → has c.same ts n ≡ true → has c.same ss n ≡ true

-- the root's rows taken over by the changes of each of some members
unfoldable pub view_with : {A : Type 0} → Setting A → List A → View
view_with c [] q = c.root q
view_with c (n ∷ ns) q = unwrap_or (c.after n q) (view_with c ns q)

-- no cell is changed by two members
abbrev pub AreDisjoint : {A : Type 0} → Setting A → Type 0
AreDisjoint {A} c = (m n : A) (q : CellId)
    → has c.same c.members m ≡ true
    → has c.same c.members n ≡ true
    → is_some (c.after m q) ≡ true
    → is_some (c.after n q) ≡ true
    → m ≡ n

-- no member has at a cell that it changes what the root has there
abbrev pub DoChange : {A : Type 0} → Setting A → Type 0
DoChange {A} c = (n : A) (q : CellId) (row : Option Row) → has c.same c.members n ≡ true → c.after n q ≡ Some row → row ≡ c.root q → ⊥

-- versions -----------------------------------------------------------------------------------

-- a version lives whatever is merged, once a member is merged, or until then
pub data Lifetime (A : Type 0) : Type 0 where
  Always : Lifetime A
  With Without : A → Lifetime A

-- the row of a version, and how long it lives
pub record Lived (A : Type 0) : Type 0 where
  pub row : Row
  pub life : Lifetime A

-- the first of some members that changes a cell
unfoldable pub first_changer : {A : Type 0} → (A → CellId → Option (Option Row)) → List A → CellId → Option A
first_changer after [] q = None
first_changer after (n ∷ ns) q = if is_some (after n q) then Some n else first_changer after ns q

abbrev pub changer : {A : Type 0} → Setting A → CellId → Option A
changer c q = first_changer c.after c.members q

abbrev pub old_life : {A : Type 0} → Option A → Lifetime A
old_life None = Always
old_life (Some n) = Without n

-- the root's row, which lives until the given member is merged, or always where no member is given
abbrev pub old_version : {A : Type 0} → Option A → Option Row → Option (Lived A)
old_version n row = option_map (λ r. record { row = r; life = old_life n }) row

-- the row that a member has at a cell that it changes, if it has one there
abbrev pub new_row : {A : Type 0} → A → Option (Option Row) → Option (Lived A)
new_row n None = None
new_row n (Some row) = option_map (λ r. record { row = r; life = With n }) row

abbrev pub new_version : {A : Type 0} → (A → CellId → Option (Option Row)) → CellId → Option A → Option (Lived A)
new_version after q None = None
new_version after q (Some n) = new_row n (after n q)

-- the version of a name, if there is one
unfoldable pub version : {A : Type 0} → Setting A → VersionId → Option (Lived A)
version c v = if v.fresh then new_version c.after v.cell (changer c v.cell) else old_version (changer c v.cell) (c.root v.cell)

abbrev pub held_row : {A : Type 0} → VersionId → Lived A → Held
held_row v l = (v.cell, l.row)
