-- Possible needs of a setting: the versions that call a rule, and which versions serve them.
use Rattle.std.specs.Prelude.{◌≡◌, Bool, true, false, ◌||◌, List, Option, Some, None, ⊤, ◌⊎◌, ◌↔◌, Contains}
use Rattle.std.specs.List.Sorted.{IsStrictlySortedBy}
use Rattle.std.specs.declared.cmp.Ordering.{Ordering}
use Rattle.std.specs.declared.cmp.Ordering.TheVariants.{Less}
use Rattle.clr_rows.specs.Cells.{cell_cmp}
use Rattle.clr_rows.specs.Held.{Held}
use Rattle.clr_rules.specs.declared.needs.Ask.{Ask}
use Rattle.clr_rules.specs.Calls.{ask_of_parts, calls, serves}
use Rattle.clr_needs.specs.declared.needs.Need.{Need}
use Rattle.clr_needs.specs.declared.needs.VersionId.{VersionId}
use Rattle.clr_needs.specs.Orders.{need_cmp, version_cmp}
use Rattle.clr_needs.specs.Settings.{Setting, Lifetime, Always, With, Without, Lived, version, held_row}

-- what a need asks
abbrev pub ask_of : Need → Ask
ask_of n = ask_of_parts n.rule n.first_part n.second_part

-- the need of an ask of some versions
abbrev pub need_of : Ask → VersionId → Option VersionId → Need
need_of ask v w = record {
  rule = ask.rule;
  first = v;
  second = w;
  first_part = ask.first_part;
  second_part = ask.second_part;
}

-- one life is With a member, and the other Without it
abbrev pub AreOpposed : {A : Type 0} → Lifetime A → Lifetime A → Type 0
AreOpposed (With m) (Without n) = m ≡ n
AreOpposed (Without m) (With n) = m ≡ n
AreOpposed _ _ = ⊥

-- the second subject of a need
pub record IsBeside {A : Type 0} (c : Setting A) (first : VersionId) (a : Lived A) (second : VersionId) (b : Lived A) : Type 0 where
  pub is : version c second ≡ Some b
  pub ascending : cell_cmp first.cell second.cell ≡ Less
  pub not_opposed : ¬ (AreOpposed a.life b.life)

-- the second subject, where the need has one
abbrev pub IsBesideIfAny : {A : Type 0} → Setting A → VersionId → Lived A → Option VersionId → Option (Lived A) → Type 0
IsBesideIfAny c first a None None = ⊤
IsBesideIfAny c first a None (Some b) = ⊥
IsBesideIfAny c first a (Some v) None = ⊥
IsBesideIfAny c first a (Some v) (Some b) = IsBeside c first a v b

abbrev pub held_if_any : {A : Type 0} → Option VersionId → Option (Lived A) → Option Held
held_if_any None _ = None
held_if_any (Some v) None = None
held_if_any (Some v) (Some b) = Some (held_row v b)

-- a possible need, whose subjects have these rows and lives
pub record IsPossible {A : Type 0} (c : Setting A) (n : Need) (a : Lived A) (b : Option (Lived A)) : Type 0 where
  pub first_is : version c n.first ≡ Some a
  pub second_is : IsBesideIfAny c n.first a n.second b
  pub they_call : calls c.rules (ask_of n) (held_row n.first a) (held_if_any n.second b) ≡ true

abbrev pub IsPossibleNeed : {A : Type 0} → Setting A → Need → Type 0
IsPossibleNeed {A} c n = (a : Lived A) × (b : Option (Lived A)) × IsPossible c n a b

-- a version serves the need
pub record Serves {A : Type 0} (c : Setting A) (n : Need) (a : Lived A) (b : Option (Lived A)) (v : VersionId) (l : Lived A) : Type 0 where
  pub is : version c v ≡ Some l
  pub it_serves : serves c.rules (ask_of n) (held_row n.first a) (held_if_any n.second b) (held_row v l) ≡ true

-- touched needs ------------------------------------------------------------------------------

abbrev pub is_fresh : Option VersionId → Bool
is_fresh None = false
is_fresh (Some v) = v.fresh

abbrev pub IsChanged : {A : Type 0} → Lifetime A → Type 0
IsChanged Always = ⊥
IsChanged (With n) = ⊥
IsChanged (Without n) = ⊤

-- a subject is new, or an old serving version is changed by a member
abbrev pub IsTouchedBy : {A : Type 0} → Setting A → Need → Lived A → Option (Lived A) → Type 0
IsTouchedBy {A} c n a b = (n.first.fresh || is_fresh n.second ≡ true) ⊎ ((v : VersionId) × (l : Lived A) × Serves c n a b v l × IsChanged l.life)

abbrev pub IsTouched : {A : Type 0} → Setting A → Need → Type 0
IsTouched {A} c n = (a : Lived A) × (b : Option (Lived A)) × IsPossible c n a b × IsTouchedBy c n a b

-- lists --------------------------------------------------------------------------------------

-- exactly the elements of which P holds, ascending, each once
pub record Lists {X : Type 0} (cmp : X → X → Ordering) (P : X → Type 0) (xs : List X) : Type 0 where
  pub ascending : IsStrictlySortedBy cmp xs
  pub exactly : (x : X) → Contains xs x ↔ P x

abbrev pub AreTouchedNeeds : {A : Type 0} → Setting A → List Need → Type 0
AreTouchedNeeds c ns = Lists need_cmp (IsTouched c) ns

-- a version that serves a possible need
abbrev pub IsServing : {A : Type 0} → Setting A → Need → VersionId → Type 0
IsServing {A} c n v = (a : Lived A) × (b : Option (Lived A)) × (l : Lived A) × IsPossible c n a b × Serves c n a b v l

abbrev pub AreServers : {A : Type 0} → Setting A → Need → List VersionId → Type 0
AreServers c n vs = Lists version_cmp (IsServing c n) vs
