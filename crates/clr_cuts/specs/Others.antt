-- Members beside those of a cut: none of their rows, as they are and as they are to be, is tied to a member of the cut or serves one of its ties.
use Rattle.std.specs.Prelude.{◌≡◌, Bool, false, Option, Some, ◌⊎◌, filter}
use Rattle.clr_rows.specs.Held.{Held}
use Rattle.clr_rules.specs.Needs.{View}
use Rattle.clr_needs.specs.declared.needs.Need.{Need}
use Rattle.clr_needs.specs.declared.needs.VersionId.{VersionId}
use Rattle.clr_needs.specs.Independence.{Involves, Names}
use Rattle.clr_needs.specs.Settings.{Setting, Lived, held_row, version}
use Rattle.clr_cuts.specs.Cuts.{HasChanged, with_root}
use Rattle.clr_cuts.specs.Reach.{HasTied, IsTied, ServesSome}

-- some of the members alone, over the same root
abbrev pub with_members : {A : Type 0} → Setting A → (A → Bool) → Setting A
with_members c chosen = record c { members = filter chosen c.members }

-- the need involves a member
abbrev pub IsTie : {A : Type 0} → Setting A → Need → Lived A → Option (Lived A) → Type 0
IsTie {A} c n a b = (x : A) × Involves c n a b x

-- the row is a subject of a tie of a member, or serves one
abbrev pub IsOfTie : {A : Type 0} → Setting A → Held → Type 0
IsOfTie c s = IsTied c s ⊎ ServesSome (IsTie c) c s

-- a cut for the chosen members alone, with all rows that are tied to them, such that no row of another member is of one of their ties
pub record IsCutBesideOthers {A : Type 0} (c : Setting A) (rows : View) (chosen : A → Bool) : Type 0 where
  pub changed : HasChanged (with_members c chosen) rows
  pub tied : HasTied (with_members c chosen) rows
  pub none : (v : VersionId) (l : Lived A) (y : A) → version c v ≡ Some l → Names l.life y → chosen y ≡ false
      → ¬ (IsOfTie (with_root (with_members c chosen) rows) (held_row v l))
