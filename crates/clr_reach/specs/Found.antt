-- Rows that are found by their spots from the versions of a cut: those near a version that may touch needs, and servers near a subject that may be
-- touched. Spots decide nothing, so that rows are found which no need ties to these versions.
use Rattle.std.specs.Prelude.{◌≡◌, ◌⊎◌, ℕ, true, List, Some}
use Rattle.clr_rows.specs.Held.{Held}
use Rattle.clr_rules.specs.declared.rules.Rule.{Rule}
use Rattle.clr_needs.specs.declared.needs.VersionId.{VersionId}
use Rattle.clr_needs.specs.Needs.{IsChanged}
use Rattle.clr_needs.specs.Settings.{Setting, Lived, held_row, version}
use Rattle.clr_row_versions.specs.Candidates.{may_be_paired}
use Rattle.clr_spots.specs.Spots.{are_sharing}
use Rattle.clr_finders.specs.Sharing.{may_serve_under}
use Rattle.clr_cuts.specs.Reach.{IsOfMember}
use Rattle.clr_reach.specs.declared.aims.Aim.{Aim}
use Rattle.clr_reach.specs.declared.aims.Aim.TheVariants.{Plans, Groups}

-- a version of which P holds shares with the row under the rule of a number
pub record IsNear (P : VersionId → Lived ℕ → Type 0) (c : Setting ℕ) (number : ℕ) (s : Held) : Type 0 where
  pub id : VersionId
  pub lived : Lived ℕ
  pub is : version c id ≡ Some lived
  pub holds : P id lived
  pub shares : are_sharing c.rules number (held_row id lived) s ≡ true

-- for plans: a new version that may stand beside another row, or an old one that a member changes and that may serve. For groups: a version of a member
-- that may do either
abbrev pub MayTouch : Aim → List Rule → ℕ → VersionId → Lived ℕ → Type 0
MayTouch Plans rules number v l = ((v.fresh ≡ true) × (may_be_paired rules number (held_row v l) ≡ true))
    ⊎ (IsChanged l.life × (may_serve_under rules number (held_row v l) ≡ true))
MayTouch Groups rules number v l = IsOfMember v l × ((may_be_paired rules number (held_row v l) ≡ true) ⊎ (may_serve_under rules number (held_row v l) ≡ true))

-- a version that touches the needs of which it is a subject, or that ties them: for plans a new one, for groups one of a member
abbrev pub IsTouching : Aim → VersionId → Lived ℕ → Type 0
IsTouching Plans v l = v.fresh ≡ true
IsTouching Groups v l = IsOfMember v l

-- a version that may be a subject of a touched need, or of a tie
abbrev pub MayBeTouched : Aim → Setting ℕ → ℕ → VersionId → Lived ℕ → Type 0
MayBeTouched aim c number v l = IsTouching aim v l ⊎ IsNear (MayTouch aim c.rules number) c number (held_row v l)

-- the row is near a version that may touch, or it is of the side that serves and near one that may be touched
abbrev pub IsFoundUnder : Aim → Setting ℕ → ℕ → Held → Type 0
IsFoundUnder aim c number s = IsNear (MayTouch aim c.rules number) c number s
    ⊎ ((may_serve_under c.rules number s ≡ true) × IsNear (MayBeTouched aim c number) c number s)

-- the row is found under some rule
abbrev pub IsFound : Aim → Setting ℕ → Held → Type 0
IsFound aim c s = (number : ℕ) × IsFoundUnder aim c number s
