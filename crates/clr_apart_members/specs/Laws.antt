-- What a pass over the rows of other members shows.
use Rattle.std.specs.Prelude.{◌≡◌, ℕ, Bool, true, false, Some}
use Rattle.clr_rows.specs.Held.{Held}
use Rattle.clr_rules.specs.Needs.{View}
use Rattle.clr_needs.specs.declared.needs.VersionId.{VersionId}
use Rattle.clr_needs.specs.Independence.{AreDependent, Names}
use Rattle.clr_needs.specs.Settings.{Setting, Lived, held_row, version}
use Rattle.clr_cuts.specs.Cuts.{HasChanged}
use Rattle.clr_cuts.specs.Others.{with_members}
use Rattle.clr_cuts.specs.Reach.{HasTied}
use Rattle.clr_reach.specs.declared.aims.Aim.TheVariants.{Groups}
use Rattle.clr_reach.specs.Laws.{FitsCut, TakesFound}

-- the row of a version that lives with a member which isn't chosen, or until that member is merged
pub record IsOfOther (c : Setting ℕ) (chosen : ℕ → Bool) (v : VersionId) (l : Lived ℕ) : Type 0 where
  pub is : version c v ≡ Some l
  pub member : ℕ
  pub names : Names l.life member
  pub other : chosen member ≡ false

-- a test takes none of the rows of members that aren't chosen
abbrev pub TakesNoneOfOthers : Setting ℕ → (ℕ → Bool) → (Held → Bool) → Type 0
TakesNoneOfOthers c chosen test = (v : VersionId) (l : Lived ℕ) → IsOfOther c chosen v l → test (held_row v l) ≡ false

-- rows of a root that are a cut for the chosen members alone, with all that is tied to them
pub record IsCutForChosen (c : Setting ℕ) (rows : View) (chosen : ℕ → Bool) : Type 0 where
  pub fits : FitsCut (with_members c chosen) rows
  pub changed : HasChanged (with_members c chosen) rows
  pub tied : HasTied (with_members c chosen) rows

-- none of the chosen members depends on another one, where a test that takes each row found for groups takes none of theirs
abbrev pub OthersLaw : Type 0
OthersLaw = (c : Setting ℕ) (rows : View) (chosen : ℕ → Bool) (test : Held → Bool)
    → IsCutForChosen c rows chosen
    → TakesFound Groups (with_members c chosen) rows test
    → TakesNoneOfOthers c chosen test
    → (x y : ℕ) → chosen x ≡ true → chosen y ≡ false → ¬ (AreDependent c x y)
