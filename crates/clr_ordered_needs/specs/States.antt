-- Where some members are merged: a need is broken there just where all its blockers are among them, and none of its helpers.
use Rattle.std.specs.Prelude.{◌≡◌, true, false, List, Option, ◌⊎◌}
use Rattle.clr_needs.specs.declared.needs.Need.{Need}
use Rattle.clr_needs.specs.Covers.{IsBlocker}
use Rattle.clr_needs.specs.Needs.{IsPossible, IsTouchedBy}
use Rattle.clr_needs.specs.Settings.{Setting, Lived, has}
use Rattle.clr_ordered_needs.specs.Helpers.{IsHelper, IsServedAlways}

-- a touched need that no version serves always
pub record IsOpen {A : Type 0} (c : Setting A) (n : Need) (a : Lived A) (b : Option (Lived A)) : Type 0 where
  pub possible : IsPossible c n a b
  pub touched : IsTouchedBy c n a b
  pub none_always : ¬ (IsServedAlways c n a b)

-- all blockers are merged, and no helper is
pub record IsBrokenWith {A : Type 0} (c : Setting A) (n : Need) (a : Lived A) (b : Option (Lived A)) (ts : List A) : Type 0 where
  pub blockers : (y : A) → IsBlocker c n a b y → has c.same ts y ≡ true
  pub helpers : (x : A) → IsHelper c n a b x → has c.same ts x ≡ false

-- a blocker isn't merged, or a helper is
abbrev pub IsSparedWith : {A : Type 0} → Setting A → Need → Lived A → Option (Lived A) → List A → Type 0
IsSparedWith {A} c n a b ts = ((y : A) × IsBlocker c n a b y × (has c.same ts y ≡ false)) ⊎ ((x : A) × IsHelper c n a b x × (has c.same ts x ≡ true))
