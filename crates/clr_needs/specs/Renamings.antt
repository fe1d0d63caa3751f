-- Lives and versions that are the same but for the names of members.
use Rattle.std.specs.Prelude.{◌≡◌, ⊤, Option, Some, None}
use Rattle.clr_needs.specs.Settings.{Lifetime, Always, With, Without, Lived}

-- a life of a member, and the same life of the one that stands for it
abbrev pub IsSameLife : {A B : Type 0} → (A → B → Type 0) → Lifetime A → Lifetime B → Type 0
IsSameLife stands Always Always = ⊤
IsSameLife stands (With x) (With y) = stands x y
IsSameLife stands (Without x) (Without y) = stands x y
IsSameLife stands _ _ = ⊥

-- two versions with the same row and the same life
pub record IsSameVersion {A B : Type 0} (stands : A → B → Type 0) (l : Lived A) (m : Lived B) : Type 0 where
  pub row : l.row ≡ m.row
  pub life : IsSameLife stands l.life m.life

-- two versions with the same row and the same life, or neither is there
abbrev pub IsSameVersionIfAny : {A B : Type 0} → (A → B → Type 0) → Option (Lived A) → Option (Lived B) → Type 0
IsSameVersionIfAny stands None None = ⊤
IsSameVersionIfAny stands None (Some m) = ⊥
IsSameVersionIfAny stands (Some l) None = ⊥
IsSameVersionIfAny stands (Some l) (Some m) = IsSameVersion stands l m
