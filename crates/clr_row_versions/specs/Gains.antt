-- What a call adds to a list.
use Rattle.std.specs.Prelude.{List, ◌⊎◌, Contains}

-- the later list has the earlier one, besides it allowed elements alone, and all that are wanted
pub record Gains {X : Type 0} (allowed wanted : X → Type 0) (old new : List X) : Type 0 where
  pub kept : (x : X) → Contains old x → Contains new x
  pub only : (x : X) → Contains new x → Contains old x ⊎ allowed x
  pub every : (x : X) → wanted x → Contains new x

-- the later list has the earlier one, and besides it allowed elements alone
abbrev pub GainsSome : {X : Type 0} → (X → Type 0) → List X → List X → Type 0
GainsSome allowed old new = Gains allowed (λ _. ⊥) old new

-- what is made of one of some things
abbrev pub OfSome : {X Y : Type 0} → (Y → X → Type 0) → List Y → X → Type 0
OfSome {X} {Y} P ys x = (y : Y) × Contains ys y × P y x

-- the element is listed, or stands behind a listed one that passes it
abbrev pub IsListedOrPassed : {X : Type 0} → (X → X → Type 0) → List X → X → Type 0
IsListedOrPassed {X} passes list x = Contains list x ⊎ ((y : X) × Contains list y × passes y x)

-- the later list has the earlier one, besides it allowed elements alone, and all that are wanted or others that pass these
pub record Reaches {X : Type 0} (passes : X → X → Type 0) (allowed wanted : X → Type 0) (old new : List X) : Type 0 where
  pub kept : (x : X) → Contains old x → Contains new x
  pub only : (x : X) → Contains new x → Contains old x ⊎ allowed x
  pub every : (x : X) → wanted x → IsListedOrPassed passes new x
