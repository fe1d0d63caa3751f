-- Labels of a picture, none of which covers another.
use Rattle.std.specs.Prelude.{◌≡◌, ◌++◌, List, [], ◌∷◌, Option, Some, None}
use Rattle.clr_viewports.specs.Areas.{CoversNone}
use Rattle.clr_viewports.specs.declared.areas.Area.{Area}
use Rattle.clr_drawing.specs.declared.labels.Placed.{Placed}

-- a label covers no area that was taken, and its own is taken then; where there is no place for it, nothing is
abbrev pub TakesPlace : List Area → List Area → Option Placed → Type 0
TakesPlace old new None = new ≡ old
TakesPlace old new (Some placed) = CoversNone old placed.area × (new ≡ old ++ placed.area ∷ [])
