-- The small plan beside a map.
use Rattle.std.specs.Prelude.{◌≡◌, ℤ, pos, true, List, [], ◌++◌, All}
use Rattle.clr_svg.specs.declared.elements.Element.{Element}
use Rattle.clr_svg.specs.declared.elements.Element.TheVariants.{Path, Circle, Rectangle, Words}
use Rattle.clr_svg.specs.Lengths.{length_of}
use Rattle.clr_viewports.specs.declared.areas.Area.{Area}
use Rattle.clr_viewports.specs.Areas.{corner_of, height_of, holds, width_of}
use Rattle.clr_map_scenes.specs.declared.scenes.MapScene.{MapScene}

-- a rectangle is an area within a box, edges included; of lines and words nothing is told
abbrev pub StandsIn : Area → Element → Type 0
StandsIn box (Path steps ink) = Unit {0}
StandsIn box (Circle middle radius ink) = Unit {0}
StandsIn box (Rectangle corner width height radius ink) =
    (a : Area) × (holds box a ≡ true) × (corner ≡ corner_of a) × (width ≡ width_of a) × (height ≡ height_of a)
StandsIn box (Words label) = Unit {0}

-- more is drawn, of which each rectangle is within a box
pub record DrawsWithin (box : Area) (old new : List Element) : Type 0 where
  pub more : List Element
  pub drawn : new ≡ old ++ more
  pub within : All (StandsIn box) more

-- the box is beside the map, between 906 and 1212 pixels, and ends where the map does
pub record IsBeside (scene : MapScene) (box : Area) : Type 0 where
  pub left : box.left ≡ length_of (pos 9060)
  pub right : box.right ≡ length_of (pos 12120)
  pub bottom : box.bottom ≡ scene.view.frame.bottom

-- nothing is drawn, or a box beside the map with a small plan in it
pub data DrawsInset (scene : MapScene) (old new : List Element) : Type 0 where
  nothing : new ≡ old → DrawsInset scene old new
  plan : (box : Area) → IsBeside scene box → DrawsWithin box old new → DrawsInset scene old new
