-- Elements in the order in which they are drawn.
use Rattle.std.specs.Prelude.{◌≡◌, ℕ, List, [], ◌∷◌, ◌++◌, Some, None, string_bytes}
use Rattle.clr_svg.specs.declared.colours.Colour.{Colour}
use Rattle.clr_svg.specs.declared.elements.Anchor.{Anchor}
use Rattle.clr_svg.specs.declared.elements.Element.{Element}
use Rattle.clr_svg.specs.declared.elements.Element.TheVariants.{Path, Circle, Rectangle, Words}
use Rattle.clr_svg.specs.declared.elements.Label.{Label}
use Rattle.clr_svg.specs.declared.elements.PagePoint.{PagePoint}
use Rattle.clr_svg.specs.declared.elements.PathCommand.{PathCommand}
use Rattle.clr_svg.specs.declared.elements.PathCommand.TheVariants.{Begin, Line, Close}
use Rattle.clr_svg.specs.declared.elements.Weight.{Weight}
use Rattle.clr_svg.specs.declared.inks.Ink.{Ink}
use Rattle.clr_svg.specs.declared.pages.Window.{Window}
use Rattle.clr_svg.specs.declared.pixels.Pixels.{Pixels}
use Rattle.clr_viewports.specs.declared.areas.Area.{Area}
use Rattle.clr_viewports.specs.Areas.{corner_of, height_of, width_of}

-- one more element is drawn, over those so far
abbrev pub Draws : (Element → Type 0) → List Element → List Element → Type 0
Draws P old new = (e : Element) × P e × (new ≡ old ++ e ∷ [])

-- the element is a path of these steps
abbrev pub IsPath : List PathCommand → Ink → Element → Type 0
IsPath steps ink (Path taken i) = (taken.items ≡ steps) × (i ≡ ink)
IsPath steps ink (Circle m r i) = ⊥
IsPath steps ink (Rectangle c w h r i) = ⊥
IsPath steps ink (Words l) = ⊥

-- a path of no steps isn't drawn
abbrev pub DrawsPath : List PathCommand → Ink → List Element → List Element → Type 0
DrawsPath [] ink old new = new ≡ old
DrawsPath (s ∷ steps) ink old new = Draws (IsPath (s ∷ steps) ink) old new

-- from one spot to another
abbrev pub line_steps : PagePoint → PagePoint → List PathCommand
line_steps from to = Begin from ∷ Line to ∷ []

-- an area with corners of this radius
abbrev pub rectangle_of : Area → Pixels → Ink → Element
rectangle_of area radius ink = Rectangle (corner_of area) (width_of area) (height_of area) radius ink

-- a line of text that says these bytes
pub record IsWords (words : List ℕ) (at : PagePoint) (size : Pixels) (colour : Colour) (anchor : Anchor) (weight : Weight) (label : Label) : Type 0 where
  pub says : string_bytes label.words ≡ words
  pub at_spot : label.at ≡ at
  pub of_size : label.size ≡ size
  pub of_colour : label.colour ≡ colour
  pub of_anchor : label.anchor ≡ anchor
  pub of_weight : label.weight ≡ weight

abbrev pub DrawsWords : (Label → Type 0) → List Element → List Element → Type 0
DrawsWords P old new = (label : Label) × P label × (new ≡ old ++ Words label ∷ [])

abbrev pub window_of : Area → Window
window_of area = record { corner = corner_of area; width = width_of area; height = height_of area }
