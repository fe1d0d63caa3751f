-- The signs of rows that are points.
use Rattle.std.specs.Prelude.{◌≡◌, ℕ, ◌%◌, zero, suc, ℤ, pos, negsuc, ◌*ℤ◌, List, [], ◌∷◌, ◌++◌, int_div, map}
use Rattle.clr_svg.specs.declared.colours.Colour.{Colour}
use Rattle.clr_svg.specs.declared.elements.Element.{Element}
use Rattle.clr_svg.specs.declared.elements.Element.TheVariants.{Path, Circle, Rectangle, Words}
use Rattle.clr_svg.specs.declared.elements.PagePoint.{PagePoint}
use Rattle.clr_svg.specs.declared.elements.PathCommand.{PathCommand}
use Rattle.clr_svg.specs.declared.elements.PathCommand.TheVariants.{Begin, Line, Close}
use Rattle.clr_svg.specs.declared.inks.Ink.{Ink}
use Rattle.clr_svg.specs.declared.pixels.Pixels.{Pixels}
use Rattle.clr_svg.specs.Inks.{drawn_ink}
use Rattle.clr_svg.specs.Lengths.{length_of, plus, stopped}
use Rattle.clr_drawing.specs.declared.signs.Sign.{Sign}
use Rattle.clr_drawing.specs.declared.signs.Sign.TheVariants as sign
use Rattle.clr_drawing.specs.Sketches.{Draws, IsPath}

-- five signs, which begin anew
abbrev pub sign_of_rest : ℕ → Sign
sign_of_rest zero = sign.Circle
sign_of_rest (suc zero) = sign.Square
sign_of_rest (suc (suc zero)) = sign.Diamond
sign_of_rest (suc (suc (suc zero))) = sign.Triangle
sign_of_rest (suc (suc (suc (suc n)))) = sign.Hexagon

abbrev pub sign_of : ℕ → Sign
sign_of n = sign_of_rest (n % 5)

-- a share of a radius, in hundredths
abbrev pub hundredths : Pixels → ℤ → Pixels
hundredths radius n = length_of (int_div (stopped (radius.tenths *ℤ n)) (pos 100))

-- the spot that is away from a middle by shares of a radius
abbrev pub away : PagePoint → Pixels → ℤ × ℤ → PagePoint
away middle radius by = record { x = plus middle.x (hundredths radius by.0); y = plus middle.y (hundredths radius by.1) }

abbrev pub line_to : PagePoint → Pixels → ℤ × ℤ → PathCommand
line_to middle radius by = Line (away middle radius by)

-- from the first corner over the others, and back; corners are shares of a radius
abbrev pub outline : PagePoint → Pixels → ℤ × ℤ → List (ℤ × ℤ) → List PathCommand
outline middle radius first others = Begin (away middle radius first) ∷ map (line_to middle radius) others ++ Close ∷ []

-- where a diamond and a triangle begin
abbrev pub top_corner : ℤ × ℤ
top_corner = (pos 0, negsuc 124)

-- the other corners
abbrev pub diamond : List (ℤ × ℤ)
diamond = (pos 125, pos 0) ∷ (pos 0, pos 125) ∷ (negsuc 124, pos 0) ∷ []

abbrev pub triangle : List (ℤ × ℤ)
triangle = (pos 115, pos 80) ∷ (negsuc 114, pos 80) ∷ []

-- where a hexagon begins
abbrev pub left_corner : ℤ × ℤ
left_corner = (negsuc 109, pos 0)

abbrev pub hexagon : List (ℤ × ℤ)
hexagon = (negsuc 54, negsuc 99) ∷ (pos 55, negsuc 99) ∷ (pos 110, pos 0) ∷ (pos 55, pos 100) ∷ (negsuc 54, pos 100) ∷ []

-- a square reaches nine tenths of the radius to each side
abbrev pub square_element : PagePoint → Pixels → Ink → Element
square_element middle radius ink =
    Rectangle (away middle radius (negsuc 89, negsuc 89)) (hundredths radius (pos 180)) (hundredths radius (pos 180)) (length_of (pos 0)) ink

-- the element is a sign
abbrev pub IsSign : Sign → PagePoint → Pixels → Ink → Element → Type 0
IsSign sign.Circle middle radius ink e = e ≡ Circle middle radius ink
IsSign sign.Square middle radius ink e = e ≡ square_element middle radius ink
IsSign sign.Diamond middle radius ink e = IsPath (outline middle radius top_corner diamond) ink e
IsSign sign.Triangle middle radius ink e = IsPath (outline middle radius top_corner triangle) ink e
IsSign sign.Hexagon middle radius ink e = IsPath (outline middle radius left_corner hexagon) ink e

-- two strokes that cross
abbrev pub cross_steps : PagePoint → Pixels → List PathCommand
cross_steps middle radius =
    Begin (away middle radius (negsuc 99, negsuc 99)) ∷ Line (away middle radius (pos 100, pos 100))
    ∷ Begin (away middle radius (negsuc 99, pos 100)) ∷ Line (away middle radius (pos 100, negsuc 99)) ∷ []

abbrev pub IsCross : PagePoint → Pixels → Colour → Pixels → Element → Type 0
IsCross middle radius colour width e = IsPath (cross_steps middle radius) (drawn_ink colour width) e

-- a broad cross, and a narrower one over it
abbrev pub DrawsCross : PagePoint → Pixels → Colour → Colour → List Element → List Element → Type 0
DrawsCross middle radius colour below old new =
    (b : Element) × (e : Element) × IsCross middle radius below (length_of (pos 54)) b × IsCross middle radius colour (length_of (pos 24)) e
    × (new ≡ old ++ b ∷ e ∷ [])
