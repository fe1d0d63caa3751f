-- How elements are written.
use Rattle.std.specs.Prelude.{ℕ, List, ◌++◌, codes, Some, string_bytes}
use Rattle.std.specs.List.{flat_map}
use Rattle.clr_svg.specs.declared.elements.Anchor.{Anchor}
use Rattle.clr_svg.specs.declared.elements.Anchor.TheVariants.{Start, Middle, End}
use Rattle.clr_svg.specs.declared.elements.Element.{Element}
use Rattle.clr_svg.specs.declared.elements.Element.TheVariants.{Path, Circle, Rectangle, Words}
use Rattle.clr_svg.specs.declared.elements.Label.{Label}
use Rattle.clr_svg.specs.declared.elements.PagePoint.{PagePoint}
use Rattle.clr_svg.specs.declared.elements.PathCommand.{PathCommand}
use Rattle.clr_svg.specs.declared.elements.PathCommand.TheVariants.{Begin, Line, Close}
use Rattle.clr_svg.specs.declared.elements.Weight.{Weight}
use Rattle.clr_svg.specs.declared.elements.Weight.TheVariants.{Plain, Strong}
use Rattle.clr_svg.specs.declared.inks.Ink.{Ink}
use Rattle.clr_svg.specs.declared.pixels.Pixels.{Pixels}
use Rattle.clr_svg.specs.Escapes.{escaped}
use Rattle.clr_svg.specs.Inks.{fill_text, ink_text}
use Rattle.clr_svg.specs.Numbers.{attribute, pixels_text, spot_text}

abbrev pub step_text : PathCommand → List ℕ
step_text (Begin s) = codes "M" ++ spot_text s
step_text (Line s) = codes "L" ++ spot_text s
step_text Close = codes "Z"

unfoldable pub steps_text : List PathCommand → List ℕ
steps_text steps = flat_map step_text steps

-- an element without content, on a line of its own
abbrev pub empty_element : List ℕ → List ℕ → List ℕ
empty_element name attributes = codes "<" ++ name ++ attributes ++ codes "/>\n"

abbrev pub path_text : List PathCommand → Ink → List ℕ
path_text steps ink = empty_element (codes "path") (attribute (codes "d") (steps_text steps) ++ ink_text ink)

abbrev pub circle_text : PagePoint → Pixels → Ink → List ℕ
circle_text middle radius ink =
    empty_element (codes "circle")
    (attribute (codes "cx") (pixels_text middle.x) ++ attribute (codes "cy") (pixels_text middle.y) ++ attribute (codes "r") (pixels_text radius)
    ++ ink_text ink)

abbrev pub rectangle_text : PagePoint → Pixels → Pixels → Pixels → Ink → List ℕ
rectangle_text corner width height radius ink =
    empty_element (codes "rect")
    (attribute (codes "x") (pixels_text corner.x) ++ attribute (codes "y") (pixels_text corner.y) ++ attribute (codes "width") (pixels_text width)
    ++ attribute (codes "height") (pixels_text height) ++ attribute (codes "rx") (pixels_text radius) ++ ink_text ink)

unfoldable pub anchor_word : Anchor → List ℕ
anchor_word Start = codes "start"
anchor_word Middle = codes "middle"
anchor_word End = codes "end"

unfoldable pub weight_word : Weight → List ℕ
weight_word Plain = codes "400"
weight_word Strong = codes "600"

unfoldable pub label_attributes : Label → List ℕ
label_attributes label =
    attribute (codes "x") (pixels_text label.at.x) ++ attribute (codes "y") (pixels_text label.at.y) ++ attribute (codes "font-size") (pixels_text label.size)
    ++ attribute (codes "font-weight") (weight_word label.weight) ++ attribute (codes "text-anchor") (anchor_word label.anchor) ++ fill_text (Some label.colour)

-- the words of a label are escaped
abbrev pub label_text : Label → List ℕ
label_text label = codes "<text" ++ label_attributes label ++ codes ">" ++ escaped (string_bytes label.words) ++ codes "</text>\n"

abbrev pub element_text : Element → List ℕ
element_text (Path steps ink) = path_text steps.items ink
element_text (Circle middle radius ink) = circle_text middle radius ink
element_text (Rectangle corner width height radius ink) = rectangle_text corner width height radius ink
element_text (Words label) = label_text label
