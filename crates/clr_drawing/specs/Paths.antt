-- Shapes as paths of the page, and the places in their middle.
use Rattle.std.specs.Prelude.{◌≡◌, ℕ, ◌+◌, ◌-◌, ◌/◌, ◌%◌, ℤ, pos, ◌+ℤ◌, ◌-ℤ◌, Bool, true, false, ◌&&◌, min, List, [], ◌∷◌, ◌++◌, fold, length, take}
use Rattle.std.specs.Prelude.{int_div, Option, Some, None, option_map, slice_get, if◌then◌else◌}
use Rattle.std.specs.Ordering.{int_eq}
use Rattle.clr_rows.specs.declared.places.Place.{Place}
use Rattle.clr_rows.specs.declared.places.Shape.{Shape}
use Rattle.clr_rows.specs.declared.places.Shape.TheVariants.{Bare, At, Line as Segment, Chain}
use Rattle.clr_rows.specs.Parts.{part_of, parts_of}
use Rattle.clr_svg.specs.declared.elements.PagePoint.{PagePoint}
use Rattle.clr_svg.specs.declared.elements.PathCommand.{PathCommand}
use Rattle.clr_svg.specs.declared.elements.PathCommand.TheVariants.{Begin, Line, Close}
use Rattle.clr_svg.specs.Lengths.{stopped}
use Rattle.clr_viewports.specs.declared.viewports.Viewport.{Viewport}
use Rattle.clr_viewports.specs.Viewports.{spot_on}

abbrev pub are_one : PagePoint → PagePoint → Bool
are_one a b = int_eq a.x.tenths b.x.tenths && int_eq a.y.tenths b.y.tenths

abbrev pub leads_to : PagePoint → Option PathCommand → Bool
leads_to spot None = false
leads_to spot (Some (Begin s)) = false
leads_to spot (Some (Line s)) = are_one s spot
leads_to spot (Some Close) = false

-- the last step is a line to a spot
abbrev pub ends_at : List PathCommand → PagePoint → Bool
ends_at steps spot = leads_to spot (slice_get steps (length steps - 1))

-- a figure begins, unless the last line led to its first spot
abbrev pub beginning : List PathCommand → PagePoint → List PathCommand
beginning steps spot = if ends_at steps spot then steps else steps ++ Begin spot ∷ []

-- a line from one spot to another, unless both are one
unfoldable pub with_line : List PathCommand → PagePoint → PagePoint → List PathCommand
with_line steps from to = if are_one from to then steps else beginning steps from ++ Line to ∷ []

-- how many parts a shape has, up to the most that have numbers
abbrev pub numbered_part_count : Shape → ℕ
numbered_part_count shape = min (length (parts_of shape)) 65535

abbrev pub with_line_of_part : Viewport → List PathCommand → Place × Place → List PathCommand
with_line_of_part v steps part = with_line steps (spot_on v part.0) (spot_on v part.1)

-- a part, if there is one
abbrev pub with_found : Viewport → List PathCommand → Option (Place × Place) → List PathCommand
with_found v steps None = steps
with_found v steps (Some part) = with_line_of_part v steps part

-- the lines of the parts of a shape, of which a point has none
abbrev pub with_shape : Viewport → List PathCommand → Shape → List PathCommand
with_shape v steps shape = fold (with_line_of_part v) steps (take (numbered_part_count shape) (parts_of shape))

unfoldable pub halfway_number : ℤ → ℤ → ℤ
halfway_number from to = stopped (from +ℤ int_div (stopped (to -ℤ from)) (pos 2))

abbrev pub halfway_place : Place → Place → Place
halfway_place from to = record { x = halfway_number from.x to.x; y = halfway_number from.y to.y }

abbrev pub halfway_of : Place × Place → Place
halfway_of part = halfway_place part.0 part.1

-- the number of the middle of so many parts, counted from 1
abbrev pub middle_number : ℕ → ℕ
middle_number count = count / 2 + count % 2

-- of a line the middle of its middle part
abbrev pub middle_of_parts : Shape → Option Place
middle_of_parts shape = option_map halfway_of (part_of shape (middle_number (numbered_part_count shape)))

-- of a point its own place
abbrev pub middle_place : Shape → Option Place
middle_place Bare = None
middle_place (At p) = Some p
middle_place (Segment p q) = middle_of_parts (Segment p q)
middle_place (Chain vertices) = middle_of_parts (Chain vertices)
