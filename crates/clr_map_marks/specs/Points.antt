-- The marks of points that designs add, change and remove.
use Rattle.std.specs.Prelude.{pos, ℕ, Bool, false, ◌||◌, List, count_by, min, slice_get, sum_by, Option, Some, None, if◌then◌else◌}
use Rattle.std.specs.Option.{option_map_or}
use Rattle.std.specs.FinMap as finite
use Rattle.clr_rows.specs.declared.cells.Change.{Change}
use Rattle.clr_rows.specs.declared.places.Place.{Place}
use Rattle.clr_rows.specs.declared.places.Shape.{Shape}
use Rattle.clr_rows.specs.declared.places.Shape.TheVariants.{Bare, At, Line, Chain}
use Rattle.clr_rows.specs.declared.rows.Row.{Row}
use Rattle.clr_rows.specs.Contents.{Changes}
use Rattle.clr_rows.specs.Same.{same_place}
use Rattle.clr_svg.specs.declared.colours.Colour.{Colour}
use Rattle.clr_svg.specs.declared.elements.Element.{Element}
use Rattle.clr_svg.specs.declared.elements.PagePoint.{PagePoint}
use Rattle.clr_svg.specs.declared.inks.Ink.{Ink}
use Rattle.clr_svg.specs.declared.pixels.Pixels.{Pixels}
use Rattle.clr_svg.specs.Inks.{dashed_ink, drawn_ink, filled_ink, ink_over}
use Rattle.clr_svg.specs.Lengths.{length_of}
use Rattle.clr_viewports.specs.declared.details.Detail.{Detail}
use Rattle.clr_drawing.specs.declared.signs.Sign.{Sign}
use Rattle.clr_viewports.specs.Details.{is_fine}
use Rattle.clr_drawing.specs.Palette.{rgb}
use Rattle.clr_drawing.specs.Signs.{DrawsCross, IsSign, hundredths}
use Rattle.clr_drawing.specs.Sketches.{Draws}
use Rattle.clr_map_marks.specs.declared.point_marks.PointChange.{PointChange}
use Rattle.clr_map_marks.specs.declared.point_marks.PointChange.TheVariants as change

abbrev pub paper : Colour
paper = rgb 255 255 255

-- the colour of the map
abbrev pub map_colour : Colour
map_colour = rgb 251 250 246

-- drawn by dashes over the map
abbrev pub gone_ink : Colour → Ink
gone_ink colour = dashed_ink (ink_over (drawn_ink colour (length_of (pos 17))) map_colour) (length_of (pos 25)) (length_of (pos 20))

-- the sign of a point that comes is full, of one that changes hollow, and of one that goes or moves away it has dashes
abbrev pub ink_of : PointChange → Colour → Ink
ink_of change.Goes colour = gone_ink colour
ink_of change.Leaves colour = gone_ink colour
ink_of change.Comes colour = ink_over (drawn_ink paper (length_of (pos 15))) colour
ink_of change.Changes colour = ink_over (drawn_ink colour (length_of (pos 26))) paper

abbrev pub small_gone_ink : Colour → Ink
small_gone_ink colour = dashed_ink (ink_over (drawn_ink colour (length_of (pos 12))) map_colour) (length_of (pos 20)) (length_of (pos 15))

-- the ink of a small sign
abbrev pub small_ink_of : PointChange → Colour → Ink
small_ink_of change.Goes colour = small_gone_ink colour
small_ink_of change.Leaves colour = small_gone_ink colour
small_ink_of change.Comes colour = filled_ink colour
small_ink_of change.Changes colour = ink_over (drawn_ink colour (length_of (pos 12))) paper

abbrev pub DrawsSign : PointChange → Sign → PagePoint → Pixels → Colour → List Element → List Element → Type 0
DrawsSign change sign spot radius colour old new = Draws (IsSign sign spot radius (ink_of change colour)) old new

-- a point that goes has a cross over its sign
abbrev pub DrawsMark : PointChange → Sign → PagePoint → Pixels → Colour → List Element → List Element → Type 0
DrawsMark change.Goes sign spot radius colour old new =
    (drawn : List Element) × DrawsSign change.Goes sign spot radius colour old drawn × DrawsCross spot (hundredths radius (pos 62)) colour paper drawn new
DrawsMark change.Leaves sign spot radius colour old new = DrawsSign change.Leaves sign spot radius colour old new
DrawsMark change.Comes sign spot radius colour old new = DrawsSign change.Comes sign spot radius colour old new
DrawsMark change.Changes sign spot radius colour old new = DrawsSign change.Changes sign spot radius colour old new

abbrev pub is_at_place : Shape → Place → Bool
is_at_place Bare place = false
is_at_place (At p) place = same_place p place
is_at_place (Line p q) place = false
is_at_place (Chain vertices) place = false

-- a row is a point at a place
abbrev pub stands_at : Option Row → Place → Bool
stands_at None place = false
stands_at (Some row) place = is_at_place row.shape place

-- a change has a point at a place, before or after
abbrev pub is_at : Change → Place → Bool
is_at e place = stands_at e.before place || stands_at e.after place

abbrev pub count_at : Changes → Place → ℕ
count_at set place = count_by (λ e. is_at e.1 place) (finite.entries set)

-- how many points at a place the design at a position changes
abbrev pub points_by : List Changes → Place → ℕ → ℕ
points_by sets place at = option_map_or (λ set. count_at set place) (slice_get sets at) 0

-- the greatest number of 32 bits
abbrev pub most_marks : ℕ
most_marks = 4294967295

-- how many points at a place these designs change, as far as they are counted
abbrev pub marks_at : List Changes → List ℕ → Place → ℕ
marks_at sets order place = min (sum_by (points_by sets place) order) most_marks

-- how large the signs of designs are
abbrev pub mark_radius : Detail → Pixels
mark_radius detail = if is_fine detail then length_of (pos 66) else length_of (pos 27)
