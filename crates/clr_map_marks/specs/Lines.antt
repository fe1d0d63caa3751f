-- The lines of a design, by what becomes of them.
use Rattle.std.specs.Prelude.{pos, Bool, true, false, List, fold, [], ◌++◌, Option, Some, None, option_map, option_to_list, if◌then◌else◌}
use Rattle.std.specs.FinMap as finite
use Rattle.clr_rows.specs.declared.cells.CellId.{CellId}
use Rattle.clr_rows.specs.declared.cells.Change.{Change}
use Rattle.clr_rows.specs.declared.places.Shape.{Shape}
use Rattle.clr_rows.specs.declared.places.Shape.TheVariants.{Bare, At, Line, Chain}
use Rattle.clr_rows.specs.declared.rows.Row.{Row}
use Rattle.clr_rows.specs.Contents.{Changes}
use Rattle.clr_rows.specs.Same.{same_shape}
use Rattle.clr_svg.specs.declared.elements.Element.{Element}
use Rattle.clr_svg.specs.declared.elements.PagePoint.{PagePoint}
use Rattle.clr_svg.specs.declared.elements.PathCommand.{PathCommand}
use Rattle.clr_svg.specs.declared.colours.Colour.{Colour}
use Rattle.clr_svg.specs.declared.inks.Dash.{Dash}
use Rattle.clr_svg.specs.declared.inks.Ink.{Ink}
use Rattle.clr_svg.specs.declared.pixels.Pixels.{Pixels}
use Rattle.clr_svg.specs.Inks.{dashed_ink, drawn_ink}
use Rattle.clr_svg.specs.Lengths.{length_of, minus, plus, whole}
use Rattle.clr_viewports.specs.declared.viewports.Viewport.{Viewport}
use Rattle.clr_drawing.specs.Paths.{middle_place, with_shape}
use Rattle.clr_drawing.specs.Sketches.{DrawsPath}
use Rattle.clr_viewports.specs.Viewports.{spot_on}
use Rattle.clr_map_marks.specs.Points.{map_colour, paper}
use Rattle.clr_map_marks.specs.declared.line_marks.Lines.{Lines}

abbrev pub is_point : Shape → Bool
is_point Bare = false
is_point (At p) = true
is_point (Line p q) = false
is_point (Chain vertices) = false

-- full lines, double lines, and dashes with crosses
pub record Kinds : Type 0 where
  pub full : List PathCommand
  pub double : List PathCommand
  pub dashes : List PathCommand
  pub crosses : List PagePoint

abbrev pub kinds_of_lines : Lines → Kinds
kinds_of_lines l = record { full = l.added.items; double = l.changed.items; dashes = l.removed.items; crosses = l.crosses.items }

abbrev pub middle_spots : Viewport → Shape → List PagePoint
middle_spots v shape = option_to_list (option_map (spot_on v) (middle_place shape))

-- a row that is removed: dashes with a cross in the middle; a point has no lines
abbrev pub with_removed : Viewport → Kinds → Shape → Kinds
with_removed v k shape = if is_point shape then k else record {
  full = k.full;
  double = k.double;
  dashes = with_shape v k.dashes shape;
  crosses = k.crosses ++ middle_spots v shape;
}

-- the lines of a shape, unless it stays
abbrev pub with_unless : Viewport → List PathCommand → Shape → Bool → List PathCommand
with_unless v dashes before stays = if stays then dashes else with_shape v dashes before

-- dashes where a row was, unless it still has the shape
abbrev pub with_left : Viewport → List PathCommand → Shape → Shape → List PathCommand
with_left v dashes before after = with_unless v dashes before (same_shape before after)

-- a row that is changed: a double line, and dashes where it was, if its shape was another
abbrev pub with_changed : Viewport → Kinds → Shape → Shape → Kinds
with_changed v k before after = record {
  full = k.full;
  double = with_shape v k.double after;
  dashes = with_left v k.dashes before after;
  crosses = k.crosses;
}

-- a row that is added: a full line
abbrev pub with_added : Viewport → Kinds → Shape → Kinds
with_added v k after = record { full = with_shape v k.full after; double = k.double; dashes = k.dashes; crosses = k.crosses }

abbrev pub with_before_and_after : Viewport → Kinds → Option Row → Option Row → Kinds
with_before_and_after v k None None = k
with_before_and_after v k None (Some after) = with_added v k after.shape
with_before_and_after v k (Some before) None = with_removed v k before.shape
with_before_and_after v k (Some before) (Some after) = with_changed v k before.shape after.shape

abbrev pub with_change : Viewport → Kinds → Change → Kinds
with_change v k e = with_before_and_after v k e.before e.after

abbrev pub no_lines : Kinds
no_lines = record { full = []; double = []; dashes = []; crosses = [] }

abbrev pub with_change_at : Viewport → Kinds → CellId × Change → Kinds
with_change_at v k e = with_change v k e.1

-- of all changes of a design, in the order of cells
abbrev pub lines_drawn : Viewport → Changes → Kinds
lines_drawn v set = fold (with_change_at v) no_lines (finite.entries set)

-- a path, and the same in another ink over it
abbrev pub DrawsTwice : List PathCommand → Ink → Ink → List Element → List Element → Type 0
DrawsTwice steps below above old new = (drawn : List Element) × DrawsPath steps below old drawn × DrawsPath steps above drawn new

-- what is added is a full line, what is changed a double one, and what is removed has dashes
abbrev pub DrawsKinds : Kinds → Pixels → Dash → Colour → List Element → List Element → Type 0
DrawsKinds k width dash colour old new = (full : List Element) × (double : List Element)
    × DrawsPath k.full (drawn_ink colour width) old full
    × DrawsTwice k.double (drawn_ink colour (plus width (length_of (pos 16)))) (drawn_ink paper (minus width (length_of (pos 16)))) full double
    × DrawsTwice k.dashes (drawn_ink map_colour (plus width (whole (pos 1))))
    (dashed_ink (drawn_ink colour (minus width (length_of (pos 10)))) dash.dash dash.gap) double new
