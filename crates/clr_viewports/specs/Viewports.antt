-- Which part of the world a picture shows, and where on the page it stands. What leaves 64 bits stops at their limit.
use Rattle.std.specs.Prelude.{ℤ, pos, ◌*ℤ◌, int_div, int_lt, IsSomeAnd, if◌then◌else◌}
use Rattle.std.specs.Int.{int_max}
use Rattle.clr_rows.specs.declared.places.Place.{Place}
use Rattle.clr_rows.specs.declared.places.Shape.{Shape}
use Rattle.clr_segments.specs.declared.boxes.Bounds.{Bounds}
use Rattle.clr_segments.specs.Bounding.{BoxesTouch, box_of_shape}
use Rattle.clr_svg.specs.declared.elements.PagePoint.{PagePoint}
use Rattle.clr_svg.specs.declared.pixels.Pixels.{Pixels}
use Rattle.clr_svg.specs.Lengths.{length_of, minus, plus, stopped}
use Rattle.clr_viewports.specs.declared.areas.Area.{Area}
use Rattle.clr_viewports.specs.declared.viewports.Viewport.{Viewport}
use Rattle.clr_viewports.specs.Areas.{height_of, width_of}
use Rattle.clr_viewports.specs.Extents.{box_about, height_of_box, length_between, width_of_box}

-- a number in the ratio of a part to a whole, and 0 where the whole is nothing
unfoldable pub scaled_by_ratio : ℤ → ℤ → ℤ → ℤ
scaled_by_ratio number part whole = if int_lt (pos 0) whole then int_div (stopped (number *ℤ part)) whole else pos 0

-- at least 1
unfoldable pub side : ℤ → ℤ
side length = int_max length (pos 1)

-- how wide a box of this height would be that has the proportions of a frame
unfoldable pub fitting_width : Bounds → Area → ℤ
fitting_width b frame = scaled_by_ratio (side (height_of_box b)) (width_of frame).tenths (height_of frame).tenths

-- how high one of this width
unfoldable pub fitting_height : Bounds → Area → ℤ
fitting_height b frame = scaled_by_ratio (side (width_of_box b)) (height_of frame).tenths (width_of frame).tenths

unfoldable pub wide_for : Bounds → Area → ℤ
wide_for b frame = int_max (side (width_of_box b)) (fitting_width b frame)

unfoldable pub high_for : Bounds → Area → ℤ
high_for b frame = int_max (side (height_of_box b)) (fitting_height b frame)

-- the box is made wider or higher round its middle until it has the proportions of the frame
unfoldable pub view_of : Bounds → Area → Viewport
view_of b frame = record { world = box_about b (wide_for b frame) (high_for b frame); frame = frame }

abbrev pub view_width : Viewport → ℤ
view_width v = width_of_box v.world

-- how long a length of the world is on the page
unfoldable pub length_on : Viewport → ℤ → Pixels
length_on v millimetres = length_of (scaled_by_ratio millimetres (width_of v.frame).tenths (view_width v))

-- x goes to the right from the left side of the frame, and y upwards from its bottom
unfoldable pub spot_on : Viewport → Place → PagePoint
spot_on v p = record {
  x = plus v.frame.left (length_on v (length_between v.world.least.x p.x));
  y = minus v.frame.bottom (length_on v (length_between v.world.least.y p.y));
}

-- where a box of the world stands on the page
unfoldable pub area_on : Viewport → Bounds → Area
area_on v b = record {
  left = (spot_on v b.least).x;
  top = (spot_on v b.most).y;
  right = (spot_on v b.most).x;
  bottom = (spot_on v b.least).y;
}

-- the box of a shape touches the part of the world that is seen
abbrev pub Sees : Viewport → Shape → Type 0
Sees v shape = IsSomeAnd (box_of_shape shape) (λ b. BoxesTouch b v.world)
