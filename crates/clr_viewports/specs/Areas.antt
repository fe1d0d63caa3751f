-- Areas of a page, and which of them overlap.
use Rattle.std.specs.Prelude.{◌≡◌, ◌&&◌, Bool, false, List, int_le, int_lt}
use Rattle.std.specs.Int.{int_max, int_min}
use Rattle.std.specs.List.{All}
use Rattle.clr_svg.specs.declared.elements.PagePoint.{PagePoint}
use Rattle.clr_svg.specs.declared.pixels.Pixels.{Pixels}
use Rattle.clr_svg.specs.Lengths.{half, length_of, minus, plus}
use Rattle.clr_viewports.specs.declared.areas.Area.{Area}

-- some point is within both areas, their edges aside
unfoldable pub overlaps : Area → Area → Bool
overlaps a b =
    ((int_lt a.left.tenths b.right.tenths && int_lt b.left.tenths a.right.tenths) && int_lt a.top.tenths b.bottom.tenths)
    && int_lt b.top.tenths a.bottom.tenths

-- an area overlaps none of these
abbrev pub CoversNone : List Area → Area → Type 0
CoversNone taken area = All (λ other. overlaps area other ≡ false) taken

-- the second area is within the first, edges included
unfoldable pub holds : Area → Area → Bool
holds a b =
    ((int_le a.left.tenths b.left.tenths && int_le b.right.tenths a.right.tenths) && int_le a.top.tenths b.top.tenths)
    && int_le b.bottom.tenths a.bottom.tenths

-- the spot is in the area, edges included
unfoldable pub has_spot : Area → PagePoint → Bool
has_spot a s =
    ((int_le a.left.tenths s.x.tenths && int_le s.x.tenths a.right.tenths) && int_le a.top.tenths s.y.tenths)
    && int_le s.y.tenths a.bottom.tenths

-- of this size, by the upper left corner
abbrev pub area_at : PagePoint → Pixels → Pixels → Area
area_at corner width height = record { left = corner.x; top = corner.y; right = plus corner.x width; bottom = plus corner.y height }

abbrev pub area_around : PagePoint → Pixels → Pixels → Area
area_around middle width height =
    area_at (record { x = minus middle.x (half width); y = minus middle.y (half height) }) width height

abbrev pub grown_area : Area → Pixels → Area
grown_area a by = record { left = minus a.left by; top = minus a.top by; right = plus a.right by; bottom = plus a.bottom by }

abbrev pub lesser_length : Pixels → Pixels → Pixels
lesser_length a b = length_of (int_min a.tenths b.tenths)

abbrev pub greater_length : Pixels → Pixels → Pixels
greater_length a b = length_of (int_max a.tenths b.tenths)

-- from the lesser to the greater sides of two areas
abbrev pub joined_area : Area → Area → Area
joined_area a b = record {
  left = lesser_length a.left b.left;
  top = lesser_length a.top b.top;
  right = greater_length a.right b.right;
  bottom = greater_length a.bottom b.bottom;
}

abbrev pub width_of : Area → Pixels
width_of a = minus a.right a.left

abbrev pub height_of : Area → Pixels
height_of a = minus a.bottom a.top

abbrev pub corner_of : Area → PagePoint
corner_of a = record { x = a.left; y = a.top }

abbrev pub middle_spot : Area → PagePoint
middle_spot a = record { x = plus a.left (half (width_of a)); y = plus a.top (half (height_of a)) }

-- a spot outside is moved to the edge, along each axis
abbrev pub nearest_spot : Area → PagePoint → PagePoint
nearest_spot a s = record { x = greater_length a.left (lesser_length s.x a.right); y = greater_length a.top (lesser_length s.y a.bottom) }
