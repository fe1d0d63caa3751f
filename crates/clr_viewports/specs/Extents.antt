-- Boxes of the world, in millimetres. What leaves 64 bits stops at their limit.
use Rattle.std.specs.Prelude.{ℤ, pos, ◌+ℤ◌, ◌-ℤ◌, ◌*ℤ◌, Option, Some, None, int_div}
use Rattle.std.specs.Int.{int_max, int_min}
use Rattle.clr_rows.specs.declared.places.Place.{Place}
use Rattle.clr_rows.specs.declared.places.Shape.{Shape}
use Rattle.clr_segments.specs.declared.boxes.Bounds.{Bounds}
use Rattle.clr_segments.specs.Bounding.{box_of_shape}
use Rattle.clr_svg.specs.Lengths.{stopped}

abbrev pub lesser_place : Place → Place → Place
lesser_place a b = record { x = int_min a.x b.x; y = int_min a.y b.y }

abbrev pub greater_place : Place → Place → Place
greater_place a b = record { x = int_max a.x b.x; y = int_max a.y b.y }

-- the least box that holds two boxes
abbrev pub joined_box : Bounds → Bounds → Bounds
joined_box a b = record { least = lesser_place a.least b.least; most = greater_place a.most b.most }

-- the box around a box and another one, where there may be no first box
abbrev pub box_with_box : Option Bounds → Bounds → Bounds
box_with_box None b = b
box_with_box (Some a) b = joined_box a b

-- a box, if there is one, and another, if there is one
abbrev pub with_extent : Option Bounds → Option Bounds → Option Bounds
with_extent extent None = extent
with_extent extent (Some b) = Some (box_with_box extent b)

-- the least box that holds a box, if there is one, and a shape, if it has vertices
abbrev pub extent_with : Option Bounds → Shape → Option Bounds
extent_with extent shape = with_extent extent (box_of_shape shape)

unfoldable pub length_between : ℤ → ℤ → ℤ
length_between low high = stopped (high -ℤ low)

-- where a range of this length begins that lies round the middle of another
unfoldable pub start_about : ℤ → ℤ → ℤ → ℤ
start_about low high length = stopped (stopped (low +ℤ int_div (length_between low high) (pos 2)) -ℤ int_div length (pos 2))

unfoldable pub end_about : ℤ → ℤ → ℤ → ℤ
end_about low high length = stopped (start_about low high length +ℤ length)

-- the box of these sides round the middle of another
unfoldable pub box_about : Bounds → ℤ → ℤ → Bounds
box_about b width height = record {
  least = record { x = start_about b.least.x b.most.x width; y = start_about b.least.y b.most.y height };
  most = record { x = end_about b.least.x b.most.x width; y = end_about b.least.y b.most.y height };
}

abbrev pub width_of_box : Bounds → ℤ
width_of_box b = length_between b.least.x b.most.x

abbrev pub height_of_box : Bounds → ℤ
height_of_box b = length_between b.least.y b.most.y

-- a percentage of a length, and at least another length
unfoldable pub scaled : ℤ → ℤ → ℤ → ℤ
scaled length percent least = int_max (int_div (stopped (length *ℤ percent)) (pos 100)) least

unfoldable pub scaled_box : Bounds → ℤ → ℤ → Bounds
scaled_box b percent least = box_about b (scaled (width_of_box b) percent least) (scaled (height_of_box b) percent least)

abbrev pub longer_side : Bounds → ℤ
longer_side b = int_max (width_of_box b) (height_of_box b)
