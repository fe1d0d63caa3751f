-- Boxes with sides along the axes.
use Rattle.std.specs.Prelude.{ℕ, ℤ, pos, ◌+ℤ◌, ◌-ℤ◌, ◌*ℤ◌, ◌≤ℤ◌, ◌<◌, ◌≤◌, List, [], ◌∷◌, Option, Some, None}
use Rattle.std.specs.Int.{int_min, int_max}
use Rattle.std.specs.List.{AllByRecursion}
use Rattle.clr_rows.specs.declared.places.Place.{Place}
use Rattle.clr_rows.specs.declared.places.Shape.{Shape}
use Rattle.clr_rows.specs.declared.places.Shape.TheVariants.{Bare, At, Line, Chain}
use Rattle.clr_segments.specs.declared.boxes.Bounds.{Bounds}
use Rattle.clr_segments.specs.Segments.{part_way}

-- x is from low to high
abbrev pub Between : ℤ → ℤ → ℤ → Type 0
Between low x high = (low ≤ℤ x) × (x ≤ℤ high)

-- p is in the box
abbrev pub InBox : Place → Bounds → Type 0
InBox p b = Between b.least.x p.x b.most.x × Between b.least.y p.y b.most.y

-- the point (m / d, n / d) is in the box
abbrev pub PointInBox : ℕ → ℤ → ℤ → Bounds → Type 0
PointInBox d m n b =
    Between (pos d *ℤ b.least.x) m (pos d *ℤ b.most.x) × Between (pos d *ℤ b.least.y) n (pos d *ℤ b.most.y)

-- both boxes have a common point of whole coordinates
abbrev pub BoxesTouch : Bounds → Bounds → Type 0
BoxesTouch b c = (p : Place) × InBox p b × InBox p c

-- the box from the lesser to the greater coordinates of two places
abbrev pub box_between : Place → Place → Bounds
box_between a b = record {
  least = record { x = int_min a.x b.x; y = int_min a.y b.y };
  most = record { x = int_max a.x b.x; y = int_max a.y b.y };
}

-- every point of the segment a-b, of whole coordinates or not, is in the box
abbrev pub HoldsSegment : Place → Place → Bounds → Type 0
HoldsSegment a b c =
    (d s : ℕ) → 0 < d → s ≤ d → PointInBox d (part_way d s a.x b.x) (part_way d s a.y b.y) c

-- b reaches at most as far as c on every side
pub record IsWithin (b c : Bounds) : Type 0 where
  pub left : c.least.x ≤ℤ b.least.x
  pub right : b.most.x ≤ℤ c.most.x
  pub below : c.least.y ≤ℤ b.least.y
  pub above : b.most.y ≤ℤ c.most.y

-- c is the least box that holds the segment a-b
pub record IsLeastBox (a b : Place) (c : Bounds) : Type 0 where
  pub holds : HoldsSegment a b c
  pub least : (e : Bounds) → HoldsSegment a b e → IsWithin c e

-- the box grown by d on each side
abbrev pub grown_box : Bounds → ℤ → Bounds
grown_box b d = record {
  least = record { x = b.least.x -ℤ d; y = b.least.y -ℤ d };
  most = record { x = b.most.x +ℤ d; y = b.most.y +ℤ d };
}

-- each of the places is in the box
abbrev pub HoldsPlaces : List Place → Bounds → Type 0
HoldsPlaces places b = AllByRecursion (λ p. InBox p b) places

-- c is the least box that holds the places
pub record IsLeastBoxOf (places : List Place) (c : Bounds) : Type 0 where
  pub holds : HoldsPlaces places c
  pub least : (e : Bounds) → HoldsPlaces places e → IsWithin c e

-- the box widened to hold a place too
abbrev pub box_with : Bounds → Place → Bounds
box_with b p = record {
  least = record { x = int_min b.least.x p.x; y = int_min b.least.y p.y };
  most = record { x = int_max b.most.x p.x; y = int_max b.most.y p.y };
}

-- the box widened to hold each of the places
abbrev pub box_with_all : Bounds → List Place → Bounds
box_with_all b [] = b
box_with_all b (p ∷ ps) = box_with_all (box_with b p) ps

-- the least box of a path
abbrev pub box_of_path : List Place → Option Bounds
box_of_path [] = None
box_of_path (p ∷ ps) = Some (box_with_all (box_between p p) ps)

-- the least box of a shape that has one
abbrev pub box_of_shape : Shape → Option Bounds
box_of_shape Bare = None
box_of_shape (At p) = Some (box_between p p)
box_of_shape (Line p q) = Some (box_between p q)
box_of_shape (Chain vertices) = box_of_path vertices
