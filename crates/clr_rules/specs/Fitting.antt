-- What the shape of a row that fits a schema has: coordinates within the plane, and parts with two ends.
use Rattle.std.specs.Prelude.{◌≡◌, ◌<◌, ℕ, true, length, slice_get, Some}
use Rattle.clr_rows.specs.declared.limits.TheConstants.{MOST_VERTICES}
use Rattle.clr_rows.specs.declared.places.Shape.{Shape}
use Rattle.clr_rows.specs.Parts.{parts_of}
use Rattle.clr_rows.specs.Places.{InRange, Differ}
use Rattle.clr_rows.specs.Schemas.{has_coordinates}
use Rattle.clr_rules.specs.Sides.{Segment}

-- the ends of a segment are within the plane, and differ
pub record IsSoundSegment (e : Segment) : Type 0 where
  pub first : InRange e.0
  pub second : InRange e.1
  pub differ : Differ e.0 e.1

-- all coordinates of a shape are within the plane, and it has a few sound parts
pub record IsSoundShape (shape : Shape) : Type 0 where
  pub coordinates : has_coordinates shape ≡ true
  pub parts : (n : ℕ) (e : Segment) → slice_get (parts_of shape) n ≡ Some e → IsSoundSegment e
  pub few : length (parts_of shape) < MOST_VERTICES
