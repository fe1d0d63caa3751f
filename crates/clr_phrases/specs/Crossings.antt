-- Ways between places, and shares of them.
use Rattle.std.specs.Prelude.{◌≡◌, ◌≢◌, ℤ, pos, ◌-ℤ◌, ◌*ℤ◌, ◌≤◌, unsigned_abs}
use Rattle.clr_rows.specs.declared.limits.TheConstants.{GREATEST_COORDINATE}
use Rattle.clr_rows.specs.declared.places.Place.{Place}

-- the cross product of the way from a to b and the way from c to d
abbrev pub product_of_ways : Place → Place → Place → Place → ℤ
product_of_ways a b c d = (b.x -ℤ a.x) *ℤ (d.y -ℤ c.y) -ℤ (b.y -ℤ a.y) *ℤ (d.x -ℤ c.x)

-- x is in range, and numerator / denominator of the way from one number to another away from the first
pub record IsCoordinateAt (from to numerator denominator x : ℤ) : Type 0 where
  pub in_range : unsigned_abs x ≤ GREATEST_COORDINATE
  pub divides : denominator ≢ pos 0
  pub share : denominator *ℤ (x -ℤ from) ≡ numerator *ℤ (to -ℤ from)
