-- Points within the limits of the plane.
use Rattle.std.specs.Prelude.{◌≡◌, ◌≤◌, unsigned_abs}
use Rattle.clr_rows.specs.declared.limits.TheConstants.{GREATEST_COORDINATE}
use Rattle.clr_rows.specs.declared.places.Place.{Place}

-- neither coordinate is greater in size than the greatest
pub record InRange (p : Place) : Type 0 where
  pub in_x : unsigned_abs p.x ≤ GREATEST_COORDINATE
  pub in_y : unsigned_abs p.y ≤ GREATEST_COORDINATE

-- two points that aren't one
abbrev pub Differ : Place → Place → Type 0
Differ a b = a.x ≡ b.x → a.y ≡ b.y → ⊥
