-- How far apart two points are that are too near, in whole millimetres.
use Rattle.std.specs.Prelude.{◌≡◌, ◌↔◌, ◌≤◌, ◌<◌, ◌≤ℤ◌, ◌<ℤ◌, ◌*ℤ◌, ◌-ℤ◌, ◌+◌, ◌*◌, ℕ, ℤ, pos, unsigned_abs, IsTrue, Option, Some, None}
use Rattle.clr_rows.specs.declared.places.Place.{Place}
use Rattle.clr_rows.specs.Places.{InRange}
use Rattle.clr_segments.specs.Turns.{squared_distance}
use Rattle.clr_whereabouts.specs.declared.gaps.Gap.{Gap}

-- r is the root of n, rounded down: the greatest whole number whose square is at most n
abbrev pub IsRoot : ℕ → ℕ → Type 0
IsRoot n r = (r * r ≤ n) × (n < (r + 1) * (r + 1))

-- what is told of two points that are nearer than d, where n is the square of their distance: the distance is rounded down, so what is missing is rounded up
pub record IsGap (n : ℕ) (d : ℤ) (gap : Gap) : Type 0 where
  pub root : ℕ
  pub rounded : IsRoot n root
  pub distance : gap.distance ≡ pos root
  pub missing : gap.missing ≡ d -ℤ pos root
  pub something : pos 0 <ℤ gap.missing
  pub whole : IsTrue gap.is_whole ↔ (root * root ≡ n)

-- what is told where n is the square of a distance: none where it isn't less than d
abbrev pub IsGapOfSquare : ℕ → ℤ → Option Gap → Type 0
IsGapOfSquare n d (Some gap) = IsGap n d gap
IsGapOfSquare n d None = pos 1 ≤ℤ d → unsigned_abs d * unsigned_abs d ≤ n

-- p and q are points of the plane that are nearer than d
pub record AreTooNear (p q : Place) (d : ℤ) : Type 0 where
  pub first : InRange p
  pub second : InRange q
  pub least : pos 1 ≤ℤ d
  pub nearer : squared_distance p q <ℤ (d *ℤ d)

-- what is told of two points: none of points that aren't nearer than d
abbrev pub IsGapBetween : Place → Place → ℤ → Option Gap → Type 0
IsGapBetween p q d (Some gap) = (n : ℕ) × (squared_distance p q ≡ pos n) × IsGap n d gap
IsGapBetween p q d None = AreTooNear p q d → ⊥
