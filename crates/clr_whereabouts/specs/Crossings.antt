-- Near which place two parts meet whose common point is no place of whole millimetres.
use Rattle.std.specs.Prelude.{◌≡◌, ◌≢◌, ◌≤◌, ◌<◌, ◌*ℤ◌, ◌-ℤ◌, ◌*◌, ℕ, ℤ, pos, unsigned_abs, Option, Some, None}
use Rattle.clr_rows.specs.declared.limits.TheConstants.{GREATEST_COORDINATE}
use Rattle.clr_rows.specs.declared.places.Place.{Place}
use Rattle.clr_segments.specs.Segments.{CommonPoint, part_way}
use Rattle.clr_rules.specs.Sides.{Segment}
use Rattle.clr_phrases.specs.declared.meetings.Meeting.TheVariants as meeting
use Rattle.clr_phrases.specs.Meetings.{IsMeetingOfParts, IsPart}

-- x is less than 1 from the number that stands s / d of the way from one number to another
abbrev pub IsNumberNear : ℕ → ℕ → ℤ → ℤ → ℤ → Type 0
IsNumberNear d s from to x = unsigned_abs (pos d *ℤ x -ℤ part_way d s from to) < d

-- p is less than a millimetre, in each coordinate, from the point that stands s / d of the way from a to b
pub record IsPointNear (d s : ℕ) (a b p : Place) : Type 0 where
  pub in_x : IsNumberNear d s a.x b.x p.x
  pub in_y : IsNumberNear d s a.y b.y p.y

-- p is near a common point of two parts
abbrev pub IsCommonNear : Segment → Segment → Place → Type 0
IsCommonNear a b p = (d : ℕ) × (s : ℕ) × (t : ℕ) × CommonPoint a.0 a.1 b.0 b.1 d s t × IsPointNear d s a.0 a.1 p

-- two parts have one common point, and it is no place of whole millimetres
abbrev pub MeetBetween : Segment → Segment → Type 0
MeetBetween a b = IsMeetingOfParts a.0 a.1 b.0 b.1 meeting.Between

-- what is told of parts that meet between places of whole millimetres: a place near; none where they are no parts
abbrev pub IsNearMeeting : Segment → Segment → Option Place → Type 0
IsNearMeeting a b (Some p) = IsCommonNear a b p
IsNearMeeting a b None = IsPart a.0 a.1 × IsPart b.0 b.1 → ⊥

-- numerator / denominator is the share s / d
pub record IsShare (d s : ℕ) (numerator denominator : ℤ) : Type 0 where
  pub positive : 0 < d
  pub on_way : s ≤ d
  pub divides : denominator ≢ pos 0
  pub equal : pos s *ℤ denominator ≡ pos d *ℤ numerator

-- farther from 0 no number is that stands near a way
abbrev pub greatest_reach : ℕ
greatest_reach = 3 * GREATEST_COORDINATE

-- x is near the share of a way, and isn't far
abbrev pub IsReached : ℕ → ℕ → ℤ → ℤ → ℤ → Type 0
IsReached d s from to x = IsNumberNear d s from to x × (unsigned_abs x ≤ greatest_reach)
