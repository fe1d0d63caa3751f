-- Points of segments, told by whole numbers alone: a point stands a share s / d of the way.
use Rattle.std.specs.Prelude.{◌≡◌, ◌≢◌, ℕ, ℤ, pos, ◌+ℤ◌, ◌-ℤ◌, ◌*ℤ◌, ◌*◌, ◌<◌, ◌≤◌}
use Rattle.clr_rows.specs.declared.places.Place.{Place}
use Rattle.clr_segments.specs.declared.meeting.Meet.{Meet}
use Rattle.clr_segments.specs.declared.meeting.Meet.TheVariants.{Apart, Once, Overlap}

-- d times the coordinate that stands s / d of the way from p to q
abbrev pub part_way : ℕ → ℕ → ℤ → ℤ → ℤ
part_way d s p q = pos d *ℤ p +ℤ pos s *ℤ (q -ℤ p)

-- one point stands s / d of the way from p to q, and t / d of the way from r to u
pub record CommonPoint (p q r u : Place) (d s t : ℕ) : Type 0 where
  pub positive : 0 < d
  pub on_first : s ≤ d
  pub on_second : t ≤ d
  pub equal_x : part_way d s p.x q.x ≡ part_way d t r.x u.x
  pub equal_y : part_way d s p.y q.y ≡ part_way d t r.y u.y

-- x stands s / d of the way from p to q
pub record PointAt (x p q : Place) (d s : ℕ) : Type 0 where
  pub positive : 0 < d
  pub on_segment : s ≤ d
  pub equal_x : part_way d s p.x q.x ≡ pos d *ℤ x.x
  pub equal_y : part_way d s p.y q.y ≡ pos d *ℤ x.y

-- x is a point of the segment from p to q
abbrev pub LiesOn : Place → Place → Place → Type 0
LiesOn x p q = (d : ℕ) × (s : ℕ) × PointAt x p q d s

-- the segments p-q and r-u have no common point
abbrev pub NoCommonPoint : Place → Place → Place → Place → Type 0
NoCommonPoint p q r u = (d s t : ℕ) → CommonPoint p q r u d s t → ⊥

-- the segments p-q and r-u have at least one common point
abbrev pub SomeCommonPoint : Place → Place → Place → Place → Type 0
SomeCommonPoint p q r u = (d : ℕ) × (s : ℕ) × (t : ℕ) × CommonPoint p q r u d s t

-- the segments p-q and r-u have at most one common point: s / d and s' / d' are the same share of the way from p to q
abbrev pub OneCommonPoint : Place → Place → Place → Place → Type 0
OneCommonPoint p q r u = (d s t d' s' t' : ℕ)
    → CommonPoint p q r u d s t
    → CommonPoint p q r u d' s' t'
    → s * d' ≡ s' * d

-- the segments p-q and r-u have two common points that differ
pub record TwoCommonPoints (p q r u : Place) : Type 0 where
  pub d : ℕ
  pub s : ℕ
  pub t : ℕ
  pub d' : ℕ
  pub s' : ℕ
  pub t' : ℕ
  pub one : CommonPoint p q r u d s t
  pub another : CommonPoint p q r u d' s' t'
  pub differ : s * d' ≢ s' * d

-- how the segments p-q and r-u meet
abbrev pub MeetIs : Meet → Place → Place → Place → Place → Type 0
MeetIs Apart p q r u = NoCommonPoint p q r u
MeetIs Once p q r u = SomeCommonPoint p q r u × OneCommonPoint p q r u
MeetIs Overlap p q r u = TwoCommonPoints p q r u
