-- What holds of segments and boxes by their definitions, whatever the code does.
use Rattle.std.specs.Prelude.{◌≡◌, ℕ, ℤ, pos, ◌*ℤ◌, ◌≤ℤ◌, ◌<ℤ◌, ◌<◌, Some}
use Rattle.std.specs.Bool.{Decides}
use Rattle.clr_rows.specs.declared.places.Place.{Place}
use Rattle.clr_rows.specs.declared.places.Shape.{Shape}
use Rattle.clr_rows.specs.Parts.{vertices_of, part_of}
use Rattle.clr_rows.specs.Places.{Differ}
use Rattle.clr_segments.specs.declared.boxes.Bounds.{Bounds}
use Rattle.clr_segments.specs.declared.meeting.Meet.{Meet}
use Rattle.clr_segments.specs.Segments.{LiesOn, SomeCommonPoint, TwoCommonPoints, MeetIs}
use Rattle.clr_segments.specs.Searches.{lies_on, have_common_point, have_two_common_points}
use Rattle.clr_segments.specs.Turns.{squared_distance}
use Rattle.clr_segments.specs.Bounding.{InBox, PointInBox, BoxesTouch, HoldsSegment, IsWithin, IsLeastBoxOf, box_between, box_of_shape, grown_box}

-- two boxes with a common point (m / d, n / d) have one of whole coordinates
abbrev pub CommonPointsAreWhole : Type 0
CommonPointsAreWhole = (b c : Bounds) → (d : ℕ) → (m n : ℤ)
    → 0 < d
    → PointInBox d m n b
    → PointInBox d m n c
    → BoxesTouch b c

-- the boxes of two segments with a common point touch
abbrev pub MeetingBoxesTouch : Type 0
MeetingBoxesTouch = (p q r u : Place)
    → SomeCommonPoint p q r u
    → BoxesTouch (box_between p q) (box_between r u)

-- a point of a segment is in the segment's box
abbrev pub PointsAreBoxed : Type 0
PointsAreBoxed = (x p q : Place) → LiesOn x p q → InBox x (box_between p q)

-- a shape's box is the least that holds its vertices
abbrev pub ShapesAreBoxed : Type 0
ShapesAreBoxed = (shape : Shape) → (b : Bounds) → box_of_shape shape ≡ Some b → IsLeastBoxOf (vertices_of shape) b

-- a part's box, and so each point of the part, is in its shape's box
abbrev pub PartsAreBoxed : Type 0
PartsAreBoxed = (shape : Shape) → (n : ℕ) → (p q : Place) → (b : Bounds)
    → part_of shape n ≡ Some (p, q)
    → box_of_shape shape ≡ Some b
    → IsWithin (box_between p q) b × HoldsSegment p q b

-- the boxes of two shapes touch where parts of them have a common point
abbrev pub MeetingShapesTouch : Type 0
MeetingShapesTouch = (s t : Shape) → (m n : ℕ) → (p q r u : Place) → (b c : Bounds)
    → part_of s m ≡ Some (p, q)
    → part_of t n ≡ Some (r, u)
    → SomeCommonPoint p q r u
    → box_of_shape s ≡ Some b
    → box_of_shape t ≡ Some c
    → BoxesTouch b c

-- the boxes of two points nearer than d, grown by d, touch
abbrev pub NearBoxesTouch : Type 0
NearBoxesTouch = (p q : Place) → (d : ℤ)
    → pos 1 ≤ℤ d
    → squared_distance p q <ℤ (d *ℤ d)
    → BoxesTouch (grown_box (box_between p p) d) (grown_box (box_between q q) d)

-- two segments meet in one way alone
abbrev pub MeetIsOne : Type 0
MeetIsOne = (m n : Meet) → (p q r u : Place)
    → MeetIs m p q r u
    → MeetIs n p q r u
    → m ≡ n

-- two segments meet in the same way whichever of them is named first
abbrev pub SegmentsInEitherOrder : Type 0
SegmentsInEitherOrder = (m : Meet) → (p q r u : Place)
    → Differ p q
    → Differ r u
    → MeetIs m p q r u
    → MeetIs m r u p q

-- two segments meet in the same way whichever end of each is named first
abbrev pub EndsInEitherOrder : Type 0
EndsInEitherOrder = (m : Meet) → (p q r u : Place)
    → MeetIs m p q r u → MeetIs m q p r u × MeetIs m p q u r

-- a search of a segment's shares finds each place of the segment, and no other
abbrev pub PointsAreFound : Type 0
PointsAreFound = (x p q : Place) → Differ p q → Decides (lies_on x p q) (LiesOn x p q)

-- a search of two segments' shares finds a common point exactly where there is one
abbrev pub CommonPointsAreFound : Type 0
CommonPointsAreFound = (p q r u : Place)
    → Differ p q
    → Differ r u
    → Decides (have_common_point p q r u) (SomeCommonPoint p q r u)

-- a search of two segments' shares finds two common points exactly where there are two that differ
abbrev pub TwoCommonPointsAreFound : Type 0
TwoCommonPointsAreFound = (p q r u : Place)
    → Differ p q
    → Differ r u
    → Decides (have_two_common_points p q r u) (TwoCommonPoints p q r u)
