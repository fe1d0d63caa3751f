-- Where a cause is, and how its place is marked.
use Rattle.std.specs.Prelude.{◌≡◌, ℕ, true, false, List, [], ◌∷◌, Option, Some, None, slice_get}
use Rattle.std.specs.Option.{option_and_then, option_map}
use Rattle.clr_rows.specs.declared.places.Place.{Place}
use Rattle.clr_rows.specs.Parts.{part_of}
use Rattle.clr_segments.specs.Bounding.{InBox, box_between}
use Rattle.clr_segments.specs.Segments.{SomeCommonPoint}
use Rattle.clr_rules.specs.declared.rules.Rule.{Rule}
use Rattle.clr_rules.specs.declared.rules.Rule.TheVariants.{Crossing, EndNode, Near, Partner, Unique}
use Rattle.clr_rules.specs.Sides.{Segment}
use Rattle.clr_needs.specs.declared.needs.Need.{Need}
use Rattle.clr_steps.specs.Offices.{Office}
use Rattle.clr_steps.specs.Quiet.{MergeSet}
use Rattle.clr_drawing.specs.Paths.{middle_place}
use Rattle.clr_phrases.specs.declared.meetings.Meeting.{Meeting}
use Rattle.clr_phrases.specs.declared.meetings.Meeting.TheVariants as meeting
use Rattle.clr_serving_rows.specs.NeedPlaces.{IsPlaceIn}
use Rattle.clr_map_scenes.specs.declared.shown_causes.CausePlace.{CausePlace}
use Rattle.clr_map_scenes.specs.declared.shown_causes.CauseRow.{CauseRow}
use Rattle.clr_map_scenes.specs.declared.shown_causes.Mark.{Mark}
use Rattle.clr_map_scenes.specs.declared.shown_causes.Mark.TheVariants as mark

abbrev pub whole_place : Place → CausePlace
whole_place p = record { place = p; is_whole = true }

-- a place near where rows meet, at which none can stand
abbrev pub near_place : Place → CausePlace
near_place p = record { place = p; is_whole = false }

abbrev pub ring_at : Option CausePlace → Mark
ring_at None = mark.Nothing
ring_at (Some ring) = mark.Ring ring

-- the middle of the first of some rows, if it has one
abbrev pub middle_of_first : List CauseRow → Option CausePlace
middle_of_first [] = None
middle_of_first (r ∷ rows) = option_map whole_place (middle_place r.row.shape)

-- the part of this number of the row at a position, if there are both
abbrev pub part_at : List CauseRow → ℕ → ℕ → Option Segment
part_at rows at n = option_and_then (λ (r : CauseRow). part_of r.row.shape n) (slice_get rows at)

abbrev pub both_parts : Option Segment → Option Segment → Option (Segment × Segment)
both_parts None second = None
both_parts (Some a) None = None
both_parts (Some a) (Some b) = Some (a, b)

-- the parts of a need's two rows at which they meet, if both are there
abbrev pub meeting_parts : List CauseRow → Need → Option (Segment × Segment)
meeting_parts rows need = both_parts (part_at rows 0 need.first_part) (part_at rows 1 need.second_part)

-- both parts are there, and have a common point
abbrev pub DoMeet : Option (Segment × Segment) → Type 0
DoMeet None = ⊥
DoMeet (Some parts) = SomeCommonPoint parts.0.0 parts.0.1 parts.1.0 parts.1.1

-- the place is in the least box round each of two parts
abbrev pub IsInBothBoxes : Segment → Segment → Place → Type 0
IsInBothBoxes a b p = InBox p (box_between a.0 a.1) × InBox p (box_between b.0 b.1)

-- near where two parts meet, at a place where no row can stand: a place in the boxes of both
abbrev pub IsNear : Option (Segment × Segment) → Option CausePlace → Type 0
IsNear None found = ⊥
IsNear (Some parts) found = (p : Place) × (found ≡ Some (near_place p)) × IsInBothBoxes parts.0 parts.1 p

-- rows that are told to meet between whole places, or in more than one, do meet
abbrev pub MeetsSo : List CauseRow → Need → Meeting → Type 0
MeetsSo rows need meeting.Between = DoMeet (meeting_parts rows need)
MeetsSo rows need meeting.Overlap = DoMeet (meeting_parts rows need)
MeetsSo rows need told = Unit {0}

-- where rows of a need meet that are told to meet so: a whole place is that place, and rows that don't meet, or needn't, are marked in the middle
-- of the first
abbrev pub IsMeetingPlace : List CauseRow → Need → Meeting → Option CausePlace → Type 0
IsMeetingPlace rows need (meeting.Whole p) found = found ≡ Some (whole_place p)
IsMeetingPlace rows need meeting.Apart found = found ≡ middle_of_first rows
IsMeetingPlace rows need meeting.NoParts found = found ≡ middle_of_first rows
IsMeetingPlace rows need meeting.Between found = IsNear (meeting_parts rows need) found
IsMeetingPlace rows need meeting.Overlap found = IsNear (meeting_parts rows need) found

-- where a need with these subjects fails
abbrev pub IsNeedPlace : Office → MergeSet → Need → List CauseRow → Option CausePlace → Type 0
IsNeedPlace o s need rows found = (told : Meeting) × IsPlaceIn o s need told × IsMeetingPlace rows need told found

abbrev pub IsRing : Office → MergeSet → Need → List CauseRow → Mark → Type 0
IsRing o s need rows m = (found : Option CausePlace) × IsNeedPlace o s need rows found × (m ≡ ring_at found)

-- rows that are alike are linked, and points that are too near have the distance round them
abbrev pub IsMark : Office → MergeSet → Need → Rule → List CauseRow → Mark → Type 0
IsMark o s need (Unique subject columns) rows m = m ≡ mark.Link
IsMark o s need (Near a b d) rows m = m ≡ mark.Near d
IsMark o s need (Partner subject columns server others) rows m = IsRing o s need rows m
IsMark o s need (EndNode subject tip server) rows m = IsRing o s need rows m
IsMark o s need (Crossing a b server) rows m = IsRing o s need rows m
