-- What is told of where two parts meet.
use Rattle.clr_rows.specs.declared.places.Place.{Place}
use Rattle.clr_rows.specs.Places.{Differ, InRange}
use Rattle.clr_segments.specs.Segments.{LiesOn, NoCommonPoint, OneCommonPoint, SomeCommonPoint, TwoCommonPoints}
use Rattle.clr_phrases.specs.declared.meetings.Meeting.{Meeting}
use Rattle.clr_phrases.specs.declared.meetings.Meeting.TheVariants as meeting

-- a and b are the ends of a part: they differ, and their coordinates are in range
abbrev pub IsPart : Place → Place → Type 0
IsPart a b = InRange a × InRange b × Differ a b

-- no place of whole coordinates lies on both a-b and c-d
abbrev pub NoCommonPlace : Place → Place → Place → Place → Type 0
NoCommonPlace a b c d = (p : Place) → LiesOn p a b → LiesOn p c d → ⊥

-- what is told of the parts a-b and c-d is so: a place that is told lies on both, and no other point does
abbrev pub IsMeetingOfParts : Place → Place → Place → Place → Meeting → Type 0
IsMeetingOfParts a b c d (meeting.Whole p) = LiesOn p a b × LiesOn p c d × OneCommonPoint a b c d
IsMeetingOfParts a b c d meeting.Between = SomeCommonPoint a b c d × OneCommonPoint a b c d × NoCommonPlace a b c d
IsMeetingOfParts a b c d meeting.Overlap = TwoCommonPoints a b c d
IsMeetingOfParts a b c d meeting.Apart = NoCommonPoint a b c d
IsMeetingOfParts a b c d meeting.NoParts = IsPart a b × IsPart c d → ⊥
