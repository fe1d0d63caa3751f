-- Where a row that serves a need would have to stand.
use Rattle.std.specs.Prelude.{◌≡◌, Option, Some, None, slice_get}
use Rattle.std.specs.Option.{option_and_then}
use Rattle.clr_rows.specs.declared.places.Place.{Place}
use Rattle.clr_rows.specs.declared.rows.Row.{Row}
use Rattle.clr_rows.specs.Parts.{part_of}
use Rattle.clr_rules.specs.declared.rules.Rule.{Rule}
use Rattle.clr_rules.specs.declared.rules.Rule.TheVariants.{Crossing, EndNode}
use Rattle.clr_rules.specs.Sides.{Segment, end_in}
use Rattle.clr_needs.specs.declared.needs.Need.{Need}
use Rattle.clr_steps.specs.Offices.{Office}
use Rattle.clr_steps.specs.Quiet.{MergeSet}
use Rattle.clr_phrases.specs.declared.meetings.Meeting.{Meeting}
use Rattle.clr_phrases.specs.declared.meetings.Meeting.TheVariants as meeting
use Rattle.clr_phrases.specs.Meetings.{IsMeetingOfParts}
use Rattle.clr_merge_sets.specs.MemberChanges.{row_in}

-- the rule of a need, if there is one
abbrev pub rule_in : Office → Need → Option Rule
rule_in o need = slice_get o.book need.rule

-- an end of a row as a whole place, if the row has ends
abbrev pub end_place : Option Place → Meeting
end_place None = meeting.NoParts
end_place (Some place) = meeting.Whole place

-- where two parts meet, if both are there
abbrev pub IsCrossingPlace : Option Segment → Option Segment → Meeting → Type 0
IsCrossingPlace (Some a) (Some b) place = IsMeetingOfParts a.0 a.1 b.0 b.1 place
IsCrossingPlace _ _ place = place ≡ meeting.NoParts

-- of an end the end itself, of a crossing where the parts of its two rows meet; another rule asks for no place, and a row that isn't there has none
abbrev pub IsServingPlace : Option Rule → Need → Option Row → Option Row → Meeting → Type 0
IsServingPlace (Some (EndNode subject tip server)) need (Some first) second place = place ≡ end_place (end_in tip first.shape)
IsServingPlace (Some (Crossing a b server)) need (Some first) (Some second) place =
    IsCrossingPlace (part_of first.shape need.first_part) (part_of second.shape need.second_part) place
IsServingPlace _ need first second place = place ≡ meeting.NoParts

-- where a row that serves a need over a merge set would have to stand
abbrev pub IsPlaceIn : Office → MergeSet → Need → Meeting → Type 0
IsPlaceIn o s need place = IsServingPlace (rule_in o need) need (row_in o s need.first) (option_and_then (row_in o s) need.second) place
