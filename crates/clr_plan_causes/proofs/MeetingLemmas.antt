-- Rows that are told to meet, and a place near where they do.
use Rattle.std.proofs.Common.{◌≡◌, ◌++◌, List, Option, Some, None, option_to_list, refl, subst, sym}
use Rattle.std.specs.Option.{option_and_then, option_map}
use Rattle.clr_rows.specs.declared.places.Place.{Place}
use Rattle.clr_rows.specs.declared.rows.Row.{Row}
use Rattle.clr_rows.specs.Contents.{Changes}
use Rattle.clr_rows.specs.Parts.{part_of}
use Rattle.clr_segments.proofs.BoxLemmas.{segments_touch}
use Rattle.clr_segments.specs.Bounding.{BoxesTouch, box_between}
use Rattle.clr_rules.specs.declared.rules.Rule.{Rule}
use Rattle.clr_rules.specs.declared.rules.Rule.TheVariants.{Crossing, EndNode, Near, Partner, Unique}
use Rattle.clr_rules.specs.Sides.{Segment, end_in}
use Rattle.clr_needs.specs.declared.needs.Need.{Need}
use Rattle.clr_needs.specs.declared.needs.VersionId.{VersionId}
use Rattle.clr_steps.specs.Offices.{Office}
use Rattle.clr_steps.specs.Quiet.{MergeSet}
use Rattle.clr_clearance.specs.MergeSets.{change_sets}
use Rattle.clr_merge_sets.specs.MemberChanges.{row_in}
use Rattle.clr_phrases.specs.declared.meetings.Meeting.{Meeting}
use Rattle.clr_phrases.specs.declared.meetings.Meeting.TheVariants as meeting
use Rattle.clr_serving_rows.specs.NeedPlaces.{IsCrossingPlace, IsPlaceIn, IsServingPlace, end_place, rule_in}
use Rattle.clr_map_scenes.specs.declared.shown_causes.CauseRow.{CauseRow}
use Rattle.clr_plan_causes.specs.CauseMarks.{DoMeet, IsInBothBoxes, IsNear, MeetsSo, both_parts, near_place}
use Rattle.clr_plan_causes.specs.CauseRows.{second_rows, subject_rows, version_row, version_rows}

-- parts that are told to meet between whole places, or in more than one, do meet
parts_between : (x y : Option Segment) → IsCrossingPlace x y meeting.Between → DoMeet (both_parts x y)
parts_between None y is = absurd cc
parts_between (Some a) None is = absurd cc
parts_between (Some a) (Some b) is = is.0

parts_overlap : (x y : Option Segment) → IsCrossingPlace x y meeting.Overlap → DoMeet (both_parts x y)
parts_overlap None y is = absurd cc
parts_overlap (Some a) None is = absurd cc
parts_overlap (Some a) (Some b) is = (is.d, is.s, is.t, is.one)

-- an end is told as a whole place
end_not_between : (place : Option Place) → meeting.Between ≡ end_place place → ⊥
end_not_between None is = cc
end_not_between (Some p) is = cc

end_not_overlap : (place : Option Place) → meeting.Overlap ≡ end_place place → ⊥
end_not_overlap None is = cc
end_not_overlap (Some p) is = cc

-- the subjects of a need, by their rows
meets_by : (sets : List Changes) (v w : VersionId) (r : Option Rule) (need : Need) (told : Meeting) (first second : Option Row)
    → IsServingPlace r need first second told
    → MeetsSo (option_to_list (option_map (version_row sets v) first) ++ option_to_list (option_map (version_row sets w) second)) need told
meets_by sets v w r need (meeting.Whole p) first second is = tt
meets_by sets v w r need meeting.Apart first second is = tt
meets_by sets v w r need meeting.NoParts first second is = tt
meets_by sets v w (Some (Crossing a b server)) need meeting.Between (Some first) (Some second) is =
    parts_between (part_of first.shape need.first_part) (part_of second.shape need.second_part) is
meets_by sets v w (Some (Crossing a b server)) need meeting.Overlap (Some first) (Some second) is =
    parts_overlap (part_of first.shape need.first_part) (part_of second.shape need.second_part) is
meets_by sets v w (Some (EndNode subject tip server)) need meeting.Between (Some first) second is =
    absurd (end_not_between (end_in tip first.shape) is)
meets_by sets v w (Some (EndNode subject tip server)) need meeting.Overlap (Some first) second is =
    absurd (end_not_overlap (end_in tip first.shape) is)
meets_by sets v w r need meeting.Between first second is = absurd cc
meets_by sets v w r need meeting.Overlap first second is = absurd cc

subjects_meet : (o : Office) (s : MergeSet) (need : Need) (told : Meeting) (second : Option VersionId)
    → IsServingPlace (rule_in o need) need (row_in o s need.first) (option_and_then (row_in o s) second) told
    → MeetsSo (version_rows o s need.first ++ second_rows o s second) need told
subjects_meet o s need told None is = meets_by (change_sets o s) need.first need.first (rule_in o need) need told (row_in o s need.first) None is
subjects_meet o s need told (Some v) is = meets_by (change_sets o s) need.first v (rule_in o need) need told (row_in o s need.first) (row_in o s v) is

-- where the subjects of a need are told to meet between whole places, or in more than one, they do meet
pub told_meets : (o : Office) (s : MergeSet) (need : Need) (told : Meeting) (rows : List CauseRow) → rows ≡ subject_rows o s need → IsPlaceIn o s need told
    → MeetsSo rows need told
told_meets o s need told rows are is = subst (λ (rs : List CauseRow). MeetsSo rs need told) (sym are) (subjects_meet o s need told need.second is)

-- a place in the boxes of two parts with a common point is near where they meet
pub near_by : (parts : Option (Segment × Segment)) (a b : Segment) (p : Place) → parts ≡ Some (a, b)
    → (BoxesTouch (box_between a.0 a.1) (box_between b.0 b.1) → IsInBothBoxes a b p) → DoMeet parts → IsNear parts (Some (near_place p))
near_by parts a b p are within meet =
    subst (λ (x : Option (Segment × Segment)). IsNear x (Some (near_place p))) (sym are)
    (p, refl, within (segments_touch a.0 a.1 b.0 b.1 (subst DoMeet are meet)))
