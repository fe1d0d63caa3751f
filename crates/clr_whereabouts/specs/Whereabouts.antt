-- Where the rows of a need are.
use Rattle.std.specs.Prelude.{◌≡◌, ℤ, Option, Some, None}
use Rattle.std.specs.Option.{option_and_then}
use Rattle.clr_rows.specs.declared.places.Place.{Place}
use Rattle.clr_rows.specs.declared.rows.Row.{Row}
use Rattle.clr_rows.specs.Parts.{part_of}
use Rattle.clr_rules.specs.declared.rules.Rule.{Rule}
use Rattle.clr_rules.specs.declared.rules.Rule.TheVariants.{Near}
use Rattle.clr_rules.specs.Sides.{Segment, point_in}
use Rattle.clr_needs.specs.declared.needs.Need.{Need}
use Rattle.clr_steps.specs.Offices.{Office}
use Rattle.clr_steps.specs.Quiet.{MergeSet}
use Rattle.clr_merge_sets.specs.MemberChanges.{row_in}
use Rattle.clr_phrases.specs.declared.meetings.Meeting.{Meeting}
use Rattle.clr_phrases.specs.declared.meetings.Meeting.TheVariants as met
use Rattle.clr_serving_rows.specs.NeedPlaces.{IsPlaceIn, rule_in}
use Rattle.clr_whereabouts.specs.declared.gaps.Gap.{Gap}
use Rattle.clr_whereabouts.specs.declared.needs.Whereabouts.{Whereabouts}
use Rattle.clr_whereabouts.specs.Crossings.{IsNearMeeting}
use Rattle.clr_whereabouts.specs.Gaps.{IsGapBetween}

-- a place near where two parts meet between whole millimetres, if both are there
abbrev pub IsNearParts : Option Segment → Option Segment → Option Place → Type 0
IsNearParts (Some a) (Some b) near = IsNearMeeting a b near
IsNearParts _ _ near = near ≡ None

-- a place near where the rows of a need meet between whole millimetres, if both stand
abbrev pub IsNearRows : Need → Option Row → Option Row → Option Place → Type 0
IsNearRows need (Some first) (Some second) near = IsNearParts (part_of first.shape need.first_part) (part_of second.shape need.second_part) near
IsNearRows need _ _ near = near ≡ None

-- the same of rows that meet so; none where they don't meet between whole millimetres
abbrev pub IsNearPlace : Need → Option Row → Option Row → Meeting → Option Place → Type 0
IsNearPlace need first second met.Between near = IsNearRows need first second near
IsNearPlace need first second _ near = near ≡ None

-- how far apart two points are that are nearer than d, if both are there
abbrev pub IsGapOfPoints : Option Place → Option Place → ℤ → Option Gap → Type 0
IsGapOfPoints (Some p) (Some q) d gap = IsGapBetween p q d gap
IsGapOfPoints _ _ d gap = gap ≡ None

-- how far apart two rows are that a rule wants farther apart, if both stand
abbrev pub IsGapOfRows : Option Rule → Option Row → Option Row → Option Gap → Type 0
IsGapOfRows (Some (Near a b d)) (Some first) (Some second) gap = IsGapOfPoints (point_in first.shape) (point_in second.shape) d gap
IsGapOfRows _ _ _ gap = gap ≡ None

-- where the rows of a need over a merge set are
pub record IsWhereabouts (o : Office) (s : MergeSet) (need : Need) (w : Whereabouts) : Type 0 where
  pub meeting : IsPlaceIn o s need w.meeting
  pub near : IsNearPlace need (row_in o s need.first) (option_and_then (row_in o s) need.second) w.meeting w.near
  pub gap : IsGapOfRows (rule_in o need) (row_in o s need.first) (option_and_then (row_in o s) need.second) w.gap
