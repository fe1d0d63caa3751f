-- The place of a cause.
use Rattle.std.specs.Prelude.{◌≡◌, List, [], ◌∷◌, Option, Some, None, option_map, string_bytes}
use Rattle.std.specs.Option.{option_and_then, option_or}
use Rattle.clr_rows.specs.declared.places.Place.{Place}
use Rattle.clr_rows.specs.declared.places.Shape.{Shape}
use Rattle.clr_rows.specs.declared.places.Shape.TheVariants.{Bare, At, Line, Chain}
use Rattle.clr_steps.specs.Offices.{Office}
use Rattle.clr_steps.specs.Quiet.{MergeSet}
use Rattle.clr_merge_sets.specs.declared.plans.Plan.{Plan}
use Rattle.clr_drawing.specs.Paths.{middle_place}
use Rattle.clr_map_scenes.specs.declared.shown_causes.Cause.{Cause}
use Rattle.clr_map_scenes.specs.declared.shown_causes.CauseRow.{CauseRow}
use Rattle.clr_map_scenes.specs.declared.shown_causes.Mark.{Mark}
use Rattle.clr_map_scenes.specs.declared.shown_causes.Mark.TheVariants as mark
use Rattle.clr_plan_causes.specs.PlanCauses.{IsCauseOf}
use Rattle.clr_plan_features.specs.declared.cause_features.MarkedPlace.{MarkedPlace}

-- the middle of the line between two points
abbrev pub place_between : Shape → Shape → Option Place
place_between (At p) (At q) = middle_place (Line p q)
place_between _ _ = None

-- the place between the first two of some rows, if these are points
abbrev pub place_between_rows : List CauseRow → Option Place
place_between_rows [] = None
place_between_rows (one ∷ []) = None
place_between_rows (one ∷ other ∷ rows) = place_between one.row.shape other.row.shape

-- the place of a ring, or the one between points that are too near
abbrev pub place_of_mark : Mark → List CauseRow → Option Place
place_of_mark (mark.Ring ring) rows = Some ring.place
place_of_mark mark.Link rows = None
place_of_mark (mark.Near d) rows = place_between_rows rows
place_of_mark mark.Nothing rows = None

-- the middle of the first of some rows, if it has one
abbrev pub middle_of_first : List CauseRow → Option Place
middle_of_first [] = None
middle_of_first (r ∷ rows) = middle_place r.row.shape

-- where to look for a cause: where a map marks it, or else the middle of its first row
abbrev pub place_to_look : Cause → Option Place
place_to_look c = option_or (place_of_mark c.mark c.rows.items) (middle_of_first c.rows.items)

-- the place of a cause, with what a map says there
abbrev pub place_of_cause : Cause → Option MarkedPlace
place_of_cause c = option_map (λ p. record { place = p; says = string_bytes c.says }) (place_of_mark c.mark c.rows.items)

-- the place of the cause of a plan, if it has a cause and that has a place
abbrev pub IsPlaceOfPlan : Office → MergeSet → Plan → Option MarkedPlace → Type 0
IsPlaceOfPlan o s p found = (cause : Option Cause) × IsCauseOf o s p cause × (found ≡ option_and_then place_of_cause cause)
