-- Parts and rows that meet between places of whole millimetres.
use Rattle.std.proofs.Common.{◌≡◌, ◌≢◌, inl, inr, ℕ, pos, ◌-ℤ◌, Option, Some, None}
use Rattle.clr_rows.specs.declared.places.Place.{Place}
use Rattle.clr_rows.specs.declared.rows.Row.{Row}
use Rattle.clr_rows.specs.Parts.{part_of}
use Rattle.clr_segments.specs.Segments.{CommonPoint}
use Rattle.clr_segments.proofs.Crossings.{to_shares}
use Rattle.clr_segments.proofs.Shares.{first_share}
use Rattle.clr_rules.specs.declared.rules.Rule.{Rule}
use Rattle.clr_rules.specs.declared.rules.Rule.TheVariants.{Crossing, EndNode, Near, Partner, Unique}
use Rattle.clr_rules.specs.Sides.{end_in}
use Rattle.clr_needs.specs.declared.needs.Need.{Need}
use Rattle.clr_phrases.specs.Crossings.{product_of_ways}
use Rattle.clr_phrases.specs.declared.meetings.Meeting.TheVariants as meeting
use Rattle.clr_phrases.specs.Meetings.{IsPart}
use Rattle.clr_phrases.proofs.ParallelLemmas.{end_on_second, first_end, last_end}
use Rattle.clr_serving_rows.specs.NeedPlaces.{IsCrossingPlace, IsServingPlace, end_place}
use Rattle.clr_whereabouts.specs.Crossings.{IsShare, MeetBetween}

-- parts that meet between places of whole millimetres aren't parallel: parallel parts with one common point have an end in common
pub not_parallel : (a b c d : Place) → IsPart a b → IsPart c d → MeetBetween (a, b) (c, d) → product_of_ways a b c d ≢ pos 0
not_parallel a b c d part other between parallel =
    elim (end_on_second a b c d part.2 other.2 parallel between.0 between.1) [
      | inl f ↦ between.2 a (first_end a b) f
      | inr l ↦ between.2 b (last_end a b) l
    ]

-- the share of a common point, by cross products
pub share_of : (a b c d : Place) (k s t : ℕ) → product_of_ways a b c d ≢ pos 0 → CommonPoint a b c d k s t
    → IsShare k s (product_of_ways a c c d) (product_of_ways a b c d)
share_of a b c d k s t slanted h =
    let shares = to_shares a b c d k s t h in
    record {
      positive = h.positive;
      on_way = h.on_first;
      divides = slanted;
      equal = first_share (pos s) (pos k) (pos t) (b.x -ℤ a.x) (b.y -ℤ a.y) (d.x -ℤ c.x) (d.y -ℤ c.y) (c.x -ℤ a.x) (c.y -ℤ a.y) shares.in_x shares.in_y;
    }

-- an end is told as a whole place
end_not_between : (place : Option Place) → meeting.Between ≡ end_place place → ⊥
end_not_between None is = cc
end_not_between (Some p) is = cc

-- only the rows of a crossing meet between places of whole millimetres, by their parts
pub parts_between : (r : Option Rule) (need : Need) (first second : Row) → IsServingPlace r need (Some first) (Some second) meeting.Between
    → IsCrossingPlace (part_of first.shape need.first_part) (part_of second.shape need.second_part) meeting.Between
parts_between (Some (Crossing a b server)) need first second is = is
parts_between (Some (EndNode subject tip server)) need first second is = absurd (end_not_between (end_in tip first.shape) is)
parts_between (Some (Unique subject columns)) need first second is = absurd cc
parts_between (Some (Partner subject columns server others)) need first second is = absurd cc
parts_between (Some (Near a b d)) need first second is = absurd cc
parts_between None need first second is = absurd cc
