-- The spots of a row in one of its roles: as a subject, or as a server.
use Rattle.std.specs.Prelude.{ℕ, List, [], ◌∷◌, ◌||◌, Option, None, Some, slice_get}
use Rattle.clr_rows.specs.Held.{Held}
use Rattle.clr_rows.specs.Parts.{part_of}
use Rattle.clr_segments.specs.Bounding.{box_between}
use Rattle.clr_rules.specs.declared.rules.Rule.{Rule}
use Rattle.clr_rules.specs.declared.rules.Rule.TheVariants.{Unique, Partner, EndNode, Crossing, Near}
use Rattle.clr_spots.specs.declared.spots.Spot.{Spot}
use Rattle.clr_rules.specs.Sides.{Segment, is_of_side, point_of, end_of}
use Rattle.clr_spots.specs.Spots.{squares_of, squares_near, square_at, values_in, in_role}

-- all squares that meet the box of a part
abbrev pub squares_of_part : Option Segment → List Spot
squares_of_part None = []
squares_of_part (Some e) = squares_of (box_between e.0 e.1)

-- the spots of a row as a subject: under a crossing those of this part of it
unfoldable pub subject_spots : Rule → ℕ → Held → List Spot
subject_spots (Unique subject columns) part s = in_role (is_of_side subject s) (values_in s columns ∷ [])
subject_spots (Partner subject columns server server_columns) part s = in_role (is_of_side subject s) (values_in s columns ∷ [])
subject_spots (EndNode subject tip server) part s = in_role (is_of_side subject s) (square_at (end_of tip s))
subject_spots (Crossing a b server) part s = in_role (is_of_side a s || is_of_side b s) (squares_of_part (part_of s.1.shape part))
subject_spots (Near a b d) part s = in_role (is_of_side a s || is_of_side b s) (squares_near d (point_of s))

-- the spots of a row as a server
unfoldable pub server_spots : Rule → Held → List Spot
server_spots (Partner subject columns server server_columns) s = in_role (is_of_side server s) (values_in s server_columns ∷ [])
server_spots (EndNode subject tip server) s = in_role (is_of_side server s) (square_at (point_of s))
server_spots (Crossing a b server) s = in_role (is_of_side server s) (square_at (point_of s))
server_spots _ s = []

-- the spots of a row as a subject under the rule of a number
abbrev pub subject_spots_by : Option Rule → ℕ → Held → List Spot
subject_spots_by None part s = []
subject_spots_by (Some rule) part s = subject_spots rule part s

abbrev pub server_spots_by : Option Rule → Held → List Spot
server_spots_by None s = []
server_spots_by (Some rule) s = server_spots rule s

unfoldable pub subject_spots_under : List Rule → ℕ → ℕ → Held → List Spot
subject_spots_under rules number part s = subject_spots_by (slice_get rules number) part s

unfoldable pub server_spots_under : List Rule → ℕ → Held → List Spot
server_spots_under rules number s = server_spots_by (slice_get rules number) s
