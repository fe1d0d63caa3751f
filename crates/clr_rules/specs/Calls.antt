-- What is asked of rows: which of them call a rule, and which serve them.
use Rattle.std.specs.Prelude.{ℕ, ℤ, ◌*ℤ◌, Bool, false, not, List, [], ◌∷◌, ◌&&◌, ◌==◌, length, map, Option, Some, None, slice_get, int_lt}
use Rattle.std.specs.List.{flat_map, range_with_len}
use Rattle.clr_rows.specs.declared.places.Place.{Place}
use Rattle.clr_rows.specs.Held.{Held}
use Rattle.clr_rows.specs.Parts.{parts_of, part_of}
use Rattle.clr_rows.specs.Same.{same_place}
use Rattle.clr_segments.specs.Searches.{lies_on, have_common_point, have_two_common_points}
use Rattle.clr_segments.specs.Turns.{squared_distance}
use Rattle.clr_rules.specs.declared.needs.Ask.{Ask}
use Rattle.clr_rules.specs.declared.rules.Rule.{Rule}
use Rattle.clr_rules.specs.declared.rules.Rule.TheVariants.{Unique, Partner, EndNode, Crossing, Near}
use Rattle.clr_rules.specs.Sides.{Segment, is_of_side, is_of, are_of, sides, are_equal_in, point_of, end_of}

-- asks ---------------------------------------------------------------------------------------

abbrev pub ask_of_parts : ℕ → ℕ → ℕ → Ask
ask_of_parts number m n = record { rule = number; first_part = m; second_part = n }

-- a rule asked of whole rows
abbrev pub plain_ask : ℕ → Ask
plain_ask number = ask_of_parts number 1 1

abbrev pub is_plain : Ask → Bool
is_plain ask = ask.first_part == 1 && ask.second_part == 1

-- how many parts of a row a rule is asked of: of a crossing all, of another rule the row as a whole
abbrev pub part_count_by : Option Rule → Held → ℕ
part_count_by (Some (Crossing a b server)) s = length (parts_of s.1.shape)
part_count_by _ s = 1

unfoldable pub part_count : List Rule → ℕ → Held → ℕ
part_count rules number s = part_count_by (slice_get rules number) s

-- the asks of the first m parts of one row beside the first n of another, ascending
abbrev pub asks_up_to : ℕ → ℕ → ℕ → List Ask
asks_up_to number m n = flat_map (λ i. map (λ j. ask_of_parts number i j) (range_with_len 1 n)) (range_with_len 1 m)

-- all that a rule can be asked of some rows
abbrev pub asks : List Rule → ℕ → Held → Option Held → List Ask
asks rules number s None = plain_ask number ∷ []
asks rules number s (Some t) = asks_up_to number (part_count rules number s) (part_count rules number t)

-- answers ------------------------------------------------------------------------------------

-- two segments with a common point
abbrev pub have_meeting : Option Segment → Option Segment → Bool
have_meeting (Some a) (Some b) = have_common_point a.0 a.1 b.0 b.1
have_meeting _ _ = false

-- two points nearer than d
abbrev pub are_nearer : ℤ → Option Place → Option Place → Bool
are_nearer d (Some p) (Some q) = int_lt (squared_distance p q) (d *ℤ d)
are_nearer d _ _ = false

-- two points that are there and are one
abbrev pub are_one_point : Option Place → Option Place → Bool
are_one_point (Some p) (Some q) = same_place p q
are_one_point _ _ = false

-- a point of two segments that don't overlap
abbrev pub is_crossing_at : Option Segment → Option Segment → Option Place → Bool
is_crossing_at (Some a) (Some b) (Some p) = not (have_two_common_points a.0 a.1 b.0 b.1) && (lies_on p a.0 a.1 && lies_on p b.0 b.1)
is_crossing_at _ _ _ = false

-- whether two rows are such that they call a rule where they are of its sides. Under a crossing the parts of
-- the ask call, and none calls that isn't there; another rule is asked of whole rows
abbrev pub are_related : Rule → Ask → Held → Held → Bool
are_related (Unique subject columns) ask s t = is_plain ask && are_equal_in s columns t columns
are_related (Crossing a b server) ask s t = have_meeting (part_of s.1.shape ask.first_part) (part_of t.1.shape ask.second_part)
are_related (Near a b d) ask s t = is_plain ask && are_nearer d (point_of s) (point_of t)
are_related _ _ _ _ = false

-- whether a row, or two of different cells, call a rule: a row that serves them must stand
unfoldable pub are_subjects : Rule → Ask → Held → Option Held → Bool
are_subjects rule ask s None = is_plain ask && is_of (sides rule).alone s
are_subjects rule ask s (Some t) = are_of (sides rule).first (sides rule).second s t && are_related rule ask s t

-- whether a row is such that it serves the subjects of a rule where it is of the server's side
abbrev pub suits : Rule → Ask → Held → Option Held → Held → Bool
suits (Partner subject columns server server_columns) ask s None r = is_plain ask && (is_of_side subject s && are_equal_in s columns r server_columns)
suits (EndNode subject tip server) ask s None r = is_plain ask && (is_of_side subject s && are_one_point (end_of tip s) (point_of r))
suits (Crossing a b server) ask s (Some t) r = is_crossing_at (part_of s.1.shape ask.first_part) (part_of t.1.shape ask.second_part) (point_of r)
suits _ _ _ _ _ = false

-- whether a row serves the subjects of a rule
unfoldable pub is_server : Rule → Ask → Held → Option Held → Held → Bool
is_server rule ask s t r = is_of (sides rule).server r && suits rule ask s t r

abbrev pub are_subjects_of : Option Rule → Ask → Held → Option Held → Bool
are_subjects_of None ask s t = false
are_subjects_of (Some rule) ask s t = are_subjects rule ask s t

abbrev pub is_server_of : Option Rule → Ask → Held → Option Held → Held → Bool
is_server_of None ask s t r = false
is_server_of (Some rule) ask s t r = is_server rule ask s t r

-- whether rows call the rule of an ask; a rule that isn't there has no subjects
unfoldable pub calls : List Rule → Ask → Held → Option Held → Bool
calls rules ask s t = are_subjects_of (slice_get rules ask.rule) ask s t

unfoldable pub serves : List Rule → Ask → Held → Option Held → Held → Bool
serves rules ask s t r = is_server_of (slice_get rules ask.rule) ask s t r
