-- Rows as the sides of rules see them: which are of a side, and what they have in its columns.
use Rattle.std.specs.Prelude.{ℕ, Bool, true, false, List, ◌&&◌, ◌||◌, ◌==◌, ◌-◌, length, Option, Some, None, slice_get, if◌then◌else◌}
use Rattle.std.specs.List.{list_all, zip}
use Rattle.clr_rows.specs.declared.places.Place.{Place}
use Rattle.clr_rows.specs.declared.places.Shape.{Shape}
use Rattle.clr_rows.specs.declared.places.Shape.TheVariants.{At, Line, Chain}
use Rattle.clr_rows.specs.declared.rows.Row.{Row}
use Rattle.clr_rows.specs.declared.rows.Value.{Value}
use Rattle.clr_rows.specs.declared.rows.Value.TheVariants.{Int}
use Rattle.clr_rows.specs.Held.{Held}
use Rattle.clr_rows.specs.Same.{same_value}
use Rattle.clr_rules.specs.declared.columns.Col.{Col}
use Rattle.clr_rules.specs.declared.columns.Col.TheVariants as column
use Rattle.clr_rules.specs.declared.rules.Rule.{Rule}
use Rattle.clr_rules.specs.declared.rules.Rule.TheVariants.{Unique, Partner, EndNode, Crossing, Near}
use Rattle.clr_rules.specs.declared.rules.Tip.{Tip}
use Rattle.clr_rules.specs.declared.rules.Tip.TheVariants.{First, Second}
use Rattle.clr_rules.specs.declared.sides.Side.{Side}

-- whether what two rows have in a column is the same: one value, or none in both
abbrev pub same_field : Option Value → Option Value → Bool
same_field (Some v) (Some w) = same_value v w
same_field None None = true
same_field _ _ = false

abbrev pub passes : List (ℕ × Value) → Row → Bool
passes filter row = list_all (λ f. same_field (slice_get row.values f.0) (Some f.1)) filter

-- the row is in the side's table, and has each literal of its filter
unfoldable pub is_of_side : Side → Held → Bool
is_of_side side s = s.0.table == side.table && passes side.filter s.1

-- there is a side, and the row is of it
abbrev pub is_of : Option Side → Held → Bool
is_of None s = false
is_of (Some side) s = is_of_side side s

-- one row is of the one side and one of the other, in either arrangement
abbrev pub are_of : Option Side → Option Side → Held → Held → Bool
are_of a b s t = if is_of a s && is_of b t then true else is_of a t && is_of b s

abbrev pub are_of_sides : Side → Side → Held → Held → Bool
are_of_sides a b s t = are_of (Some a) (Some b) s t

-- roles --------------------------------------------------------------------------------------

-- the sides of a rule by the roles of their rows: a subject alone, the first or the second of two subjects, a server
pub record RuleSides : Type 0 where
  pub alone : Option Side
  pub first : Option Side
  pub second : Option Side
  pub server : Option Side

abbrev pub sides : Rule → RuleSides
sides (Unique subject columns) = record { alone = None; first = Some subject; second = Some subject; server = None }
sides (Partner subject columns server server_columns) = record { alone = Some subject; first = None; second = None; server = Some server }
sides (EndNode subject tip server) = record { alone = Some subject; first = None; second = None; server = Some server }
sides (Crossing a b server) = record { alone = None; first = Some a; second = Some b; server = Some server }
sides (Near a b d) = record { alone = None; first = Some a; second = Some b; server = None }

-- a side passes a test, if there is one
abbrev pub if_any : (Side → Bool) → Option Side → Bool
if_any test None = true
if_any test (Some side) = test side

-- each side of the rule passes a test
abbrev pub each_side : (Side → Bool) → Rule → Bool
each_side test rule =
    if_any test (sides rule).alone && (if_any test (sides rule).first && (if_any test (sides rule).second && if_any test (sides rule).server))

-- the row is of some side of the rule
unfoldable pub has_role_in : Rule → Held → Bool
has_role_in rule s = is_of (sides rule).alone s || is_of (sides rule).first s || is_of (sides rule).second s || is_of (sides rule).server s

abbrev pub has_role_by : Option Rule → Held → Bool
has_role_by None s = false
has_role_by (Some rule) s = has_role_in rule s

-- the row is of some side of the rule of a number
unfoldable pub has_role : List Rule → ℕ → Held → Bool
has_role rules number s = has_role_by (slice_get rules number) s

-- columns ------------------------------------------------------------------------------------

-- the primary key, or the value in a column
abbrev pub field : Held → Col → Option Value
field s column.Key = Some (Int s.0.key)
field s (column.At n) = slice_get s.1.values n

-- one row has in its columns what another row has in its own, in order
unfoldable pub are_equal_in : Held → List Col → Held → List Col → Bool
are_equal_in s columns t others = length columns == length others && list_all (λ p. same_field (field s p.0) (field t p.1)) (zip columns others)

-- shapes -------------------------------------------------------------------------------------

-- a segment, by its two ends
abbrev pub Segment : Type 0
Segment = Place × Place

abbrev pub point_in : Shape → Option Place
point_in (At p) = Some p
point_in _ = None

-- the point of a row
abbrev pub point_of : Held → Option Place
point_of s = point_in s.1.shape

-- an end of a segment, or of a path: its first vertex, or its last
abbrev pub end_in : Tip → Shape → Option Place
end_in First (Line p q) = Some p
end_in Second (Line p q) = Some q
end_in First (Chain vertices) = slice_get vertices 0
end_in Second (Chain vertices) = slice_get vertices (length vertices - 1)
end_in _ _ = None

abbrev pub end_of : Tip → Held → Option Place
end_of tip s = end_in tip s.1.shape
