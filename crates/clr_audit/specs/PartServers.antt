-- Which rows may serve a part of another row, whatever stands beside it.
use Rattle.std.specs.Prelude.{ℕ, Bool, true, false, List, Option, Some, None, slice_get}
use Rattle.clr_rows.specs.declared.places.Place.{Place}
use Rattle.clr_rows.specs.Held.{Held}
use Rattle.clr_rows.specs.Parts.{part_of}
use Rattle.clr_segments.specs.Searches.{lies_on}
use Rattle.clr_rules.specs.declared.rules.Rule.{Rule}
use Rattle.clr_rules.specs.declared.rules.Rule.TheVariants.{Crossing}
use Rattle.clr_rules.specs.Sides.{Segment, point_of}

abbrev pub is_on : Option Place → Option Segment → Bool
is_on (Some p) (Some e) = lies_on p e.0 e.1
is_on _ _ = false

-- what serves a crossing is a point of each of its two parts; of other rules nothing is said
unfoldable pub may_serve_part : Rule → ℕ → Held → Held → Bool
may_serve_part (Crossing a b server) part s r = is_on (point_of r) (part_of s.1.shape part)
may_serve_part _ part s r = true

abbrev pub may_serve_part_by : Option Rule → ℕ → Held → Held → Bool
may_serve_part_by None part s r = true
may_serve_part_by (Some rule) part s r = may_serve_part rule part s r

-- under the rule of a number
abbrev pub may_serve_part_under : List Rule → ℕ → ℕ → Held → Held → Bool
may_serve_part_under rules number part s r = may_serve_part_by (slice_get rules number) part s r
