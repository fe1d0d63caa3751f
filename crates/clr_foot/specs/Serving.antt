-- The rows near a server that it may serve.
use Rattle.std.specs.Prelude.{ℕ, Bool, true, false, List, Option, Some, slice_get}
use Rattle.clr_rules.specs.declared.rules.Rule.TheVariants.{Crossing}
use Rattle.clr_rows.specs.Held.{Held}
use Rattle.clr_rules.specs.declared.rules.Rule.{Rule}
use Rattle.clr_row_versions.specs.Serving.{IsNeverServed}
use Rattle.clr_foot.specs.Touches.{IsNeighbour}

-- the row is near the server, and may be a subject of a need that it serves
abbrev pub MayBeServed : List Rule → ℕ → Held → Held → Type 0
MayBeServed rules number r s = IsNeighbour false rules number r s × ¬ (IsNeverServed rules number r s)

abbrev pub is_crossing : Option Rule → Bool
is_crossing (Some (Crossing a b server)) = true
is_crossing _ = false

-- the rule of a number is a crossing
unfoldable pub is_crossing_under : List Rule → ℕ → Bool
is_crossing_under rules number = is_crossing (slice_get rules number)
