-- The roles that a row may have in needs of a rule.
use Rattle.std.specs.Prelude.{ℕ, false, List, Option, None, Some, slice_get}
use Rattle.clr_rows.specs.Held.{Held}
use Rattle.clr_rules.specs.declared.roles.Roles.{Roles}
use Rattle.clr_rules.specs.declared.rules.Rule.{Rule}
use Rattle.clr_rules.specs.Sides.{is_of, sides}

-- which sides the row is of: a subject alone, the first or the second of two subjects, a server
unfoldable pub roles : Rule → Held → Roles
roles rule s = record {
  alone = is_of (sides rule).alone s;
  first = is_of (sides rule).first s;
  second = is_of (sides rule).second s;
  server = is_of (sides rule).server s;
}

-- which sides of the rule of a number the row is of
abbrev pub roles_by : Option Rule → Held → Roles
roles_by None s = record { alone = false; first = false; second = false; server = false }
roles_by (Some rule) s = roles rule s

unfoldable pub roles_under : List Rule → ℕ → Held → Roles
roles_under rules number s = roles_by (slice_get rules number) s
