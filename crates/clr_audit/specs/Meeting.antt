-- Needs of a row that are met.
use Rattle.std.specs.Prelude.{◌≡◌, ℕ, true, List, Option, Some}
use Rattle.clr_rows.specs.declared.cells.CellId.{CellId}
use Rattle.clr_rows.specs.declared.rows.Row.{Row}
use Rattle.clr_rows.specs.Cells.{cell_cmp}
use Rattle.clr_rows.specs.Held.{Held}
use Rattle.clr_rules.specs.declared.needs.Ask.{Ask}
use Rattle.clr_rules.specs.declared.rules.Rule.{Rule}
use Rattle.clr_rules.specs.Calls.{calls}
use Rattle.clr_rules.specs.Needs.{IsMet, IsNeed, View}
use Rattle.std.specs.declared.cmp.Ordering.TheVariants.{Less}

-- the subjects don't call, or some row serves them
abbrev pub IsMetIfCalled : List Rule → View → Ask → Held → Option Held → Type 0
IsMetIfCalled rules view ask s t = calls rules ask s t ≡ true → IsMet rules view ask s t

-- whatever a rule asks of a part of a row and of a part of another one
abbrev pub IsPartMet : List Rule → View → ℕ → ℕ → Held → Held → Type 0
IsPartMet rules view number part s t = (ask : Ask) → ask.rule ≡ number → ask.first_part ≡ part → IsMetIfCalled rules view ask s (Some t)

-- whatever a rule asks of two rows
abbrev pub IsPairMet : List Rule → View → ℕ → Held → Held → Type 0
IsPairMet rules view number s t = (ask : Ask) → ask.rule ≡ number → IsMetIfCalled rules view ask s (Some t)

-- whatever a rule asks of a row and of the one at a greater cell, if one stands there
abbrev pub IsMetBeside : List Rule → View → ℕ → Held → CellId → Type 0
IsMetBeside rules view number s q = (row : Row) → view q ≡ Some row → cell_cmp s.0 q ≡ Less → IsPairMet rules view number s (q, row)

-- every need of a rule whose first subject is a row
abbrev pub AreMetUnder : List Rule → View → ℕ → Held → Type 0
AreMetUnder rules view number s = (ask : Ask) (t : Option Held) → ask.rule ≡ number → IsNeed rules view ask s t → IsMet rules view ask s t

-- every need whose first subject is a row
abbrev pub AreMet : List Rule → View → Held → Type 0
AreMet rules view s = (ask : Ask) (t : Option Held) → IsNeed rules view ask s t → IsMet rules view ask s t
