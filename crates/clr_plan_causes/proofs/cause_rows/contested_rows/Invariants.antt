use Rattle.std.proofs.Common.{◌≡◌, take}
use Rattle.clr_plan_causes.specs.CauseRows.{contested_rows}
use Rattle.clr_plan_causes.proofs.cause_rows.contested_rows.Given as goal

-- the rows of the designs so far
abbrev pub invariant-loop-at : goal.invariant-loop-at
invariant-loop-at l = l.rows.items ≡ contested_rows l.members.changes.items l.cell (take l.at-index l.positions)
