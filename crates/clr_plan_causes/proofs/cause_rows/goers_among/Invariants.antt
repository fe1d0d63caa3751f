use Rattle.std.proofs.Common.{◌≡◌, take}
use Rattle.clr_plan_causes.specs.CauseRows.{goers_among}
use Rattle.clr_plan_causes.proofs.cause_rows.goers_among.Given as goal

-- the rows of the changes so far
abbrev pub invariant-loop-change : goal.invariant-loop-change
invariant-loop-change l = l.goers.items ≡ goers_among l.members.changes.items (take l.change-index l.changes)
