use Rattle.std.proofs.Common.{◌≡◌, ◌++◌, take}
use Rattle.std.specs.List.{flat_map}
use Rattle.clr_work_orders.specs.Remedies.{keeping}
use Rattle.clr_work_orders.proofs.undoings.add_keeping.Given as goal

-- the actions of the changes so far
abbrev pub invariant-loop-change : goal.invariant-loop-change
invariant-loop-change l = l.list.items ≡ l.initial.list.items ++ flat_map (keeping l.members.changes.items) (take l.change-index l.changes)
