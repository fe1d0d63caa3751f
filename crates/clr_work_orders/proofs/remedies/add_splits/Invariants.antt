use Rattle.std.proofs.Common.{◌≡◌, ◌++◌, map, take}
use Rattle.clr_work_orders.specs.declared.actions.Action.TheVariants as action
use Rattle.clr_work_orders.proofs.remedies.add_splits.Given as goal

-- the ways so far
abbrev pub invariant-loop-split : goal.invariant-loop-split
invariant-loop-split l = l.list.items ≡ l.initial.list.items ++ map action.Split (take l.split-index l.splits)
