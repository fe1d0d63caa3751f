use Rattle.std.proofs.Common.{◌≡◌, ◌++◌, map, take}
use Rattle.clr_work_orders.specs.declared.actions.Action.TheVariants as action
use Rattle.clr_work_orders.proofs.remedies.add_going_first.Given as goal

-- the members so far
abbrev pub invariant-loop-member : goal.invariant-loop-member
invariant-loop-member l = l.list.items ≡ l.fn.list.items ++ map action.GoFirst (take l.member-index l.helpers)
