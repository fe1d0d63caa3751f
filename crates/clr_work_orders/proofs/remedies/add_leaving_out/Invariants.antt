use Rattle.std.proofs.Common.{◌≡◌, ◌++◌, map, take}
use Rattle.clr_work_orders.specs.declared.actions.Action.TheVariants as action
use Rattle.clr_work_orders.proofs.remedies.add_leaving_out.Given as goal

-- the members so far
abbrev pub invariant-loop-member : goal.invariant-loop-member
invariant-loop-member l = l.list.items ≡ l.initial.list.items ++ map action.LeaveOut (take l.member-index l.order)
