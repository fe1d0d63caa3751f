use Rattle.std.proofs.Common.{length}
use Rattle.clr_order_knots.proofs.WaitingMembers.{IsWaitingIn}
use Rattle.clr_order_knots.proofs.waiting.waiting_members.Given as goal

-- each set of members that wait for one another is among these
abbrev pub invariant-loop-members : goal.invariant-loop-members
invariant-loop-members l = IsWaitingIn l.needs l.count l.members.items

abbrev pub decreases-loop-members : goal.decreases-loop-members
decreases-loop-members l = length l.members.items
