use Rattle.std.proofs.Common.{◌≡◌, take}
use Rattle.clr_plan.proofs.certificates.positions.Given as goal

-- the members so far
abbrev pub invariant-loop-member : goal.invariant-loop-member
invariant-loop-member l = l.list.items ≡ take l.member-index l.members
