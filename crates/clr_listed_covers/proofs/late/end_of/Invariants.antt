use Rattle.std.proofs.Common.{take}
use Rattle.clr_listed_covers.specs.Late.{IsEndOf}
use Rattle.clr_listed_covers.proofs.late.end_of.Given as goal

-- the end of the members so far
abbrev pub invariant-loop-member : goal.invariant-loop-member
invariant-loop-member l = IsEndOf (take l.member-index l.members) l.end
