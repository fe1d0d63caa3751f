use Rattle.std.proofs.Common.{◌≡◌, false, take}
use Rattle.clr_steps.specs.Names.{has}
use Rattle.clr_check.proofs.quiet.is_member.Given as goal

-- none of the members so far has the name
abbrev pub invariant-loop-member : goal.invariant-loop-member
invariant-loop-member l = has (take l.member-index l.member-items) l.name ≡ false
