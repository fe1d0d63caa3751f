use Rattle.std.proofs.Common.{◌≡◌, take}
use Rattle.clr_asked_members.proofs.children.members_asked.Given as goal

-- the names so far are copied
abbrev pub invariant-loop-name : goal.invariant-loop-name
invariant-loop-name l = l.members.items ≡ take l.name-index l.names
