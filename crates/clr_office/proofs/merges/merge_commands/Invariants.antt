use Rattle.std.proofs.Common.{◌≡◌, take}
use Rattle.clr_clearance.specs.Plans.{merges}
use Rattle.clr_office.proofs.merges.merge_commands.Given as goal

-- the merges so far are those of the names so far
abbrev pub invariant-loop-name : goal.invariant-loop-name
invariant-loop-name l = l.commands.items ≡ merges (take l.name-index l.names)
