use Rattle.std.proofs.Common.{◌≡◌, take}
use Rattle.clr_desk_command_line.proofs.why_reading.copies.Given as goal

-- the names so far are copied
abbrev pub invariant-loop-name : goal.invariant-loop-name
invariant-loop-name l = l.copied.items ≡ take l.name-index l.names
