use Rattle.std.proofs.Common.{◌≡◌, drop}
use Rattle.clr_audit.specs.Unknown.{first_beside}
use Rattle.clr_audit.proofs.unknown_needs.first_beside.Given as goal

-- the needs so far are known
abbrev pub invariant-loop-need : goal.invariant-loop-need
invariant-loop-need l = first_beside l.known l.needs ≡ first_beside l.known (drop l.need-index l.needs)
