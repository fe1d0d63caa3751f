use Rattle.std.proofs.Common.{◌≡◌, not, take}
use Rattle.std.specs.Prelude.{filter}
use Rattle.clr_audit.specs.Unknown.{is_known}
use Rattle.clr_old_errors.proofs.other_needs.others_left.Given as goal

-- those of the needs so far that aren't among the others
abbrev pub invariant-loop-need : goal.invariant-loop-need
invariant-loop-need l = l.left.items ≡ filter (λ need. not (is_known l.others need)) (take l.need-index l.needs)
