use Rattle.std.proofs.Common.{map}
use Rattle.clr_merge_sets.specs.Certificates.{ordered_merge_set_of}
use Rattle.clr_check.proofs.TurnLemmas.{other_due}
use Rattle.clr_check.proofs.turns.is_due.Goals as goal

pub returns-in_default : goal.returns-in_default
returns-in_default c = other_due (ordered_merge_set_of c.args.certificate.now) (map (λ other. other.now) c.args.merged.now) c.args.command.now c.in_default.not-Merge
