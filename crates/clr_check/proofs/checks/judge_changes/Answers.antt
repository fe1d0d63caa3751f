use Rattle.clr_ordered_clearance.proofs.VerdictLemmas.{named_once}
use Rattle.clr_merge_sets.specs.Certificates.{ordered_merge_set_of}
use Rattle.clr_check.proofs.checks.judge_changes.Goals as goal

pub position_pairs-requires : goal.position_pairs-requires
position_pairs-requires c = named_once c.args.office.now (ordered_merge_set_of c.args.certificate.now) c.requires.named
