use Rattle.std.proofs.Common.{◌∙◌}
use Rattle.clr_record_explanations.proofs.CertificateFirsts.{root_before}
use Rattle.clr_record_explanations.proofs.certificate_faults.has_root_before.Goals as goal

pub returns : goal.returns
returns c = c.has_root.ensures ∙ root_before c.args.records.now c.args.at
