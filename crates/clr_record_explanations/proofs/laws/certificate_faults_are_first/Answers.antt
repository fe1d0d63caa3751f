use Rattle.clr_record_explanations.proofs.CertificateFirsts.{certificate_faults_first}
use Rattle.clr_record_explanations.proofs.laws.certificate_faults_are_first.Goals as goal

pub returns : goal.returns
returns c = certificate_faults_first
