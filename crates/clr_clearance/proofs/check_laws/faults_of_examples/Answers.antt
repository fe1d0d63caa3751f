use Rattle.clr_clearance.proofs.CheckLemmas.{fault_example}
use Rattle.clr_clearance.proofs.check_laws.faults_of_examples.Goals as goal

pub returns : goal.returns
returns c = fault_example
