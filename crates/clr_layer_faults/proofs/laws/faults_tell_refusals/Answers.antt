use Rattle.clr_layer_faults.proofs.RefusalLemmas.{faults_are_refusals}
use Rattle.clr_layer_faults.proofs.laws.faults_tell_refusals.Goals as goal

pub returns : goal.returns
returns c = faults_are_refusals
