use Rattle.clr_record_explanations.proofs.ScriptFirsts.{script_faults_first}
use Rattle.clr_record_explanations.proofs.laws.script_faults_are_first.Goals as goal

pub returns : goal.returns
returns c = script_faults_first
