use Rattle.clr_designs.proofs.ScriptAgain.{script_again}
use Rattle.clr_designs.proofs.laws.design_script_is_read_back.Goals as goal

pub returns : goal.returns
returns c = script_again
