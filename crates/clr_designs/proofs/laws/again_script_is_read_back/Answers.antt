use Rattle.clr_designs.proofs.ScriptAgain.{again_read}
use Rattle.clr_designs.proofs.laws.again_script_is_read_back.Goals as goal

pub returns : goal.returns
returns c = again_read
