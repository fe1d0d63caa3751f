use Rattle.clr_layer_text.proofs.LayerAgain.{layer_again}
use Rattle.clr_layer_text.proofs.laws.layer_is_read_back.Goals as goal

pub returns : goal.returns
returns c = layer_again
