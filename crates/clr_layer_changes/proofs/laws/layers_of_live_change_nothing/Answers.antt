use Rattle.clr_layer_changes.proofs.LayersAgain.{layers_of_live}
use Rattle.clr_layer_changes.proofs.laws.layers_of_live_change_nothing.Goals as goal

pub returns : goal.returns
returns c = layers_of_live
