use Rattle.clr_desk_layers.proofs.LayersAgain.{printed_layers}
use Rattle.clr_desk_layers.proofs.laws.printed_layers_change_nothing.Goals as goal

pub returns : goal.returns
returns c = printed_layers
