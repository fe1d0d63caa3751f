use Rattle.clr_desk_layers.proofs.LayersAgain.{same_base}
use Rattle.clr_desk_layers.proofs.laws.a_base_may_be_the_office_itself.Goals as goal

pub returns : goal.returns
returns c = same_base
