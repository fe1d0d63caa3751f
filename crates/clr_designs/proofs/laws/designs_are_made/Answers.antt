use Rattle.clr_designs.proofs.DesignLemmas.{design_law}
use Rattle.clr_designs.proofs.EditLemmas.{edits_fit}
use Rattle.clr_designs.proofs.laws.designs_are_made.Goals as goal

pub returns : goal.returns
returns c = record { made = design_law; fit = edits_fit }
