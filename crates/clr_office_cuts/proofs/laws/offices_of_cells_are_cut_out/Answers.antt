use Rattle.clr_office_cuts.proofs.CellLemmas.{cells_cut}
use Rattle.clr_office_cuts.proofs.laws.offices_of_cells_are_cut_out.Goals as goal

pub returns : goal.returns
returns c = λ cells whole cut merge_set of_cells rows. cells_cut cells whole cut merge_set of_cells rows
