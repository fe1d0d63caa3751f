use Rattle.std.proofs.Common.{◌∙◌}
use Rattle.clr_grid.proofs.rule_index.cells_near.Goals as goal

pub returns-clause-near : goal.returns-clause-near
returns-clause-near c serves k q side looked filed = c.into_vec.ensures.exact q ∙ c.in_ok-add_cells_near.ensures serves k q side looked filed
