use Rattle.std.proofs.Common.{◌∙◌, ap, sym}
use Rattle.std.proofs.lemmas.Result.{on_err_weaker}
use Rattle.clr_grid.specs.Filing.{has_cell}
use Rattle.clr_grid.proofs.GainLemmas.{gains_as}
use Rattle.clr_grid.proofs.side_index.SideIndex.add_cells_at.Goals as goal

pub returns-in-Some-clause-err : goal.returns-in-Some-clause-err
returns-in-Some-clause-err c =
    on_err_weaker _ (gains_as _ _ _ _ (λ q e. ap (λ o. has_cell o q) (sym c.in-Some.ensures.value) ∙ e)) c.add_to.ensures.err
