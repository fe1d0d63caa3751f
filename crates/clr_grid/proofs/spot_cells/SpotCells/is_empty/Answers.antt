use Rattle.std.proofs.Common.{◌∙◌, sym}
use Rattle.std.proofs.lemmas.Bool.{false≢true}
use Rattle.clr_grid.proofs.SetLemmas.{no_others}
use Rattle.clr_grid.proofs.spot_cells.SpotCells.is_empty.Goals as goal

pub returns-in-None-clause-some : goal.returns-in-None-clause-some
returns-in-None-clause-some c full e = absurd
    (false≢true (sym full ∙ c.is_empty.ensures.1 (no_others c.self.inside.first c.self.inside.others.keys c.in-None.is (c.self.view_is ∙ e))))
