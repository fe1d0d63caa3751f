use Rattle.std.proofs.Common.{◌∙◌, sym}
use Rattle.std.proofs.lemmas.Bool.{false≢true}
use Rattle.clr_grid.proofs.SetLemmas.{no_keys}
use Rattle.clr_grid.proofs.cell_sets.CellSet.is_empty.Goals as goal

pub returns-clause-some : goal.returns-clause-some
returns-clause-some c full e = absurd (false≢true (sym full ∙ c.is_empty.ensures.1 (no_keys c.self.inside.cells.keys (c.self.view_is ∙ e))))
