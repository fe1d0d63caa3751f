use Rattle.std.proofs.Common.{sym, ◌∙◌, ap}
use Rattle.std.specs.FinMap as finite
use Rattle.clr_rows.specs.Cells.{cell_cmp}
use Rattle.clr_deltas.specs.Differences.{Differences}
use Rattle.clr_deltas.proofs.differences.Differences.iter.Goals as goal

pub returns-clause-rest : goal.returns-clause-rest
returns-clause-rest c = c.iter.ensures.rest ∙ sym (finite.entries-from_sorted cell_cmp _ c.self.invariant)
    ∙ ap (λ (d : Differences). finite.entries d) c.self.view_is
