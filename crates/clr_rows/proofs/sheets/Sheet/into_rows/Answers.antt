use Rattle.std.proofs.Common.{sym, ◌∙◌, ap}
use Rattle.std.specs.FinMap as finite
use Rattle.clr_rows.specs.Cells.{cell_cmp}
use Rattle.clr_rows.specs.Contents.{Content}
use Rattle.clr_rows.proofs.sheets.Sheet.into_rows.Goals as goal

pub returns-clause-rest : goal.returns-clause-rest
returns-clause-rest c = c.into_iter.ensures.into_iter_gives.0 ∙ sym (finite.entries-from_sorted cell_cmp _ c.self.invariant.ascending)
    ∙ ap (λ (m : Content). finite.entries m) c.self.view_is
