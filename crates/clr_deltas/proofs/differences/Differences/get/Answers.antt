use Rattle.std.proofs.Common.{sym, ◌∙◌, ap}
use Rattle.std.specs.FinMap as finite
use Rattle.clr_rows.specs.Cells.{cell_cmp}
use Rattle.clr_rows.proofs.SortedMaps.{get_sorted}
use Rattle.clr_deltas.specs.Differences.{Differences}
use Rattle.clr_deltas.proofs.differences.Differences.get.Goals as goal

pub returns : goal.returns
returns c = c.get.ensures.value ∙ sym (get_sorted cell_cmp c.self.inside.rows.entries c.args.cell c.self.invariant)
    ∙ ap (λ (d : Differences). finite.get d c.args.cell) c.self.view_is
