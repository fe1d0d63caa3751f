use Rattle.std.proofs.Common.{◌∙◌, ap}
use Rattle.std.specs.FinMap as finite
use Rattle.clr_rows.specs.Cells.{cell_cmp}
use Rattle.clr_rows.proofs.CellOrder.{cell_cmp_total, cell_cmp_exact}
use Rattle.clr_rows.proofs.SortedMaps.{one_taken, sorted_from_ordered}
use Rattle.clr_deltas.specs.Differences.{Differences}
use Rattle.clr_deltas.proofs.differences.Differences.take.Goals as goal

pub invariant_of-self : goal.invariant_of-self
invariant_of-self c = sorted_from_ordered cell_cmp c.remove.new.self.entries c.remove.ensures.ordered

pub returns : goal.returns
returns c =
    one_taken cell_cmp_total cell_cmp_exact c.self.inside.rows.entries c.remove.new.self.entries c.args.cell c.self.invariant
    (sorted_from_ordered cell_cmp _ c.remove.ensures.ordered) c.remove.ensures.updates.0
    ∙ ap (λ (d : Differences). finite.remove d c.args.cell) c.self.view_is
