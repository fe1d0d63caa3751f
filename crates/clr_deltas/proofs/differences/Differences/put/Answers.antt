use Rattle.std.proofs.Common.{sym, ◌∙◌, ap, is_some}
use Rattle.std.proofs.lemmas.Bool.{false≢true}
use Rattle.std.specs.FinMap as finite
use Rattle.clr_rows.specs.Cells.{cell_cmp}
use Rattle.clr_rows.proofs.CellOrder.{cell_cmp_total, cell_cmp_exact}
use Rattle.clr_rows.proofs.SortedMaps.{get_sorted, one_put, sorted_from_ordered}
use Rattle.clr_deltas.specs.Differences.{Differences}
use Rattle.clr_deltas.proofs.differences.Differences.put.Goals as goal

pub returns-in_err-insert-clause-is_stored : goal.returns-in_err-insert-clause-is_stored
returns-in_err-insert-clause-is_stored c =
    let none = ap (λ (d : Differences). finite.get d c.args.cell) (sym c.self.view_is)
    ∙ get_sorted cell_cmp c.self.inside.rows.entries c.args.cell c.self.invariant ∙ c.in_err-insert.ensures.absent in
    λ some. absurd (false≢true (sym (ap is_some none) ∙ some))

pub invariant_of-self-2 : goal.invariant_of-self-2
invariant_of-self-2 c = sorted_from_ordered cell_cmp c.insert.new.self.entries c.in_ok-insert.ensures.ordered

pub returns-clause-ok : goal.returns-clause-ok
returns-clause-ok c =
    one_put cell_cmp_total cell_cmp_exact c.self.inside.rows.entries c.insert.new.self.entries c.args.cell c.args.row c.self.invariant
    (sorted_from_ordered cell_cmp _ c.in_ok-insert.ensures.ordered) c.in_ok-insert.ensures.updates.0
    ∙ ap (λ (d : Differences). finite.insert d c.args.cell c.args.row) c.self.view_is
