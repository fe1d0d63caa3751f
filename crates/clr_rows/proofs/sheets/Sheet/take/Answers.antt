use Rattle.std.proofs.Common.{◌≡◌, true, sym, ◌∙◌, ap, subst}
use Rattle.std.specs.FinMap as finite
use Rattle.clr_rows.specs.Cells.{cell_cmp}
use Rattle.clr_rows.specs.Contents.{Content, row_at}
use Rattle.clr_rows.specs.Ranges.{AreWithin, is_within}
use Rattle.clr_rows.proofs.CellOrder.{cell_cmp_total, cell_cmp_exact}
use Rattle.clr_rows.proofs.SortedMaps.{get_sorted, one_taken, sorted_from_ordered}
use Rattle.clr_rows.proofs.FitLemmas.{take_keeps}
use Rattle.clr_rows.proofs.sheets.Sheet.take.Goals as goal

pub invariant_of-self : goal.invariant_of-self
invariant_of-self c =
    let es = c.self.inside.rows.entries in
    let fs = c.remove.new.self.entries in
    let ascending = sorted_from_ordered cell_cmp fs c.remove.ensures.ordered in
    let taken = one_taken cell_cmp_total cell_cmp_exact es fs c.args.cell c.self.invariant.ascending ascending c.remove.ensures.updates.0 in
    record { ascending = ascending; within = subst AreWithin (sym taken) (take_keeps (λ c r. is_within c r ≡ true) _ c.args.cell c.self.invariant.within) }

pub returns-clause-before : goal.returns-clause-before
returns-clause-before c = c.remove.ensures.value ∙ sym (get_sorted cell_cmp c.self.inside.rows.entries c.args.cell c.self.invariant.ascending)
    ∙ ap (λ m. row_at m c.args.cell) c.self.view_is

pub returns-clause-removed : goal.returns-clause-removed
returns-clause-removed c =
    one_taken cell_cmp_total cell_cmp_exact c.self.inside.rows.entries c.remove.new.self.entries c.args.cell c.self.invariant.ascending
    (sorted_from_ordered cell_cmp _ c.remove.ensures.ordered) c.remove.ensures.updates.0
    ∙ ap (λ (m : Content). finite.remove m c.args.cell) c.self.view_is
