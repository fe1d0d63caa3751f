use Rattle.std.proofs.Common.{sym, ◌∙◌, ap, subst}
use Rattle.std.specs.FinMap as finite
use Rattle.clr_rows.specs.Cells.{cell_cmp}
use Rattle.clr_rows.specs.Contents.{Changes}
use Rattle.clr_rows.proofs.CellOrder.{cell_cmp_total, cell_cmp_exact}
use Rattle.clr_rows.proofs.SortedMaps.{one_taken, sorted_from_ordered}
use Rattle.clr_change.specs.ChangeSets.{AreDifferent}
use Rattle.clr_rows.proofs.FitLemmas.{take_keeps}
use Rattle.clr_change.proofs.SetLemmas.{is_different}
use Rattle.clr_change.proofs.change_sets.ChangeSet.take.Goals as goal

pub invariant_of-self : goal.invariant_of-self
invariant_of-self c =
    let es = c.self.inside.changes.entries in
    let fs = c.remove.new.self.entries in
    let ascending = sorted_from_ordered cell_cmp fs c.remove.ensures.ordered in
    let taken = sym (one_taken cell_cmp_total cell_cmp_exact es fs c.args.cell c.self.invariant.ascending ascending c.remove.ensures.updates.0) in
    record {
      ascending = ascending;
      differ = subst AreDifferent taken (take_keeps is_different _ c.args.cell c.self.invariant.differ);
    }

pub returns : goal.returns
returns c =
    one_taken cell_cmp_total cell_cmp_exact c.self.inside.changes.entries c.remove.new.self.entries c.args.cell c.self.invariant.ascending
    (sorted_from_ordered cell_cmp _ c.remove.ensures.ordered) c.remove.ensures.updates.0
    ∙ ap (λ (m : Changes). finite.remove m c.args.cell) c.self.view_is
