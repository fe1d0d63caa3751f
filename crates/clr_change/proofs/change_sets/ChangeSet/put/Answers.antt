use Rattle.std.proofs.Common.{sym, ◌∙◌, ap, subst}
use Rattle.std.specs.FinMap as finite
use Rattle.clr_rows.specs.Cells.{cell_cmp}
use Rattle.clr_rows.specs.Contents.{Changes}
use Rattle.clr_rows.proofs.CellOrder.{cell_cmp_total, cell_cmp_exact}
use Rattle.clr_rows.proofs.SortedMaps.{one_put, sorted_from_ordered}
use Rattle.clr_change.specs.ChangeSets.{AreDifferent}
use Rattle.clr_rows.proofs.FitLemmas.{put_keeps}
use Rattle.clr_change.proofs.SetLemmas.{is_different}
use Rattle.clr_change.proofs.change_sets.ChangeSet.put.Goals as goal

pub invariant_of-self-2 : goal.invariant_of-self-2
invariant_of-self-2 c =
    let es = c.self.inside.changes.entries in
    let fs = c.insert.new.self.entries in
    let ascending = sorted_from_ordered cell_cmp fs c.in_ok-insert.ensures.ordered in
    let put = sym (one_put cell_cmp_total cell_cmp_exact es fs c.args.cell c.args.change c.self.invariant.ascending ascending
    c.in_ok-insert.ensures.updates.0) in
    record {
      ascending = ascending;
      differ = subst AreDifferent put (put_keeps is_different _ c.args.cell c.args.change c.self.invariant.differ c.requires);
    }

pub returns-clause-ok : goal.returns-clause-ok
returns-clause-ok c =
    one_put cell_cmp_total cell_cmp_exact c.self.inside.changes.entries c.insert.new.self.entries c.args.cell c.args.change c.self.invariant.ascending
    (sorted_from_ordered cell_cmp _ c.in_ok-insert.ensures.ordered) c.in_ok-insert.ensures.updates.0
    ∙ ap (λ (m : Changes). finite.insert m c.args.cell c.args.change) c.self.view_is
