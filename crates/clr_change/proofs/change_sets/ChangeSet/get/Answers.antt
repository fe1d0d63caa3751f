use Rattle.std.proofs.Common.{sym, ◌∙◌, ap}
use Rattle.std.specs.FinMap as finite
use Rattle.clr_rows.specs.Cells.{cell_cmp}
use Rattle.clr_rows.specs.Contents.{Changes}
use Rattle.clr_rows.proofs.SortedMaps.{get_sorted}
use Rattle.clr_change.proofs.change_sets.ChangeSet.get.Goals as goal

pub returns-clause-change : goal.returns-clause-change
returns-clause-change c = c.get.ensures.value ∙ sym (get_sorted cell_cmp c.self.inside.changes.entries c.args.cell c.self.invariant.ascending)
    ∙ ap (λ (m : Changes). finite.get m c.args.cell) c.self.view_is
