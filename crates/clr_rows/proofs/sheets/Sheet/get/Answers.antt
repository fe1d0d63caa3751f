use Rattle.std.proofs.Common.{sym, ◌∙◌, ap}
use Rattle.clr_rows.specs.Cells.{cell_cmp}
use Rattle.clr_rows.specs.Contents.{row_at}
use Rattle.clr_rows.proofs.SortedMaps.{get_sorted}
use Rattle.clr_rows.proofs.sheets.Sheet.get.Goals as goal

pub returns : goal.returns
returns c = c.get.ensures.value ∙ sym (get_sorted cell_cmp c.self.inside.rows.entries c.args.cell c.self.invariant.ascending)
    ∙ ap (λ m. row_at m c.args.cell) c.self.view_is
