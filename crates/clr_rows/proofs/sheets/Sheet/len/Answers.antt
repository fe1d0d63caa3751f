use Rattle.std.proofs.Common.{sym, ◌∙◌, ap, length, map, List}
use Rattle.std.proofs.lemmas.List.{length-map}
use Rattle.std.specs.FinMap as finite
use Rattle.clr_rows.specs.declared.cells.CellId.{CellId}
use Rattle.clr_rows.specs.declared.rows.Row.{Row}
use Rattle.clr_rows.specs.Cells.{cell_cmp}
use Rattle.clr_rows.specs.Contents.{Content, cells_of}
use Rattle.clr_rows.proofs.sheets.Sheet.len.Goals as goal

pub returns : goal.returns
returns c =
    c.len.ensures.len ∙ sym (length-map c.self.inside.rows.entries (λ e. e.0))
    ∙ ap (λ (es : List (CellId × Row)). length (map (λ e. e.0) es)) (sym (finite.entries-from_sorted cell_cmp _ c.self.invariant.ascending))
    ∙ ap (λ (m : Content). length (cells_of m)) c.self.view_is
