use Rattle.std.proofs.Common.{sym, ◌∙◌, ap, length, map, List}
use Rattle.std.proofs.lemmas.List.{length-map}
use Rattle.std.specs.FinMap as finite
use Rattle.clr_rows.specs.declared.cells.CellId.{CellId}
use Rattle.clr_rows.specs.declared.cells.Change.{Change}
use Rattle.clr_rows.specs.Cells.{cell_cmp}
use Rattle.clr_rows.specs.Contents.{Changes}
use Rattle.clr_change.proofs.change_sets.ChangeSet.len.Goals as goal

pub returns : goal.returns
returns c =
    c.len.ensures.len ∙ sym (length-map c.self.inside.changes.entries (λ e. e.0))
    ∙ ap (λ (es : List (CellId × Change)). length (map (λ e. e.0) es)) (sym (finite.entries-from_sorted cell_cmp _ c.self.invariant.ascending))
    ∙ ap (λ (m : Changes). length (finite.keys m)) c.self.view_is
