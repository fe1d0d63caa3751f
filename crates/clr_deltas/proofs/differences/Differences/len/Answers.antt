use Rattle.std.proofs.Common.{sym, ◌∙◌, ap, length, map}
use Rattle.std.proofs.lemmas.List.{length-map}
use Rattle.std.specs.FinMap as finite
use Rattle.clr_rows.specs.Cells.{cell_cmp}
use Rattle.clr_deltas.specs.Differences.{Differences, RowsByCell}
use Rattle.clr_deltas.proofs.differences.Differences.len.Goals as goal

pub returns-clause-count : goal.returns-clause-count
returns-clause-count c =
    c.len.ensures.len ∙ sym (length-map c.self.inside.rows.entries (λ e. e.0))
    ∙ ap (λ (es : RowsByCell). length (map (λ e. e.0) es)) (sym (finite.entries-from_sorted cell_cmp _ c.self.invariant))
    ∙ ap (λ (d : Differences). length (finite.keys d)) c.self.view_is
