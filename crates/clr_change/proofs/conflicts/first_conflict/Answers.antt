use Rattle.std.proofs.Common.{◌≡◌, List, length, map, filter, ap, ◌∙◌, arith}
use Rattle.std.specs.FinMap as finite
use Rattle.clr_rows.specs.declared.cells.CellId.{CellId}
use Rattle.clr_rows.specs.declared.cells.Change.{Change}
use Rattle.clr_rows.specs.Contents.{conflicts, is_conflict, least_and_count}
use Rattle.clr_change.proofs.conflicts.first_conflict.Goals as goal

pub loop-cell-init : goal.loop-cell-init
unfolding conflicts
loop-cell-init g c =
    let all : c.into_iter-cell-iterator.result ≡ finite.entries c.args.changes.now = c.into_iter-cell-iterator.ensures.into_iter_gives
    ∙ c.iter-cell-items.ensures.rest in
    record {
      so_far = ap (λ (es : List (CellId × Change)). least_and_count (map (λ e. e.0) (filter (is_conflict (g.V.RowView.content c.args.parent.now)) es))) all;
      fits = omega (arith, ap (λ (es : List (CellId × Change)). length es) all);
    }
