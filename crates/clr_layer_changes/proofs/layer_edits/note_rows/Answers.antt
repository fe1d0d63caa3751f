use Rattle.std.proofs.Common.{◌++◌, List, Option, ap, ◌∙◌}
use Rattle.std.proofs.lemmas.Result.{on_ok_weaker}
use Rattle.std.specs.FinMap as finite
use Rattle.clr_rows.specs.declared.cells.CellId.{CellId}
use Rattle.clr_rows.specs.declared.rows.Row.{Row}
use Rattle.clr_rows.specs.Contents.{changes, over}
use Rattle.clr_rows.specs.Sheets.{with_rows}
use Rattle.clr_layer_changes.proofs.NotedLemmas.{replaced_is}
use Rattle.clr_layer_changes.proofs.layer_edits.note_rows.Goals as goal

pub returns : goal.returns
returns c =
    let base = c.args.base.now in
    let set = c.args.set.now in
    let table = c.args.table in
    let rows = c.args.rows.now in
    on_ok_weaker c.put_over-3.result (λ put content is.
    let changed = c.as_slice.ensures.value ∙ c.in_ok-changed.ensures in
    let stood = c.as_slice-2.ensures.value ∙ c.in_ok-stood.ensures in
    let stands = c.as_slice-3.ensures.value ∙ c.in_ok-add_rows.ensures
    ∙ ap (λ (es : List (CellId × Option Row)). es ++ with_rows (finite.entries rows)) c.new-stands.ensures.items in
    put _ (c.in_ok-put_over-2.ensures _ (c.in_ok-put_over.ensures content is))
    ∙ ap (changes base) ((λ i. over (over (over content (changed i)) (stood i)) (stands i)) ∙ replaced_is base content set table is rows))
    c.put_over-3.ensures
