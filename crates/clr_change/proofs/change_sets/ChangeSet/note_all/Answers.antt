use Rattle.std.proofs.Common.{List, is_some, sym, ap, ◌∙◌}
use Rattle.std.specs.FinMap as finite
use Rattle.std.specs.Map.Iter.{deref_pair}
use Rattle.std.proofs.lemmas.Map.Iter.{rest_more}
use Rattle.clr_rows.specs.declared.cells.CellId.{CellId}
use Rattle.clr_rows.specs.declared.rows.Row.{Row}
use Rattle.clr_rows.specs.Cells.{cell_cmp}
use Rattle.clr_rows.specs.Contents.{Changes}
use Rattle.clr_change.specs.ChangeSets.{set_change}
use Rattle.clr_change.proofs.SetLemmas.{noted_where, noted_more}
use Rattle.clr_change.proofs.change_sets.ChangeSet.note_all.Goals as goal

pub loop-cell-init : goal.loop-cell-init
loop-cell-init c = λ q.
    let all = c.into_iter-cell-iterator.ensures.into_iter_gives ∙ c.iter-cell-items.ensures.rest in
    ap (λ found. noted_where c.args.base.now c.args.current.now q (is_some found) (finite.get c.args.self.now q)) (ap (finite.find cell_cmp q) all
    ∙ sym (finite.get-entries c.args.cells.now q))

pub loop-cell-preserved : goal.loop-cell-preserved
loop-cell-preserved c = λ q.
    let base = c.args.base.now in
    let current = c.args.current.now in
    let left = c.next.new.self in
    let e : CellId × Row = (c.in-Some.cell.now, c.in-Some.field-0-1.now) in
    let rest = rest_more deref_pair c.loop-cell.cell-iterator left c.next.result (c.in-Some.cell, c.in-Some.field-0-1) c.in-Some.is c.next.ensures.steps in
    ap (λ (s : Changes). noted_where base current q (is_some (finite.find cell_cmp q left)) (finite.get s q)) c.in_ok-set.ensures.ok
    ∙ (λ i. noted_where base current q (is_some (finite.find cell_cmp q left))
    (finite.get (set_change c.loop-cell.self c.in-Some.cell.now (c.get.ensures i) (c.get-in-loop-cell.ensures i)) q))
    ∙ noted_more base current c.loop-cell.self e left q
    ∙ ap (λ (es : List (CellId × Row)). noted_where base current q (is_some (finite.find cell_cmp q es)) (finite.get c.loop-cell.self q)) (sym rest)
    ∙ c.loop-cell.invariant q
