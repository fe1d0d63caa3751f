use Rattle.std.proofs.Common.{◌∙◌, List, subst, sym}
use Rattle.std.specs.FinMap as finite
use Rattle.std.specs.Map.Iter.{deref_pair}
use Rattle.std.proofs.lemmas.Map.Iter.{rest_more, rest_all}
use Rattle.clr_rows.specs.declared.cells.CellId.{CellId}
use Rattle.clr_rows.specs.declared.cells.Change.{Change}
use Rattle.clr_row_versions.proofs.ChangedCells.{AreReadTo, all_read, none_read, one_read, some_read}
use Rattle.clr_row_versions.proofs.member_changes.add_cells.Goals as goal

pub loop-cell-init : goal.loop-cell-init
loop-cell-init c =
    let old = c.args.cells.now.items in
    let all = c.into_iter-cell-iterator.ensures.into_iter_gives ∙ c.iter-cell-items.ensures.rest in
    subst (λ (es : List (CellId × Change)). AreReadTo old (finite.keys c.args.set.now) old es) (sym all) (none_read old (finite.entries c.args.set.now))

pub loop-cell-preserved : goal.loop-cell-preserved
loop-cell-preserved c =
    let old = c.args.cells.now.items in
    let before = c.loop-cell.cells.items in
    let left = c.next.new.self in
    let changes = rest_more deref_pair c.loop-cell.cell-iterator left c.next.result (c.in-Some.cell, c.in-Some.field-0-1) c.in-Some.is c.next.ensures.steps in
    one_read old (finite.keys c.args.set.now) before _ (c.in-Some.cell.now, c.in-Some.field-0-1.now) left c.in_ok-push.ensures.items
    (subst (λ (es : List (CellId × Change)). AreReadTo old (finite.keys c.args.set.now) before es) changes c.loop-cell.invariant)

pub returns-clause-ok : goal.returns-clause-ok
returns-clause-ok c =
    let old = c.args.cells.now.items in
    let ended = rest_all deref_pair c.loop-cell.cell-iterator c.next.new.self c.next.result c.in-None.is c.next.ensures.steps in
    all_read old (finite.keys c.args.set.now) _ (subst (λ (es : List (CellId × Change)). AreReadTo old (finite.keys c.args.set.now) c.loop-cell.cells.items es)
    ended c.loop-cell.invariant)

pub returns-in_err-push-clause-err : goal.returns-in_err-push-clause-err
returns-in_err-push-clause-err c = some_read _ c.args.cells.now.items (finite.keys c.args.set.now) _ _ c.loop-cell.cell-iterator
    c.in_err-push.ensures.items c.loop-cell.invariant
