use Rattle.std.proofs.Common.{◌∙◌, sym, ap, subst}
use Rattle.std.specs.FinMap as finite
use Rattle.std.specs.Option.{option_map}
use Rattle.std.specs.Map.Iter.{deref_pair}
use Rattle.std.proofs.lemmas.Map.Iter.{rest_all, rest_more}
use Rattle.clr_finders.specs.RowMaps.{FiledRows}
use Rattle.clr_grid.proofs.Indexes.{content_row, row_kept}
use Rattle.clr_grid.proofs.Noting.{AreLeft, all_left, next_among, next_free, none_left, one_noted}
use Rattle.clr_grid.proofs.finders.finder_of.Goals as goal

pub loop-cell-init : goal.loop-cell-init
loop-cell-init c =
    let all = finite.entries c.args.rows.now in
    let same = c.into_iter-cell-iterator.ensures.into_iter_gives ∙ c.iter-cell-items.ensures.rest in
    record {
      pending = ap (λ (r : FiledRows). r.pending) c.new-finder.ensures;
      left = all_left (row_kept c.args.book.now) all c.into_iter-cell-iterator.result c.new-finder.result.settled (finite.entries_sorted c.args.rows.now) same
          (ap (λ (r : FiledRows). r.settled) c.new-finder.ensures);
    }

pub with_row-requires-clause-fit : goal.with_row-requires-clause-fit
with_row-requires-clause-fit c =
    let left = c.next.new.self in
    let rest = rest_more deref_pair c.loop-cell.cell-iterator left c.next.result (c.in-Some.cell, c.in-Some.row) c.in-Some.is c.next.ensures.steps in
    let all = finite.entries c.args.rows.now in
    let kept = row_kept c.args.book.now in
    let is = next_among kept all left c.in-Some.cell.now c.in-Some.row.now c.loop-cell.finder.settled
    (subst (λ es. AreLeft kept all es c.loop-cell.finder.settled) rest c.loop-cell.invariant.left) in
    content_row c.args.book.now c.args.rows.now c.requires c.in-Some.cell.now c.in-Some.row.now (finite.get-entries c.args.rows.now c.in-Some.cell.now ∙ is)

pub with_row-requires-clause-free : goal.with_row-requires-clause-free
with_row-requires-clause-free c =
    let left = c.next.new.self in
    let rest = rest_more deref_pair c.loop-cell.cell-iterator left c.next.result (c.in-Some.cell, c.in-Some.row) c.in-Some.is c.next.ensures.steps in
    let all = finite.entries c.args.rows.now in
    let kept = row_kept c.args.book.now in
    next_free kept all left c.in-Some.cell.now c.in-Some.row.now c.loop-cell.finder.settled (subst (λ es. AreLeft kept all es c.loop-cell.finder.settled) rest
    c.loop-cell.invariant.left)

pub loop-cell-preserved : goal.loop-cell-preserved
loop-cell-preserved c =
    let left = c.next.new.self in
    let rest = rest_more deref_pair c.loop-cell.cell-iterator left c.next.result (c.in-Some.cell, c.in-Some.row) c.in-Some.is c.next.ensures.steps in
    let all = finite.entries c.args.rows.now in
    let kept = row_kept c.args.book.now in
    record {
      pending = ap (λ (r : FiledRows). r.pending) c.in_ok-finder.ensures ∙ c.loop-cell.invariant.pending;
      left = one_noted kept all left c.in-Some.cell.now c.in-Some.row.now c.loop-cell.finder.settled
          (subst (λ es. AreLeft kept all es c.loop-cell.finder.settled) rest c.loop-cell.invariant.left)
          _ (ap (λ (r : FiledRows). r.settled) c.in_ok-finder.ensures);
    }

pub returns : goal.returns
returns c =
    let all = finite.entries c.args.rows.now in
    let kept = row_kept c.args.book.now in
    let ended = rest_all deref_pair c.loop-cell.cell-iterator c.next.new.self c.next.result c.in-None.is c.next.ensures.steps in (
      λ q. none_left kept all c.loop-cell.cell-iterator c.loop-cell.finder.settled ended c.loop-cell.invariant.left q
          ∙ ap (λ o. option_map (kept q) o) (sym (finite.get-entries c.args.rows.now q)),
      c.loop-cell.invariant.pending,
    )
