use Rattle.std.proofs.Common.{◌∙◌, ◌+◌, ap, sym, subst, take}
use Rattle.clr_row_versions.specs.Versions.{row_and_life}
use Rattle.clr_foot.proofs.NewRows.{AreFiledAt, all_filed, none_filed, none_pending, not_filed, one_filed, one_pending, settled_too}
use Rattle.clr_row_versions.proofs.Searches.{sets_of}
use Rattle.clr_cut_rows.proofs.new_rows.file_new_rows.Goals as goal
use Rattle.clr_cut_rows.proofs.new_rows.file_new_rows.Goals.{in-Some+in_ok-note, in_default}

pub loop-cell-init : goal.loop-cell-init
loop-cell-init g c =
    let sets = sets_of c.args.members.now.sets.items in
    let cells = c.deref-cell-items.result.now in (
      c.without_rows-finder.ensures.pending,
      subst (AreFiledAt c.args.book.now sets (take 0 cells)) (sym c.without_rows-finder.ensures.settled)
          (none_filed c.args.book.now sets cells),
    )

pub note-requires-clause-fit : goal.note-requires-clause-fit
note-requires-clause-fit g c = c.requires.fit _ (row_and_life c.in-Some.version) c.in-Some.ensures.1

pub note-requires-clause-free : goal.note-requires-clause-free
note-requires-clause-free g c = none_pending (g.F.RowFinder.pending c.loop-cell.finder) _ c.loop-cell.invariant.0

pub loop-cell-preserved : goal.loop-cell-preserved
loop-cell-preserved g c =
    let rules = c.args.book.now in
    let sets = sets_of c.args.members.now.sets.items in
    let cells = c.deref-cell-items.result.now in
    let k = c.loop-cell.cell-index in
    let settled = g.F.RowFinder.settled in
    let pending = g.F.RowFinder.pending in
    let before = c.loop-cell.finder in
    elim c.match-new_version.branch [
      | in-Some+in_ok-note w ↦ (
        ap pending w.finder-is ∙ w.settle.ensures.pending,
        subst (λ f. AreFiledAt rules sets (take (k + 1) cells) (settled f)) (sym w.finder-is)
            (one_filed rules sets cells k _ (row_and_life w.in-Some.version) (settled before) (settled w.settle.new.self) (pending w.note.new.self)
            c.loop-cell-test.true w.in-Some.ensures.1
            (one_pending (pending before) (pending w.note.new.self) _ _ c.loop-cell.invariant.0 w.in_ok-note.ensures.ok)
            (settled_too (settled before) (settled w.note.new.self) (settled w.settle.new.self) (pending w.note.new.self) w.in_ok-note.ensures.settled
            w.settle.ensures.settled) c.loop-cell.invariant.1),
      )
      | in_default w ↦ (
        ap pending w.finder-is ∙ c.loop-cell.invariant.0,
        subst (λ f. AreFiledAt rules sets (take (k + 1) cells) (settled f)) (sym w.finder-is)
            (not_filed rules sets cells k _ (settled before) c.loop-cell-test.true w.in_default.ensures c.loop-cell.invariant.1),
      )
    ]

pub returns : goal.returns
returns g c = all_filed c.args.book.now (sets_of c.args.members.now.sets.items) c.deref-cell-items.result.now c.loop-cell.cell-index
    (g.F.RowFinder.settled c.loop-cell.finder) (c.deref-cell-items.ensures.value ∙ c.args.members.now.all)
    c.loop-cell-test.false c.loop-cell.invariant.1
