use Rattle.std.proofs.Common.{slice_set, arith, ap, ◌∙◌}
use Rattle.clr_deltas.specs.declared.stored_marks.StoredMark.{StoredMark}
use Rattle.clr_deltas.specs.Deltas.{swept_mark}
use Rattle.clr_deltas.proofs.MarkLemmas.{one_changed}
use Rattle.clr_deltas.proofs.stored_marks.sweep_each.Goals as goal

pub loop-i-preserved : goal.loop-i-preserved
loop-i-preserved g c =
    let ms = c.loop-i.marks.items in
    let f = swept_mark (g.V.RowView.content c.args.base.now) in
    let all = c.len-i-end.ensures in
    let lt = c.loop-i-test.true in
    ap (λ (m : StoredMark). slice_set ms c.loop-i.i m) (c.sweep.ensures ∙ ap f c.index_mut.ensures.value)
    ∙ one_changed f c.args.marks.now.items ms c.loop-i.i c.index_mut.result.now c.loop-i.invariant (omega (arith, all, lt))
