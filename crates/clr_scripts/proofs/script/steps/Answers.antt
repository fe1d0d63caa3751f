use Rattle.std.proofs.Common.{◌≡◌, ◌+◌, arith}
use Rattle.std.proofs.lemmas.Result.{err_from_is_err_and}
use Rattle.clr_scripts.proofs.ScriptTurns.{behind, one_step, passed_over, step_stops, whole_script}
use Rattle.clr_scripts.proofs.script.steps.Goals as goal
use Rattle.clr_scripts.proofs.script.steps.Goals.{then-edits_left-gt0, else-edits_left-gt0+in_ok-next+in_ok-add}

pub returns-in_err-next : goal.returns-in_err-next
returns-in_err-next c =
    let e = err_from_is_err_and c.from_residual.result c.from_residual.ensures.1 in
    let none : c.loop-i.edits_left ≡ 0 = omega (arith, c.if-edits_left-gt0.false) in
    rw (e.1, e.2) (step_stops c.args.schema.now c.loop-i.list.items (c.loop-i.i + 1) c.args.records.now c.loop-i.i _ _ _ _ c.loop-i-test.true
    c.index-records-i.is
    (rw (behind c.args.records.now c.loop-i.i) at c.in_err-next.ensures) (rw none at c.loop-i.invariant))

pub loop-i-preserved : goal.loop-i-preserved
loop-i-preserved c =
    elim c.if-edits_left-gt0.branch [
      | then-edits_left-gt0 w ↦
          rw (w.list-is, w.edits_left-is) (passed_over c.args.schema.now c.loop-i.list.items c.loop-i.edits_left (c.loop-i.i + 1) c.args.records.now c.loop-i.i
          _ _ w.if-edits_left-gt0.true c.loop-i-test.true c.index-records-i.is c.loop-i.invariant)
      | else-edits_left-gt0+in_ok-next+in_ok-add w ↦
          let none : c.loop-i.edits_left ≡ 0 = omega (arith, w.if-edits_left-gt0.false) in
          rw (w.list-is, w.edits_left-is, w.in_ok-add.ensures.ok, w.edits_within-edits_left.ensures) (one_step c.args.schema.now c.loop-i.list.items
          (c.loop-i.i + 1) c.args.records.now c.loop-i.i _ w.in_ok-next.next _ c.loop-i-test.true c.index-records-i.is
          (rw (behind c.args.records.now c.loop-i.i) at w.in_ok-next.ensures) (rw none at c.loop-i.invariant))
    ]

pub returns : goal.returns
returns c = whole_script c.args.schema.now c.loop-i.list.items c.loop-i.edits_left (c.loop-i.i + 1) c.args.records.now c.loop-i.i _ c.loop-i-test.false
    c.loop-i.invariant
