use Rattle.std.proofs.Common.{◌+◌, sym}
use Rattle.clr_rows.specs.Contents.{no_rows}
use Rattle.clr_layer_changes.specs.LayerRows.{own_rows, with_own}
use Rattle.clr_layer_changes.proofs.TurnLemmas.{begins, ends, goes_on, stops}
use Rattle.clr_layer_changes.proofs.layer_rows.own_rows.Goals as goal

pub loop-i-init : goal.loop-i-init
loop-i-init c = rw c.new-rows.ensures (begins (with_own c.args.table) 2 no_rows c.args.layer.now)

pub loop-i-preserved : goal.loop-i-preserved
loop-i-preserved c =
    goes_on (with_own c.args.table) 2 c.loop-i.i c.loop-i.rows c.put_own.new.rows c.index-layer-i.result c.args.layer.now
    (own_rows c.args.table c.args.layer.now)
    c.loop-i-test.true c.index-layer-i.is
    (rw c.if-not-branch.false at (c.in_ok-put_own.ensures (2 + c.loop-i.i))) c.loop-i.invariant

pub returns-then-not-branch : goal.returns-then-not-branch
returns-then-not-branch c =
    sym (stops (with_own c.args.table) 2 c.loop-i.i c.loop-i.rows (2 + c.loop-i.i) c.index-layer-i.result c.args.layer.now
    (own_rows c.args.table c.args.layer.now)
    c.loop-i-test.true c.index-layer-i.is
    (rw c.if-not-branch.true at (c.in_ok-put_own.ensures (2 + c.loop-i.i))) c.loop-i.invariant)

pub returns : goal.returns
returns c = sym (ends (with_own c.args.table) 2 c.loop-i.i c.loop-i.rows c.args.layer.now (own_rows c.args.table c.args.layer.now) c.loop-i-test.false
    c.loop-i.invariant)
