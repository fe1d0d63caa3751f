use Rattle.std.proofs.Common.{◌+◌, sym}
use Rattle.clr_layer_changes.specs.Keys.{is_free}
use Rattle.clr_layer_changes.specs.LayerRows.{all_rows, with_given}
use Rattle.clr_layer_changes.proofs.KeyLemmas.{none_passed}
use Rattle.clr_layer_changes.proofs.TurnLemmas.{begins, ends, goes_on, stops}
use Rattle.clr_layer_changes.proofs.layer_rows.all_rows.Goals as goal

pub loop-i-init : goal.loop-i-init
loop-i-init c = record {
  left = begins (with_given c.args.live.now c.args.table c.args.first) 2 c.args.own c.args.layer.now;
  passed = none_passed (is_free c.args.live.now c.args.own c.args.table) c.args.first;
}

pub loop-i-preserved : goal.loop-i-preserved
loop-i-preserved c =
    let live = c.args.live.now in
    let put = c.in_ok-put_given.ensures c.args.first c.loop-i.invariant.passed in
    record {
      left =
          goes_on (with_given live c.args.table c.args.first) 2 c.loop-i.i c.loop-i.rows c.put_given.new.rows c.index-layer-i.result c.args.layer.now
          (all_rows live c.args.table c.args.first c.args.own c.args.layer.now)
          c.loop-i-test.true c.index-layer-i.is
          (rw c.if-not-branch.false at (put.0 (2 + c.loop-i.i))) c.loop-i.invariant.left;
      passed = put.1;
    }

pub returns-then-not-branch : goal.returns-then-not-branch
returns-then-not-branch c =
    let live = c.args.live.now in
    let put = c.in_ok-put_given.ensures c.args.first c.loop-i.invariant.passed in
    sym (stops (with_given live c.args.table c.args.first) 2 c.loop-i.i c.loop-i.rows (2 + c.loop-i.i) c.index-layer-i.result c.args.layer.now
    (all_rows live c.args.table c.args.first c.args.own c.args.layer.now)
    c.loop-i-test.true c.index-layer-i.is
    (rw c.if-not-branch.true at (put.0 (2 + c.loop-i.i))) c.loop-i.invariant.left)

pub returns : goal.returns
returns c =
    let live = c.args.live.now in
    sym (ends (with_given live c.args.table c.args.first) 2 c.loop-i.i c.loop-i.rows c.args.layer.now (all_rows live c.args.table c.args.first c.args.own
    c.args.layer.now) c.loop-i-test.false
    c.loop-i.invariant.left)
