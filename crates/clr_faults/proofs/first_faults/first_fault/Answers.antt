use Rattle.clr_faults.specs.FirstFaults.{alone}
use Rattle.clr_faults.proofs.Firsts.{goes_on, ends, is_done}
use Rattle.clr_faults.proofs.first_faults.first_fault.Goals as goal

pub returns-in-Err : goal.returns-in-Err
returns-in-Err g c =
    ends (alone (g.I.Item.reads c.args.kind.now)) c.in-Err.fault tt c.args.items.now c.loop-at.at _ _ c.unless_lost.result c.loop-at-test.true
    c.index-items-at.is c.in-Err.ensures c.loop-at.invariant c.unless_lost.ensures

pub loop-at-preserved : goal.loop-at-preserved
loop-at-preserved g c =
    goes_on (alone (g.I.Item.reads c.args.kind.now)) tt tt c.args.items.now c.loop-at.at _ _ c.loop-at-test.true c.index-items-at.is c.in-Ok.ensures
    c.loop-at.invariant

pub returns : goal.returns
returns g c = is_done (alone (g.I.Item.reads c.args.kind.now)) tt c.args.items.now c.loop-at.at _ c.loop-at-test.false c.loop-at.invariant
