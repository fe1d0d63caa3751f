use Rattle.clr_faults.specs.Readings.{put_row_of}
use Rattle.clr_faults.proofs.Firsts.{goes_on, ends, is_done}
use Rattle.clr_faults.proofs.cell_lists.first_misfit_row.Goals as goal

pub returns-in-Err : goal.returns-in-Err
returns-in-Err c =
    ends (put_row_of c.args.schema.now) c.in-Err.fault c.loop-at.sheet c.args.items.now c.loop-at.at _ _ c.unless_lost.result c.loop-at-test.true
    c.index-items-at.is c.in-Err.ensures.value c.loop-at.invariant c.unless_lost.ensures

pub loop-at-preserved : goal.loop-at-preserved
loop-at-preserved c =
    goes_on (put_row_of c.args.schema.now) c.loop-at.sheet _ c.args.items.now c.loop-at.at _ _ c.loop-at-test.true c.index-items-at.is
    c.in-Ok.ensures.value c.loop-at.invariant

pub returns : goal.returns
returns c = is_done (put_row_of c.args.schema.now) c.loop-at.sheet c.args.items.now c.loop-at.at _ c.loop-at-test.false c.loop-at.invariant
