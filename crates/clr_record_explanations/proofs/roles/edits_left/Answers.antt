use Rattle.clr_record_explanations.proofs.EditsLeft.{goes_on, is_done}
use Rattle.clr_record_explanations.proofs.roles.edits_left.Goals as goal

pub loop-fields-preserved : goal.loop-fields-preserved
loop-fields-preserved c = rw c.left_after-left.ensures (goes_on c.args.records.now c.loop-fields.fields-index _ c.loop-fields.left _ c.loop-fields-test.true
    c.fields-item.is c.loop-fields.invariant)

pub returns : goal.returns
returns c = is_done c.args.records.now c.loop-fields.fields-index c.loop-fields.left _ c.loop-fields-test.false c.loop-fields.invariant
