use Rattle.clr_designs.proofs.CountLemmas.{kept_here, none_left, removed_here}
use Rattle.clr_designs.proofs.counts.first_removed.Goals as goal

pub returns-in-Delete : goal.returns-in-Delete
returns-in-Delete c =
    removed_here c.args.edits.now c.loop-edit.edit-index c.edit-item.result c.in-Delete.cell c.loop-edit-test.true c.edit-item.is c.in-Delete.is
    c.loop-edit.invariant

pub loop-edit-preserved : goal.loop-edit-preserved
loop-edit-preserved c =
    kept_here c.args.edits.now c.loop-edit.edit-index c.edit-item.result c.loop-edit-test.true c.edit-item.is c.in_default.not-Delete c.loop-edit.invariant

pub returns : goal.returns
returns c = none_left c.args.edits.now c.loop-edit.edit-index c.loop-edit-test.false c.loop-edit.invariant
