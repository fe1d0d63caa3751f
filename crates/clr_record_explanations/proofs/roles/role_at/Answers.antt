use Rattle.clr_record_explanations.proofs.EditsLeft.{as_edit, as_short, as_step}
use Rattle.clr_record_explanations.proofs.roles.role_at.Goals as goal

pub returns-then-edits_left-gt0 : goal.returns-then-edits_left-gt0
returns-then-edits_left-gt0 c = as_edit c.args.records.now c.args.at _ c.edits_left.ensures c.if-edits_left-gt0.true

pub returns-then-edits_asked-records : goal.returns-then-edits_asked-records
returns-then-edits_asked-records c =
    as_short c.args.records.now c.args.at _ _ _ c.requires c.index-records-at.is c.edits_left.ensures c.if-edits_left-gt0.false c.edits_asked.ensures
    c.if-edits_asked-records.true

pub returns-else-edits_asked-records : goal.returns-else-edits_asked-records
returns-else-edits_asked-records c =
    as_step c.args.records.now c.args.at _ _ _ c.requires c.index-records-at.is c.edits_left.ensures c.if-edits_left-gt0.false c.edits_asked.ensures
    c.if-edits_asked-records.false
