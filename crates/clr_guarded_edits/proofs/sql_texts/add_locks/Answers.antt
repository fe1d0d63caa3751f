use Rattle.clr_guarded_edits.specs.SqlTexts.{lock_text}
use Rattle.clr_guarded_edits.proofs.Turns.{text_of_next}
use Rattle.clr_guarded_edits.proofs.sql_texts.add_locks.Goals as goal

pub loop-table-preserved : goal.loop-table-preserved
loop-table-preserved c = text_of_next lock_text c.args.tables.now c.loop-table.table-index c.table-item.result _ _ _ c.loop-table-test.true c.table-item.is
    c.loop-table.invariant c.in_ok-add_lock.ensures
