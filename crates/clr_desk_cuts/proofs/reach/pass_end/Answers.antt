use Rattle.std.proofs.Common.{◌∙◌, ap}
use Rattle.clr_rows.specs.Contents.{Content}
use Rattle.clr_desk_cuts.specs.Reach.{rows_of_table}
use Rattle.clr_desk_cuts.proofs.reach.pass_end.Goals as goal

pub returns-in-Ok-clause-end : goal.returns-in-Ok-clause-end
returns-in-Ok-clause-end g c = (
  c.in-Ok.ensures.whole,
  c.rows_of_table.ensures ∙ ap (λ (rows : Content). rows_of_table rows c.args.inquiry.now.table) c.live-live.ensures.value,
)

pub returns-in-Err-Record-clause-end : goal.returns-in-Err-Record-clause-end
returns-in-Err-Record-clause-end g c = rw c.in-Err-Record.field-0-is at c.in-Err-Record.ensures.fault

pub returns-in-Err-WriteFailed-clause-fault : goal.returns-in-Err-WriteFailed-clause-fault
returns-in-Err-WriteFailed-clause-fault g c = rw c.in-Err-WriteFailed.field-0-is at c.in-Err-WriteFailed.ensures.fault

pub returns-in-Err-Unreadable-clause-fault : goal.returns-in-Err-Unreadable-clause-fault
returns-in-Err-Unreadable-clause-fault g c = rw c.in-Err-Unreadable.field-0-is at c.in-Err-Unreadable.ensures.fault

pub returns-in-Ok-clause-source : goal.returns-in-Ok-clause-source
returns-in-Ok-clause-source g c = c.in-Ok.ensures.source

pub returns-in-Err-OutOfMemory-clause-source : goal.returns-in-Err-OutOfMemory-clause-source
returns-in-Err-OutOfMemory-clause-source g c = rw c.in-Err-OutOfMemory.field-0-is at c.in-Err-OutOfMemory.ensures.source

pub returns-in-Err-Record-clause-source : goal.returns-in-Err-Record-clause-source
returns-in-Err-Record-clause-source g c = rw c.in-Err-Record.field-0-is at c.in-Err-Record.ensures.source

pub returns-in-Err-Unreadable-clause-source : goal.returns-in-Err-Unreadable-clause-source
returns-in-Err-Unreadable-clause-source g c = rw c.in-Err-Unreadable.field-0-is at c.in-Err-Unreadable.ensures.source

pub returns-in-Err-WriteFailed-clause-source : goal.returns-in-Err-WriteFailed-clause-source
returns-in-Err-WriteFailed-clause-source g c = rw c.in-Err-WriteFailed.field-0-is at c.in-Err-WriteFailed.ensures.source
