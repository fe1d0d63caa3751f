use Rattle.clr_board_page.specs.Said.{said_in}
use Rattle.clr_board_page.specs.States.{row_of_design}
use Rattle.clr_board_page.proofs.Texts.{told_on}
use Rattle.clr_board_page.proofs.states.add_rows.Goals as goal

pub loop-at-preserved : goal.loop-at-preserved
loop-at-preserved c =
    told_on (row_of_design (said_in c.args.told)) c.args.sets.now c.loop-at.at c.index-sets-at.result c.loop-at.page.items c.add_row.new.page.items _
    c.loop-at-test.true c.index-sets-at.is c.in_ok-add_row.ensures c.loop-at.invariant
