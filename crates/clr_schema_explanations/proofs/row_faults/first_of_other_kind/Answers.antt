use Rattle.clr_schema_explanations.specs.RowFaults.{wrong_in_column}
use Rattle.clr_item_explanations.proofs.ListLemmas.{found_wrong}
use Rattle.clr_schema_explanations.proofs.row_faults.first_of_other_kind.Goals as goal

pub returns-in-Some : goal.returns-in-Some
returns-in-Some c =
    found_wrong (wrong_in_column c.args.table.now) c.items_at-items.result.now c.loop-at.at _ _ c.in-Some.slip c.loop-at-test.true c.index-items-at.is
    (rw c.in-Some.is at c.in_ok-slip.ensures) c.loop-at.invariant
