use Rattle.clr_text_positions.specs.declared.paths.Key.TheVariants as key
use Rattle.clr_item_explanations.specs.Tables.{wrong_column}
use Rattle.clr_item_explanations.proofs.ListLemmas.{item_wrong}
use Rattle.clr_item_explanations.proofs.tables.explain_columns.Goals as goal

pub returns-in-Some : goal.returns-in-Some
returns-in-Some c =
    item_wrong key.Columns (λ at column. wrong_column column) c.items_at-items.result.now c.loop-at.at _ _
    c.in-Some.slip c.in_ok-below.field-0 c.loop-at-test.true c.index-items-at.is
    (rw c.in-Some.is at c.in_ok-slip.ensures) c.in_ok-below.ensures.steps c.in_ok-below.ensures.sentence c.in_ok-below.ensures.hint c.loop-at.invariant
