use Rattle.std.proofs.Common.{Some, subst}
use Rattle.clr_schema_explanations.specs.SchemaFaults.{unless_column_name}
use Rattle.clr_item_explanations.specs.Tellings.{TellsIfAny}
use Rattle.clr_item_explanations.specs.Values.{first_text}
use Rattle.clr_item_explanations.proofs.ListLemmas.{found_wrong}
use Rattle.clr_schema_explanations.proofs.schemas.bad_column.Goals as goal

pub returns-in-Some : goal.returns-in-Some
returns-in-Some c =
    let told = rw c.in-Some.is at c.in_ok-slip.ensures in
    found_wrong (λ column. unless_column_name column.0 (first_text column.1)) c.items_at-items.result.now c.loop-at.at _ _ c.in-Some.slip c.loop-at-test.true
    c.index-items-at.is (subst (λ name. TellsIfAny (unless_column_name c.loop-at.at name) (Some c.in-Some.slip)) c.column_name.ensures told) c.loop-at.invariant
