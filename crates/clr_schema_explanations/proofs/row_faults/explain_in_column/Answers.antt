use Rattle.serde_json.specs.View.{view}
use Rattle.clr_schema_explanations.proofs.RowLemmas.{column_there}
use Rattle.clr_schema_explanations.proofs.row_faults.explain_in_column.Goals as goal

pub returns-in_ok-found-in-Some : goal.returns-in_ok-found-in-Some
returns-in_ok-found-in-Some c =
    column_there c.args.table.now (c.args.at, view c.args.value.now) (c.in-Some.column.0.now, c.in-Some.column.1) _ c.in-Some.ensures
    c.in_ok-found-in-Some.ensures
