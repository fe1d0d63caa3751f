use Rattle.std.proofs.Common.{◌≡◌}
use Rattle.serde_json.specs.View.{view}
use Rattle.clr_schema_explanations.specs.SchemaFaults.{bad_column, unless_column_name}
use Rattle.clr_item_explanations.specs.Values.{first_text}
use Rattle.clr_item_explanations.proofs.ListLemmas.{found_from}
use Rattle.clr_schema_explanations.proofs.schemas.bad_column.Given as goal

-- the first that is wrong of the other items is that of all
abbrev pub invariant-loop-at : goal.invariant-loop-at
invariant-loop-at l = found_from (λ column. unless_column_name column.0 (first_text column.1)) l.at l.items ≡ bad_column (view l.json)
