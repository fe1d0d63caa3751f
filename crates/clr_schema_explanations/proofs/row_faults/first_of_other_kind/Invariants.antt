use Rattle.std.proofs.Common.{◌≡◌}
use Rattle.serde_json.specs.View.{view}
use Rattle.clr_text_positions.specs.declared.paths.Key.TheVariants as key
use Rattle.std.specs.List.{enumerate_from}
use Rattle.clr_item_explanations.specs.Tellings.{first_wrong}
use Rattle.clr_item_explanations.specs.Values.{items_at}
use Rattle.clr_schema_explanations.specs.RowFaults.{wrong_in_column}
use Rattle.clr_item_explanations.proofs.ListLemmas.{found_from}
use Rattle.clr_schema_explanations.proofs.row_faults.first_of_other_kind.Given as goal

-- the first that is wrong of the other items is that of all
abbrev pub invariant-loop-at : goal.invariant-loop-at
invariant-loop-at l =
    found_from (wrong_in_column l.table) l.at l.items
    ≡ first_wrong (wrong_in_column l.table) (enumerate_from 0 (items_at key.V (view l.json)))
