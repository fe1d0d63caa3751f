use Rattle.std.proofs.Common.{◌≡◌, map, take}
use Rattle.serde_json.specs.View.{view}
use Rattle.clr_text_positions.specs.declared.paths.Key.TheVariants as key
use Rattle.clr_schema_explanations.specs.SchemaFaults.{if_taken, taken_column}
use Rattle.clr_item_explanations.specs.Values.{first_text, items_at}
use Rattle.clr_item_explanations.proofs.ListLemmas.{found_from}
use Rattle.clr_schema_explanations.proofs.schemas.column_taken.Given as goal

-- the names before the place, and the first that is wrong of the other columns, which is that of all
abbrev pub invariant-loop-at : goal.invariant-loop-at
invariant-loop-at l = record {
  named : map (λ name. name.now) l.names.items ≡ take l.at (map first_text (items_at key.Columns (view l.json)));
  so_far : found_from (λ column. if_taken (take column.0 (map first_text (items_at key.Columns (view l.json)))) column.0 (first_text column.1)) l.at l.items
      ≡ taken_column (view l.json);
}
