use Rattle.std.proofs.Common.{◌≡◌, map, take}
use Rattle.serde_json.specs.View.{view}
use Rattle.clr_text_positions.specs.declared.paths.Key.TheVariants as key
use Rattle.clr_schema_explanations.specs.SchemaFaults.{table_names, taken_name_in}
use Rattle.clr_item_explanations.specs.Tellings.{wrong_in_list}
use Rattle.clr_item_explanations.proofs.ListLemmas.{wrong_from}
use Rattle.clr_schema_explanations.proofs.schemas.first_taken_name.Given as goal

-- the names before the place, and the first that is wrong of the other tables, which is that of all
abbrev pub invariant-loop-at : goal.invariant-loop-at
invariant-loop-at l = record {
  named : map (λ name. name.now) l.names.items ≡ take l.at (table_names (view l.json));
  so_far : wrong_from key.Tables (λ at table. taken_name_in (take at (table_names (view l.json))) table) l.at l.items
      ≡ wrong_in_list key.Tables (λ at table. taken_name_in (take at (table_names (view l.json))) table) (view l.json);
}
