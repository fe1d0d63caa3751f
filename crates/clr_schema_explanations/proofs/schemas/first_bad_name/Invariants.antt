use Rattle.std.proofs.Common.{◌≡◌}
use Rattle.serde_json.specs.View.{view}
use Rattle.clr_text_positions.specs.declared.paths.Key.TheVariants as key
use Rattle.clr_schema_explanations.specs.SchemaFaults.{bad_name_in}
use Rattle.clr_item_explanations.specs.Tellings.{wrong_in_list}
use Rattle.clr_item_explanations.proofs.ListLemmas.{wrong_from}
use Rattle.clr_schema_explanations.proofs.schemas.first_bad_name.Given as goal

-- the first that is wrong of the other items is that of all
abbrev pub invariant-loop-at : goal.invariant-loop-at
invariant-loop-at l =
    wrong_from key.Tables (λ at table. bad_name_in table) l.at l.items
    ≡ wrong_in_list key.Tables (λ at table. bad_name_in table) (view l.json)
