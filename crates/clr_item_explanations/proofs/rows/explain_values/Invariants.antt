use Rattle.std.proofs.Common.{◌≡◌}
use Rattle.serde_json.specs.View.{view}
use Rattle.clr_text_positions.specs.declared.paths.Key.TheVariants as key
use Rattle.clr_item_explanations.specs.declared.fields.Wanted.TheVariants as wanted
use Rattle.clr_item_explanations.specs.Fields.{wrong_value}
use Rattle.clr_item_explanations.specs.Tellings.{wrong_in_list}
use Rattle.clr_item_explanations.proofs.ListLemmas.{wrong_from}
use Rattle.clr_item_explanations.proofs.rows.explain_values.Given as goal

-- the first that is wrong of the other items is that of all
abbrev pub invariant-loop-at : goal.invariant-loop-at
invariant-loop-at l =
    wrong_from key.V (λ at value. wrong_value wanted.Value value) l.at l.items
    ≡ wrong_in_list key.V (λ at value. wrong_value wanted.Value value) (view l.json)
