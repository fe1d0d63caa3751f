use Rattle.std.proofs.Common.{◌≡◌}
use Rattle.serde_json.specs.View.{view}
use Rattle.clr_item_explanations.specs.declared.fields.Wanted.TheVariants as wanted
use Rattle.clr_item_explanations.specs.Fields.{wrong_value}
use Rattle.clr_item_explanations.specs.Tellings.{wrong_in_list}
use Rattle.clr_item_explanations.proofs.ListLemmas.{wrong_from}
use Rattle.clr_item_explanations.proofs.rules.explain_names.Given as goal

-- the first that is wrong of the other items is that of all
abbrev pub invariant-loop-at : goal.invariant-loop-at
invariant-loop-at l =
    wrong_from l.key (λ at name. wrong_value wanted.Text name) l.at l.items
    ≡ wrong_in_list l.key (λ at name. wrong_value wanted.Text name) (view l.json)
