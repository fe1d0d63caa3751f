use Rattle.std.proofs.Common.{◌≡◌}
use Rattle.serde_json.specs.View.{view}
use Rattle.clr_text_positions.specs.declared.paths.Key.TheVariants as key
use Rattle.clr_item_explanations.specs.KnownNeeds.{wrong_name}
use Rattle.clr_item_explanations.specs.Tellings.{wrong_in_list}
use Rattle.clr_item_explanations.proofs.ListLemmas.{wrong_from}
use Rattle.clr_item_explanations.proofs.known_needs.explain_names.Given as goal

-- the first that is wrong of the other items is that of all
abbrev pub invariant-loop-at : goal.invariant-loop-at
invariant-loop-at l =
    wrong_from key.Known (λ at name. wrong_name l.kind name) l.at l.items
    ≡ wrong_in_list key.Known (λ at name. wrong_name l.kind name) (view l.json)
