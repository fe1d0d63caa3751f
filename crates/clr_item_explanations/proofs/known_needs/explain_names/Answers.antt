use Rattle.clr_text_positions.specs.declared.paths.Key.TheVariants as key
use Rattle.clr_item_explanations.specs.KnownNeeds.{wrong_name}
use Rattle.clr_item_explanations.proofs.ListLemmas.{item_wrong}
use Rattle.clr_item_explanations.proofs.known_needs.explain_names.Goals as goal

pub returns-in-Some : goal.returns-in-Some
returns-in-Some c =
    item_wrong key.Known (λ at name. wrong_name c.args.kind.now name) c.items_at-items.result.now c.loop-at.at _ _
    c.in-Some.slip c.in_ok-below.field-0 c.loop-at-test.true
    c.index-items-at.is (rw c.in-Some.is at c.in_ok-slip.ensures) c.in_ok-below.ensures.steps c.in_ok-below.ensures.sentence c.in_ok-below.ensures.hint
    c.loop-at.invariant
