use Rattle.std.proofs.Common.{◌∙◌}
use Rattle.clr_item_explanations.proofs.ValueLemmas.{among_lent}
use Rattle.clr_item_explanations.proofs.fields.stands_among.Goals as goal

pub returns : goal.returns
returns c = c.contains.ensures.value ∙ among_lent c.args.text.now c.args.texts.now
