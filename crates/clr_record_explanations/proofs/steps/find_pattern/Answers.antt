use Rattle.std.proofs.Common.{◌∙◌}
use Rattle.clr_record_explanations.proofs.SlipLemmas.{first_lent}
use Rattle.clr_record_explanations.proofs.steps.find_pattern.Goals as goal

pub returns : goal.returns
returns c = c.find_lent.ensures ∙ first_lent c.args.word.now c.args.patterns.now
