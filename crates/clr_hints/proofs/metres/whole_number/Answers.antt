use Rattle.std.proofs.Common.{◌∙◌}
use Rattle.clr_hints.proofs.MetresLemmas.{read}
use Rattle.clr_hints.proofs.metres.whole_number.Goals as goal

pub returns : goal.returns
returns c = c.ok.ensures.value ∙ read c.args.text.now c.parse.result c.parse.ensures.value.0
