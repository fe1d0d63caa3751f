use Rattle.std.proofs.lemmas.Result.{IfOk-weaker}
use Rattle.clr_choices.proofs.choices.choose.Goals as goal

pub returns : goal.returns
returns c = record { chosen = IfOk-weaker c.end.result _ _ (λ choice made. made c.args.names.now c.in_ok-tried.ensures) c.end.ensures }
