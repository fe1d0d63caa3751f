use Rattle.clr_steps.specs.Names.{has}
use Rattle.clr_check.proofs.RunLemmas.{not_done}
use Rattle.clr_check.proofs.runs.is_merged.Goals as goal

pub returns-in_default : goal.returns-in_default
returns-in_default c = not_done c.args.reply.now (has c.args.certificate.now.members c.args.ws.now) c.in_default.not-Done
