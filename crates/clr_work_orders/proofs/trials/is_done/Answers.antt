use Rattle.clr_work_orders.proofs.TrialLemmas.{undone}
use Rattle.clr_work_orders.proofs.trials.is_done.Goals as goal

pub returns-in_default : goal.returns-in_default
returns-in_default c =
    undone c.args.office.now c.args.command.now c.perform.result c.perform.new.self c.perform.ensures.answer c.in_default.not-Done c.in_default.not-OutOfMemory
