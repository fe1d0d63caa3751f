use Rattle.clr_designs.proofs.PerformLemmas.{is_done, is_refused}
use Rattle.clr_designs.proofs.designs.perform.Goals as goal

pub returns-in-Done-clause-performed : goal.returns-in-Done-clause-performed
returns-in-Done-clause-performed c = is_done c.args.office.now c.args.command.now c.perform.new.self c.perform.result c.in-Done.is c.perform.ensures.answer

pub returns-in_default-clause-performed : goal.returns-in_default-clause-performed
returns-in_default-clause-performed c =
    is_refused c.args.office.now c.args.command.now c.perform.new.self c.perform.result c.in_default.not-Done c.in_default.not-OutOfMemory
    c.perform.ensures.answer
