use Rattle.std.proofs.Common.{Option, subst}
use Rattle.std.proofs.lemmas.Result.{IfOk-weaker}
use Rattle.clr_workspaces.specs.Marks.{Name}
use Rattle.clr_steps.specs.declared.commands.Command.TheVariants as command
use Rattle.clr_steps.specs.declared.commands.Reply.{Reply}
use Rattle.clr_designs.specs.Again.{IsPerformed}
use Rattle.clr_designs.specs.Designs.{IsCommandAnswer}
use Rattle.clr_designs.proofs.ContentLemmas.{performed_as, remove_never}
use Rattle.clr_designs.proofs.again.take_away.Goals as goal

pub returns-clause-performed : goal.returns-clause-performed
returns-clause-performed c =
    let o = c.args.office.now in
    let name = c.args.name.now in
    let left = c.perform.new.office in
    IfOk-weaker c.perform.result _ (λ refused. IsPerformed o (command.Remove name) refused left)
    (λ refused is.
    performed_as o (command.Remove name) left (remove_never o name) refused
    (subst (λ (n : Name). IsCommandAnswer o (command.Remove n) refused left) c.in_ok-ws.ensures is))
    c.perform.ensures.performed
