use Rattle.std.proofs.Common.{◌≡◌, Bool, cond, List, ◌∷◌, [], ◌++◌, ◌+◌, length, take, sym, ap, subst, ◌∙◌, arith}
use Rattle.std.specs.Result.{is_ok}
use Rattle.std.proofs.Math.Seq.{take-length}
use Rattle.std.proofs.lemmas.Grind.{common_steps}
use Rattle.std.proofs.lemmas.List.{take_more}
use Rattle.clr_steps.specs.declared.commands.Command.{Command}
use Rattle.clr_steps.specs.declared.commands.Reply.{Reply}
use Rattle.clr_steps.specs.Steps.{AreAnswers}
use Rattle.clr_steps.proofs.NothingNew.{nothing_new_law}
use Rattle.clr_steps.proofs.RunLemmas.{more_law, run_law}
use Rattle.clr_engine.proofs.offices.Office.perform_all.Goals as goal

pub loop-command-preserved : goal.loop-command-preserved
loop-command-preserved c =
    let at = c.loop-command.command-index in
    let commands = c.args.commands.now in
    let left = c.perform-reply.new.self in
    let more = more_law c.args.self.now (take at commands) c.loop-command.replies.items c.loop-command.self c.command-item.result c.perform-reply.result left
    c.loop-command.invariant.answers c.perform-reply.ensures.answer in
    let performed : take at commands ++ c.command-item.result ∷ [] ≡ take (at + 1) commands = ap (λ command. take at commands ++ command ∷ []) c.command-item.is
    ∙ sym (take_more commands at c.command-item.result c.loop-command-test.true) in
    let pushed : c.push.new.self.items ≡ c.loop-command.replies.items ++ c.perform-reply.result ∷ [] = c.push.ensures.items
    ∙ ap (λ (made : Bool). cond made (c.loop-command.replies.items ++ c.perform-reply.result ∷ []) c.loop-command.replies.items)
    (ap is_ok c.unwrap.ensures) in
    record {
      answers = subst (λ (replies : List Reply). AreAnswers c.args.self.now (take (at + 1) commands) replies left) (sym pushed)
          (subst (λ (cs : List Command). AreAnswers c.args.self.now cs (c.loop-command.replies.items ++ c.perform-reply.result ∷ []) left) performed more);
      count = grind (arith, common_steps);
      room = grind (arith, common_steps);
    }

pub returns-clause-run : goal.returns-clause-run
returns-clause-run c =
    let at = c.loop-command.command-index in
    let commands = c.args.commands.now in
    let all : at ≡ length commands = omega (arith, c.loop-command-test.false, c.loop-command.auto.command-index-end) in
    run_law c.args.self.now commands c.loop-command.replies.items c.loop-command.self
    (subst (λ (cs : List Command). AreAnswers c.args.self.now cs c.loop-command.replies.items c.loop-command.self) (ap (λ n. take n commands) all
    ∙ take-length commands) c.loop-command.invariant.answers)

pub returns-clause-nothing_new : goal.returns-clause-nothing_new
returns-clause-nothing_new c =
    nothing_new_law c.args.self.now (take c.loop-command.command-index c.args.commands.now) c.loop-command.replies.items c.loop-command.self
    c.loop-command.invariant.answers
