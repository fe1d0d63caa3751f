use Rattle.std.proofs.Common.{◌∙◌, ◌||◌, Bool, ap₂, arith, sym}
use Rattle.clap.specs.Words.{App, Rule, app_of, with_rule}
use Rattle.clr_command_line.specs.Tables.{argument_rule}
use Rattle.clr_command_line.proofs.Folds.{mapped_more}
use Rattle.clr_command_line.proofs.described.with_arguments.Goals as goal

pub loop-argument-preserved : goal.loop-argument-preserved
loop-argument-preserved c =
    let before = c.loop-argument.invariant in
    let adds = c.in_ok-whole.ensures in
    let all = mapped_more with_rule argument_rule (app_of c.args.command) c.args.arguments.now c.loop-argument.argument-index _ (omega arith) in
    record {
      shape = adds.shape c.described.ensures.local ∙ ap₂ (λ (a : App) (r : Rule). with_rule a r) before.shape c.described.ensures.rule ∙ sym all;
      plain = adds.globals ∙ ap₂ (λ (a b : Bool). a || b) before.plain c.described.ensures.local;
    }
