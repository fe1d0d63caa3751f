use Rattle.std.proofs.Common.{◌∙◌, ap, ap₂, arith, sym}
use Rattle.clap.specs.Words.{App, Shape, app_of, with_subcommand}
use Rattle.clr_command_line.specs.Tables.{subcommand_app}
use Rattle.clr_command_line.proofs.Folds.{mapped_more}
use Rattle.clr_command_line.proofs.described.with_subcommands.Goals as goal

pub loop-subcommand-preserved : goal.loop-subcommand-preserved
loop-subcommand-preserved c =
    let adds = c.in_ok-whole.ensures in
    let one = c.in_ok-subcommand_of.ensures in
    let all = mapped_more with_subcommand (λ s. (subcommand_app s).top) (app_of c.args.command) c.args.subcommands.now c.loop-subcommand.subcommand-index _
    (omega arith)
    in
    adds.shape one.plain ∙ ap₂ (λ (a : App) (s : Shape). with_subcommand a s) c.loop-subcommand.invariant (ap (λ a. a.top) one.shape) ∙ sym all
