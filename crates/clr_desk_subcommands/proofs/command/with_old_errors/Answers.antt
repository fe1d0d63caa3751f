use Rattle.std.proofs.Common.{◌∙◌, refl}
use Rattle.std.proofs.lemmas.Result.{IfOk-weaker}
use Rattle.clr_desk_subcommands.specs.Program.{old_errors}
use Rattle.clr_desk_subcommands.proofs.command.with_old_errors.Goals as goal

-- the table describes the group
pub returns : goal.returns
unfolding old_errors
returns c = IfOk-weaker c.with_subcommands.result _ _ (λ command is. is ∙ refl) c.with_subcommands.ensures
