use Rattle.std.proofs.Common.{◌∙◌, refl}
use Rattle.std.proofs.lemmas.Result.{IfOk-weaker}
use Rattle.clr_desk_subcommands.proofs.command.bare_command.Goals as goal

-- the table describes the program
pub returns : goal.returns
returns c = IfOk-weaker c.command_of.result _ _ (λ command is. is ∙ refl) c.command_of.ensures
