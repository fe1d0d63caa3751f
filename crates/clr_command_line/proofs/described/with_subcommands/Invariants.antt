use Rattle.std.proofs.Common.{◌≡◌, take}
use Rattle.clap.specs.Words.{app_of}
use Rattle.clr_command_line.specs.Tables.{with_subcommands}
use Rattle.clr_command_line.proofs.described.with_subcommands.Given as goal

-- the subcommands so far are described
abbrev pub invariant-loop-subcommand : goal.invariant-loop-subcommand
invariant-loop-subcommand l = app_of l.whole ≡ with_subcommands (app_of l.initial.whole) (take l.subcommand-index l.subcommands)
