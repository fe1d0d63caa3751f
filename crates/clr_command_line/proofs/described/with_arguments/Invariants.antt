use Rattle.std.proofs.Common.{◌≡◌, false, map, take}
use Rattle.clap.specs.Words.{app_of}
use Rattle.clap.specs.declared.builder.command.Command.TheViews.{out-Command as fields_of}
use Rattle.clr_command_line.specs.Tables.{argument_rule, with_rules}
use Rattle.clr_command_line.proofs.described.with_arguments.Given as goal

-- the arguments so far are described
abbrev pub invariant-loop-argument : goal.invariant-loop-argument
invariant-loop-argument l = record {
  shape : app_of l.whole ≡ with_rules (app_of l.initial.whole) (map argument_rule (take l.argument-index l.arguments));
  plain : (fields_of l.whole).has_globals ≡ false;
}
