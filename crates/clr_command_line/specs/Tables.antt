-- The command lines that tables describe.
use Rattle.std.specs.Prelude.{true, Some, List, fold, map}
use Rattle.clap.specs.Lexer.{usize_max}
use Rattle.clap.specs.Words.{App, Rule, Text, new_app, new_rule, with_rule, with_subcommand}
use Rattle.clap.specs.declared.builder.action.ArgAction.TheVariants.{SetTrue}
use Rattle.clr_command_line.specs.declared.tables.Argument.{Argument}
use Rattle.clr_command_line.specs.declared.tables.Argument.TheVariants.{Value, Values, RequiredValues, ValueOption, Flag}
use Rattle.clr_command_line.specs.declared.tables.ProgramTable.{ProgramTable}
use Rattle.clr_command_line.specs.declared.tables.Subcommand.{Subcommand}

-- a value that is required
abbrev pub value : Text → Rule
value name = record (new_rule name) { required = true }

-- values at the end, none or more
abbrev pub values : Text → Rule
values name = record (new_rule name) { range = Some (record { start_inclusive = 0; end_inclusive = usize_max }) }

-- values at the end, one or more
abbrev pub required_values : Text → Rule
required_values name = record (new_rule name) { required = true; range = Some (record { start_inclusive = 1; end_inclusive = usize_max }) }

-- an option with one value
abbrev pub option : Text → Rule
option name = record (new_rule name) { long = Some name; value_names = 1 }

-- an option without a value
abbrev pub flag : Text → Rule
flag name = record (new_rule name) { long = Some name; action = Some SetTrue }

-- an argument
abbrev pub argument_rule : Argument → Rule
argument_rule (Value name about) = value name.now
argument_rule (Values name about) = values name.now
argument_rule (RequiredValues name about) = required_values name.now
argument_rule (ValueOption name shown about) = option name.now
argument_rule (Flag name about) = flag name.now

-- a command with rules at its end
abbrev pub with_rules : App → List Rule → App
with_rules command rules = fold with_rule command rules

-- a subcommand with its arguments
abbrev pub subcommand_app : Subcommand → App
subcommand_app s = with_rules (new_app s.name.now) (map argument_rule s.arguments.now)

-- a program that requires a subcommand, and has a version
abbrev pub demanding : Text → App
demanding name = let bare = new_app name in record bare { top = record bare.top { has_version = true; subcommand_required = true } }

-- a command with subcommands at its end
abbrev pub with_subcommands : App → List Subcommand → App
with_subcommands command subcommands = fold with_subcommand command (map (λ s. (subcommand_app s).top) subcommands)

-- a program with its subcommands
abbrev pub program_app : ProgramTable → App
program_app p = with_subcommands (demanding p.name.now) p.subcommands.now
