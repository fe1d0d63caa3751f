-- The command line: subcommands, each with its values.
use Rattle.std.specs.Prelude.{codes}
use Rattle.clap.specs.Words.{App, Rule, Text, new_app, with_rule, with_subcommand}
use Rattle.clr_command_line.specs.Tables.{demanding, flag, value, values}

-- names at the end, none or more
abbrev pub name_arguments : Rule
name_arguments = values (codes "NAME")

-- the option by which members are merged in the order in which they are named
abbrev pub in_order : Rule
in_order = flag (codes "in-order")

-- a subcommand over an office text
abbrev pub database_command : Text → App
database_command name = with_rule (new_app name) (value (codes "DB"))

abbrev pub audit : App
audit = database_command (codes "audit")

abbrev pub run_subcommand : App
run_subcommand = with_rule (database_command (codes "run")) (value (codes "SCRIPT"))

abbrev pub plan : App
plan = with_rule (with_rule (database_command (codes "plan")) in_order) name_arguments

abbrev pub plan_under : App
plan_under = with_rule (with_rule (with_rule (database_command (codes "planunder")) (value (codes "ROOT"))) in_order) name_arguments

abbrev pub check : App
check = with_rule (database_command (codes "check")) (value (codes "CERT"))

abbrev pub merge : App
merge = with_rule (with_rule (database_command (codes "merge")) (value (codes "CERT"))) name_arguments

-- the subcommands that print something and change nothing
abbrev pub reporting : App
reporting =
    with_subcommand (with_subcommand (with_subcommand (with_subcommand (demanding (codes "clr_office")) audit.top) run_subcommand.top) plan.top) plan_under.top

abbrev pub program : App
program = with_subcommand (with_subcommand reporting check.top) merge.top
