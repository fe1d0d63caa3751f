use Rattle.std.proofs.Common.{◌∙◌, ap, sym, map, is_some}
use Rattle.clap.specs.Words.{is_simple, takes, subcommand_of}
use Rattle.clap.specs.Faults.{fault_of, is_simple_and_free}
use Rattle.clr_command_line.proofs.Entering.{pair_is}
use Rattle.clr_command_line.specs.Asks.{ask_of}
use Rattle.clr_command_line.proofs.Known.{program_asks, something_is_asked}
use Rattle.clr_command_line.proofs.reading.ask_of.Goals as goal

pub returns-in-Err-clause-takes : goal.returns-in-Err-clause-takes
returns-in-Err-clause-takes c = λ t. c.of.ensures (c.in-Err.ensures.passes (ap (λ a. takes a (map (λ s. s.now) c.args.words.now)) c.in_ok-command.ensures ∙ t))

pub ask_of_subcommand-requires : goal.ask_of_subcommand-requires
ask_of_subcommand-requires c =
    let command_is = c.in_ok-command.ensures in
    let words = map (λ s. s.now) c.args.words.now in
    let sub = (c.in-Ok.ensures.matches (ap is_simple command_is ∙ program_asks.simple)).1 ∙ ap (λ a. subcommand_of a words) command_is in
    let found = pair_is _ c.in-Some.name.now _ c.in-Some.ensures.name c.in-Some.ensures.rows in
    let no_fault = sym (ap (λ a. fault_of a words) command_is) ∙ c.in-Ok.ensures.kinds (ap is_simple_and_free command_is ∙ program_asks.free) in
    ap (λ o. is_some (ask_of o)) (sym found ∙ sub) ∙ something_is_asked words no_fault

pub returns-clause-asks : goal.returns-clause-asks
returns-clause-asks c =
    let command_is = c.in_ok-command.ensures in
    let words = map (λ s. s.now) c.args.words.now in
    let sub = (c.in-Ok.ensures.matches (ap is_simple command_is ∙ program_asks.simple)).1 ∙ ap (λ a. subcommand_of a words) command_is in
    let found = pair_is _ c.in-Some.name.now _ c.in-Some.ensures.name c.in-Some.ensures.rows in
    ap ask_of (sym sub ∙ found) ∙ c.in_ok-ask_of_subcommand.ensures
