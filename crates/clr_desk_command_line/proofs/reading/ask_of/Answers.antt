use Rattle.std.proofs.Common.{◌≡◌, ◌∙◌, ap, sym, true, false, map, is_some}
use Rattle.clap.specs.Words.{is_simple, takes, subcommand_of}
use Rattle.clap.specs.Faults.{fault_of, is_simple_and_free}
use Rattle.clr_command_line.proofs.Entering.{pair_is}
use Rattle.clr_desk_command_line.specs.Asks.{ask_of, is_readable}
use Rattle.clr_desk_command_line.proofs.Known.{nothing_made, program_asks, something_is_asked, something_is_found}
use Rattle.clr_desk_command_line.proofs.reading.ask_of.Goals as goal

pub returns-in-Err-clause-takes : goal.returns-in-Err-clause-takes
returns-in-Err-clause-takes c = λ t readable. c.of.ensures
    (c.in-Err.ensures.passes (ap (λ a. takes a (map (λ s. s.now) c.args.words.now)) c.in_ok-command.ensures ∙ t))

pub unreachable-requires : goal.unreachable-requires
unreachable-requires c =
    let command_is = c.in_ok-command.ensures in
    let words = map (λ s. s.now) c.args.words.now in
    let sub = (c.in-Ok.ensures.matches (ap is_simple command_is ∙ program_asks.simple)).1 ∙ ap (λ a. subcommand_of a words) command_is in
    let no_fault = sym (ap (λ a. fault_of a words) command_is) ∙ c.in-Ok.ensures.kinds (ap is_simple_and_free command_is ∙ program_asks.free) in
    let none = nothing_made _ _ (sym c.in_default.ensures.variant) in
    let no : true ≡ false = sym (something_is_found words no_fault) ∙ ap is_some (sym sub) ∙ none in
    absurd cc

pub returns-in-Some-2-clause-asks : goal.returns-in-Some-2-clause-asks
returns-in-Some-2-clause-asks c =
    let command_is = c.in_ok-command.ensures in
    let words = map (λ s. s.now) c.args.words.now in
    let sub = (c.in-Ok.ensures.matches (ap is_simple command_is ∙ program_asks.simple)).1 ∙ ap (λ a. subcommand_of a words) command_is in
    let found = pair_is _ c.in-Some.name.now _ c.in-Some.ensures.name c.in-Some.ensures.rows in
    let asked = rw (c.in-Some-2.is) at c.in_ok-asked.ensures in
    ap ask_of (sym sub ∙ found) ∙ asked

pub returns-clause-takes : goal.returns-clause-takes
returns-clause-takes c = λ t readable.
    let command_is = c.in_ok-command.ensures in
    let words = map (λ s. s.now) c.args.words.now in
    let sub = (c.in-Ok.ensures.matches (ap is_simple command_is ∙ program_asks.simple)).1 ∙ ap (λ a. subcommand_of a words) command_is in
    let found = sym sub ∙ pair_is _ c.in-Some.name.now _ c.in-Some.ensures.name c.in-Some.ensures.rows in
    let no_fault = sym (ap (λ a. fault_of a words) command_is) ∙ c.in-Ok.ensures.kinds (ap is_simple_and_free command_is ∙ program_asks.free) in
    let asked = something_is_asked words _ _ no_fault found (ap is_readable (sym found) ∙ readable) in
    let none = rw (c.in-None.is) at c.in_ok-asked.ensures in
    let no : false ≡ true = ap is_some (sym none) ∙ asked in
    absurd cc
