use Rattle.std.proofs.Common.{◌∙◌, Some, ap}
use Rattle.clap.proofs.WalkLemmas.{first_value-rows}
use Rattle.clap.specs.Words.{found_of}
use Rattle.clr_desk_command_line.proofs.values.given_value.Goals as goal

pub returns-in_ok-from_str-in-Some : goal.returns-in_ok-from_str-in-Some
returns-in_ok-from_str-in-Some c =
    let e = c.in-Some.ensures ∙ first_value-rows (found_of c.args.matches.now) c.args.id.now in
    ap Some c.in_ok-from_str-in-Some.ensures ∙ e

pub returns-in-None : goal.returns-in-None
returns-in-None c = c.in-None.ensures ∙ first_value-rows (found_of c.args.matches.now) c.args.id.now
