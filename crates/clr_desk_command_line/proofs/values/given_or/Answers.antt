use Rattle.std.proofs.Common.{◌∙◌, ap, unwrap_or}
use Rattle.std.proofs.lemmas.Result.{IfOk-weaker}
use Rattle.clap.proofs.WalkLemmas.{first_value-rows}
use Rattle.clap.specs.Words.{found_of}
use Rattle.clr_desk_command_line.proofs.GivenLemmas.{given}
use Rattle.clr_desk_command_line.proofs.values.given_or.Goals as goal

pub returns : goal.returns
returns c =
    let e = c.get_str.ensures ∙ first_value-rows (found_of c.args.matches.now) c.args.id.now in
    let text = ap (λ t. t.now) c.unwrap_or-text.ensures ∙ given (λ t. t.now) c.get_str.result c.args.otherwise ∙ ap (λ o. unwrap_or o c.args.otherwise.now) e in
    IfOk-weaker c.from_str.result _ _ (λ words is. is ∙ text) c.from_str.ensures
