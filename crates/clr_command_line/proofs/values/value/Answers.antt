use Rattle.std.proofs.Common.{◌∙◌, [], ap, unwrap_or}
use Rattle.std.proofs.lemmas.Result.{IfOk-weaker}
use Rattle.clap.proofs.WalkLemmas.{first_value-rows}
use Rattle.clap.specs.Words.{found_of}
use Rattle.clr_command_line.proofs.values.value.Goals as goal

pub returns-in-Some : goal.returns-in-Some
returns-in-Some c =
    let e = c.in-Some.ensures ∙ first_value-rows (found_of c.args.matches.now) c.args.id.now in
    IfOk-weaker c.from_str.result _ _ (λ text is. is ∙ ap (λ o. unwrap_or o []) e) c.from_str.ensures

pub returns-in-None : goal.returns-in-None
returns-in-None c =
    let e = c.in-None.ensures ∙ first_value-rows (found_of c.args.matches.now) c.args.id.now in
    c.new-in-None.ensures ∙ c.new.ensures.bytes ∙ ap (λ o. unwrap_or o []) e
