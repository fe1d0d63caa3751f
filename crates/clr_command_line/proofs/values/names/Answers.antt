use Rattle.std.proofs.Common.{◌∙◌, [], ap, codes, unwrap_or}
use Rattle.std.proofs.lemmas.Result.{IfOk-weaker}
use Rattle.clap.proofs.WalkLemmas.{raw_values-rows}
use Rattle.clap.specs.Words.{found_of}
use Rattle.clr_command_line.proofs.values.names.Goals as goal

pub returns-in-Some : goal.returns-in-Some
returns-in-Some c =
    let e = c.in-Some.ensures ∙ raw_values-rows (found_of c.args.matches.now) (codes "NAME") in
    IfOk-weaker c.owned_names.result _ _ (λ names is. is ∙ ap (λ o. unwrap_or o []) e) c.owned_names.ensures

pub returns-in-None : goal.returns-in-None
returns-in-None c =
    let e = c.in-None.ensures ∙ raw_values-rows (found_of c.args.matches.now) (codes "NAME") in
    c.new-in-None.ensures ∙ c.new.ensures.items ∙ ap (λ o. unwrap_or o []) e
