use Rattle.std.proofs.Common.{◌∙◌, [], List, ℕ, Some, ap, ap₂, codes, unwrap_or}
use Rattle.std.proofs.lemmas.Result.{IfOk-weaker}
use Rattle.clap.proofs.WalkLemmas.{raw_values-rows}
use Rattle.clap.specs.Words.{found_of}
use Rattle.clr_desk_command_line.specs.Asks.{tables_and_files}
use Rattle.clr_desk_command_line.proofs.named_layers.layers.Goals as goal

pub returns-in-Some : goal.returns-in-Some
returns-in-Some c =
    let e = c.in-Some.ensures ∙ raw_values-rows (found_of c.args.matches.now) (codes "TABLE=FILE") in
    IfOk-weaker c.tables_and_files.result _ _ (λ found is. is ∙ ap (λ o. tables_and_files (unwrap_or o [])) e) c.tables_and_files.ensures

pub returns-in-None : goal.returns-in-None
returns-in-None c =
    let e = c.in-None.ensures ∙ raw_values-rows (found_of c.args.matches.now) (codes "TABLE=FILE") in
    ap₂ (λ (a b : List (List ℕ)). Some (a, b)) c.new.ensures.items c.new-in-None.ensures.items ∙ ap (λ o. tables_and_files (unwrap_or o [])) e
