use Rattle.std.proofs.Common.{◌∙◌, ap}
use Rattle.std.proofs.lemmas.Result.{IfOk-weaker}
use Rattle.clap.specs.Words.{App}
use Rattle.clr_desk_subcommands.specs.Program.{certificates, choices, cuts, exports, imports, old_errors, pictures, tellings, with_group}
use Rattle.clr_desk_subcommands.proofs.command.whole_command.Goals as goal

-- each group is behind those before it
pub returns : goal.returns
returns c =
    let start = c.in_ok-start.ensures in
    let certifying = c.in_ok-certifying.ensures ∙ ap (λ (a : App). with_group a certificates) start in
    let choosing = c.in_ok-choosing.ensures ∙ ap (λ (a : App). with_group a choices) certifying in
    let telling = c.in_ok-telling.ensures ∙ ap (λ (a : App). with_group a tellings) choosing in
    let drawing = c.in_ok-drawing.ensures ∙ ap (λ (a : App). with_group a pictures) telling in
    let exporting = c.in_ok-exporting.ensures ∙ ap (λ (a : App). with_group a exports) drawing in
    let importing = c.in_ok-importing.ensures ∙ ap (λ (a : App). with_group a imports) exporting in
    let mending = c.in_ok-mending.ensures ∙ ap (λ (a : App). with_group a old_errors) importing in
    IfOk-weaker c.with_cuts.result _ _ (λ command is. is ∙ ap (λ (a : App). with_group a cuts) mending) c.with_cuts.ensures
