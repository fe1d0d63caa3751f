use Rattle.std.proofs.Common.{◌++◌, ◌∙◌, ap}
use Rattle.clr_layer_text.proofs.Turns.{text_more}
use Rattle.clr_layer_reports.specs.FaultSayings.{listed_name}
use Rattle.clr_layer_reports.proofs.sentences.add_first_names.Goals as goal

pub loop-name-preserved : goal.loop-name-preserved
loop-name-preserved c =
    text_more listed_name c.args.names.now c.loop-name.name-index c.name-item.result _ _ _ c.loop-name-test.true c.loop-name.invariant
    (c.in_ok-add_listed_name.ensures ∙ ap (λ text. c.loop-name.line.items ++ listed_name text) (c.as_str.ensures ∙ c.name-item.is))
