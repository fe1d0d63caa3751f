use Rattle.std.proofs.Common.{◌∙◌, ap}
use Rattle.std.proofs.lemmas.List.{take_all}
use Rattle.std.specs.List.{fold}
use Rattle.clr_grid.specs.SpotNumbers.{mix_value}
use Rattle.clr_grid.proofs.SpotLemmas.{mixed_more}
use Rattle.clr_grid.proofs.spot_numbers.mix_values.Goals as goal

pub loop-value-preserved : goal.loop-value-preserved
loop-value-preserved c = c.mix_value-mixed.ensures ∙ mixed_more mix_value c.args.number c.args.values.now c.loop-value.value-index c.value-item.result
    c.value-item.result c.loop-value.mixed c.loop-value-test.true c.value-item.is c.loop-value.invariant

pub returns : goal.returns
returns c = c.loop-value.invariant ∙ ap (fold mix_value c.args.number) (take_all c.loop-value.value-index c.args.values.now c.loop-value-test.false)
