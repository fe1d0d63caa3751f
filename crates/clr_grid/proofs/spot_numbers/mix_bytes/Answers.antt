use Rattle.std.proofs.Common.{◌∙◌, ap, refl}
use Rattle.std.proofs.lemmas.List.{take_all}
use Rattle.std.specs.List.{fold}
use Rattle.clr_grid.specs.SpotNumbers.{mix_in}
use Rattle.clr_grid.proofs.SpotLemmas.{mixed_more}
use Rattle.clr_grid.proofs.spot_numbers.mix_bytes.Goals as goal

pub loop-byte-preserved : goal.loop-byte-preserved
loop-byte-preserved c = c.mix_in-mixed.ensures ∙ mixed_more mix_in c.args.number c.args.bytes.now c.loop-byte.byte-index _ _ c.loop-byte.mixed
    c.loop-byte-test.true refl c.loop-byte.invariant

pub returns : goal.returns
returns c = c.loop-byte.invariant ∙ ap (fold mix_in c.args.number) (take_all c.loop-byte.byte-index c.args.bytes.now c.loop-byte-test.false)
