use Rattle.std.proofs.Common.{◌∙◌, ap}
use Rattle.std.specs.FinMap as finite
use Rattle.clr_rows.specs.Contents.{over}
use Rattle.clr_deltas.specs.Differences.{Differences}
use Rattle.clr_contents.proofs.ReadLemmas.{base_parts}
use Rattle.clr_contents.proofs.wholes.base_rows.Goals as goal

pub returns : goal.returns
returns c =
    let base = c.in_ok-rows.ensures ∙ ap (λ (d : Differences). finite.entries d) c.base.ensures in
    c.in_ok-put_all.ensures.ok ∙ (λ i. over (c.in_ok-content.ensures i) (base i))
    ∙ base_parts c.args.live.now c.args.map.now c.args.at c.requires.child c.requires.within c.parent_of-above.result c.parent_of-above.ensures.found
    c.parent_of-above.ensures.earlier
