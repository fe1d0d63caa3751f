use Rattle.std.proofs.Common.{◌∙◌, ◌++◌, ap, get_or, option_to_list, sym}
use Rattle.clr_merge_clashes.specs.SharedCells.{earlier_clash}
use Rattle.clr_merge_sets.proofs.ListLemmas.{filter_map_more}
use Rattle.clr_merge_clashes.proofs.pairs.earlier_clashes.Goals as goal

pub loop-earlier-preserved : goal.loop-earlier-preserved
loop-earlier-preserved c =
    let pair = earlier_clash c.args.sets.now c.args.later in
    let k = c.loop-earlier.earlier-index in
    c.in_ok-add_pair.ensures ∙ ap (λ list. list ++ option_to_list (pair (get_or c.args.free.now k 0))) c.loop-earlier.invariant
    ∙ sym (filter_map_more pair c.args.free.now k 0 c.loop-earlier-test.true)
