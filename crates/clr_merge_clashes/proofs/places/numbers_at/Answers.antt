use Rattle.std.proofs.Common.{◌∙◌, ◌++◌, ap, get_or, option_to_list, slice_get, sym}
use Rattle.clr_merge_sets.proofs.ListLemmas.{filter_map_more}
use Rattle.clr_merge_clashes.proofs.places.numbers_at.Goals as goal

pub loop-position-preserved : goal.loop-position-preserved
loop-position-preserved c =
    let numbers = c.args.numbers.now in
    let k = c.loop-position.position-index in
    c.in_ok-add_number.ensures ∙ ap (λ list. list ++ option_to_list (slice_get numbers (get_or c.args.positions.now k 0))) c.loop-position.invariant
    ∙ sym (filter_map_more (slice_get numbers) c.args.positions.now k 0 c.loop-position-test.true)
