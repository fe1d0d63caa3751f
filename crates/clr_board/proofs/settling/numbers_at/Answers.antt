use Rattle.std.proofs.Common.{◌∙◌, ◌++◌, ap, get_or, option_to_list, slice_get, sym}
use Rattle.clr_merge_sets.proofs.ListLemmas.{filter_map_more}
use Rattle.clr_board.proofs.settling.numbers_at.Goals as goal

pub loop-place-preserved : goal.loop-place-preserved
loop-place-preserved c =
    let numbers = c.args.numbers.now in
    let k = c.loop-place.place-index in
    c.in_ok-add_number.ensures ∙ ap (λ list. list ++ option_to_list (slice_get numbers (get_or c.args.places.now k 0))) c.loop-place.invariant
    ∙ sym (filter_map_more (slice_get numbers) c.args.places.now k 0 c.loop-place-test.true)
