use Rattle.std.proofs.Common.{◌∙◌, ◌++◌, ap, append_assoc, get_or, map, option_to_list, slice_get, sym, take}
use Rattle.std.specs.List.{filter_map}
use Rattle.clr_merge_sets.proofs.ListLemmas.{filter_map_more}
use Rattle.clr_merge_sets.proofs.member_names.add_names_at.Goals as goal

pub loop-position-preserved : goal.loop-position-preserved
loop-position-preserved c =
    let read = slice_get (map (λ name. name.now) c.args.names.now) in
    let positions = c.args.positions.now in
    let k = c.loop-position.position-index in
    let old = map (λ name. name.now) c.args.list.now.items in
    let one = option_to_list (read (get_or positions k 0)) in
    c.in_ok-add_name.ensures ∙ ap (λ list. list ++ one) c.loop-position.invariant ∙ append_assoc old (filter_map read (take k positions)) one
    ∙ ap (λ list. old ++ list) (sym (filter_map_more read positions k 0 c.loop-position-test.true))
