use Rattle.std.proofs.Common.{map}
use Rattle.clr_merge_sets.specs.MergeSetNames.{merge_set}
use Rattle.clr_independence.proofs.MergeSetLaws.{pairs_of_merge_set}
use Rattle.clr_independence.proofs.independent_members.of_parts.Goals as goal

pub returns-in_ok-list-in-Ok : goal.returns-in_ok-list-in-Ok
returns-in_ok-list-in-Ok c =
    let s = merge_set c.args.root.now (map (λ name. name.now) c.args.members.now) in
    let of = c.in-Ok.ensures.scene s c.requires in
    (c.requires.free, of.apart, pairs_of_merge_set c.args.office.now s _ _ _ of.setting c.in_ok-list-in-Ok.list.items c.in_ok-list-in-Ok.ensures)
