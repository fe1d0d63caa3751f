use Rattle.std.proofs.Common.{map, refl}
use Rattle.clr_merge_sets.specs.MergeSetNames.{merge_set}
use Rattle.clr_clearance.specs.MergeSets.{change_sets}
use Rattle.clr_plan.proofs.FaultLaws.{apart_sets}
use Rattle.clr_office_tests.proofs.merge_sets.text_of_parts.Goals as goal

pub scene_text-requires-clause-apart : goal.scene_text-requires-clause-apart
scene_text-requires-clause-apart c =
    let s = merge_set c.args.root.now (map (λ name. name.now) c.args.members.now) in
    let of = c.in-Ok.ensures.scene s c.requires in
    apart_sets _ (change_sets c.args.office.now s) _ _ of.setting refl refl of.apart
