use Rattle.std.proofs.Common.{◌∙◌, map}
use Rattle.std.proofs.lemmas.List.{length-map}
use Rattle.clr_foot.specs.Scenes.{model_of}
use Rattle.clr_merge_sets.specs.MergeSetNames.{merge_set}
use Rattle.clr_scene_tests.proofs.SceneLemmas.{member_changes, members_counted}
use Rattle.clr_scene_tests.proofs.merge_sets.first_broken_of_parts.Goals as goal

pub first_broken_of_scene-requires-clause-one : goal.first_broken_of_scene-requires-clause-one
first_broken_of_scene-requires-clause-one c =
    let s = merge_set c.args.root.now (map (λ name. name.now) c.args.members.now) in
    let m = model_of (λ rows. rows) c.in-Ok.scene in
    let of = c.in-Ok.ensures.scene s c.requires.parts in
    members_counted c.args.office.now s m.rules m.root m.sets of.setting ∙ length-map c.args.members.now (λ name. name.now) ∙ c.requires.one

pub first_broken_of_scene-requires-clause-changes : goal.first_broken_of_scene-requires-clause-changes
first_broken_of_scene-requires-clause-changes c =
    let s = merge_set c.args.root.now (map (λ name. name.now) c.args.members.now) in
    let m = model_of (λ rows. rows) c.in-Ok.scene in
    let of = c.in-Ok.ensures.scene s c.requires.parts in
    member_changes c.args.office.now s m.rules m.root m.sets of.setting c.requires.parts.free (length-map c.args.members.now (λ name. name.now) ∙ c.requires.one)
