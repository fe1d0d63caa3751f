use Rattle.std.proofs.Common.{◌∙◌, ◌<◌, map, subst, sym}
use Rattle.std.proofs.lemmas.List.{length-map}
use Rattle.clr_foot.specs.Scenes.{model_of}
use Rattle.clr_merge_sets.specs.MergeSetNames.{merge_set}
use Rattle.clr_scene_tests.proofs.SceneLemmas.{members_counted}
use Rattle.clr_scene_tests.proofs.merge_sets.are_parts_independent.Goals as goal

pub are_scene_members_independent-requires-clause-first : goal.are_scene_members_independent-requires-clause-first
are_scene_members_independent-requires-clause-first c =
    let s = merge_set c.args.root.now (map (λ name. name.now) c.args.members.now) in
    let m = model_of (λ rows. rows) c.in-Ok.scene in
    let of = c.in-Ok.ensures.scene s c.requires.parts in
    let counted = members_counted c.args.office.now s m.rules m.root m.sets of.setting ∙ length-map c.args.members.now (λ name. name.now) in
    subst (λ n. c.args.pair.0 < n) (sym counted) c.requires.first

pub are_scene_members_independent-requires-clause-second : goal.are_scene_members_independent-requires-clause-second
are_scene_members_independent-requires-clause-second c =
    let s = merge_set c.args.root.now (map (λ name. name.now) c.args.members.now) in
    let m = model_of (λ rows. rows) c.in-Ok.scene in
    let of = c.in-Ok.ensures.scene s c.requires.parts in
    let counted = members_counted c.args.office.now s m.rules m.root m.sets of.setting ∙ length-map c.args.members.now (λ name. name.now) in
    subst (λ n. c.args.pair.1 < n) (sym counted) c.requires.second
