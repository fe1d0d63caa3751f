use Rattle.std.proofs.Common.{◌∙◌, ◌≤◌, [], ℕ, Global, List, Vec, Contains, ap, length, map, subst, sym}
use Rattle.clr_foot.specs.Scenes.{IsReady, model_at, model_of, setting_of}
use Rattle.clr_row_versions.specs.Versions.{FitsSetting}
use Rattle.clr_groups.proofs.GroupParts.{group_few, group_fits, group_read, group_ready, group_there, group_within}
use Rattle.clr_groups.proofs.scenes.group_scene.Goals as goal

-- the positions of a group
abbrev positions : Vec ℕ Global → List ℕ
positions v = v.items

pub part-requires-clause-few : goal.part-requires-clause-few
part-requires-clause-few g c =
    let model = model_of g.V.RowView.content c.args.scene.now in
    let there = group_there positions c.args.groups.now c.args.at c.index-groups-at.result c.requires.within c.index-groups-at.is in
    subst (λ xs. length xs ≤ 255) (sym c.as_slice.ensures.value)
    (group_few g.F.RowFinder.settled model c.requires.apart (map positions c.args.groups.now) c.requires.groups c.index-groups-at.result.items there
    c.len-few.ensures.few)

pub part-requires-clause-within : goal.part-requires-clause-within
part-requires-clause-within g c =
    let model = model_of g.V.RowView.content c.args.scene.now in
    let there = group_there positions c.args.groups.now c.args.at c.index-groups-at.result c.requires.within c.index-groups-at.is in
    λ k h. group_within g.F.RowFinder.settled model c.requires.apart (map positions c.args.groups.now) c.requires.groups c.index-groups-at.result.items there k
    (subst (λ xs. Contains xs k) c.as_slice.ensures.value h)

pub part-requires-clause-fit : goal.part-requires-clause-fit
part-requires-clause-fit g c =
    let model = model_of g.V.RowView.content c.args.scene.now in
    let there = group_there positions c.args.groups.now c.args.at c.index-groups-at.result c.requires.within c.index-groups-at.is in
    subst (λ xs. FitsSetting (setting_of (model_at model xs))) (sym c.as_slice.ensures.value)
    (group_fits g.F.RowFinder.settled model c.requires.apart (map positions c.args.groups.now) c.requires.groups c.index-groups-at.result.items there
    c.requires.ready.fit)

pub returns-clause-made : goal.returns-clause-made
returns-clause-made g c =
    c.in_ok-part.ensures ∙ ap (model_at (model_of g.V.RowView.content c.args.scene.now)) (c.as_slice.ensures.value
    ∙ sym (group_read positions c.args.groups.now c.args.at c.index-groups-at.result [] c.requires.within c.index-groups-at.is))

pub returns-clause-ready : goal.returns-clause-ready
returns-clause-ready g c =
    let model = model_of g.V.RowView.content c.args.scene.now in
    let there = group_there positions c.args.groups.now c.args.at c.index-groups-at.result c.requires.within c.index-groups-at.is in
    subst (IsReady g.F.RowFinder.settled) (sym (c.in_ok-part.ensures ∙ ap (model_at model) c.as_slice.ensures.value))
    (group_ready g.F.RowFinder.settled model c.requires.apart (map positions c.args.groups.now) c.requires.groups c.index-groups-at.result.items there
    c.requires.ready)
