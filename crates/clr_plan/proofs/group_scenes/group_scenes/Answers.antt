use Rattle.std.proofs.Common.{◌∙◌, ◌<◌, ℕ, Global, List, Vec, ap, map, subst, sym}
use Rattle.std.proofs.lemmas.List.{length-map, take_all}
use Rattle.clr_foot.specs.Scenes.{model_of}
use Rattle.clr_plan.specs.GroupNeeds.{models_at}
use Rattle.clr_plan.proofs.GroupNeedLaws.{one_scene, past_mapped}
use Rattle.clr_plan.proofs.group_scenes.group_scenes.Goals as goal

-- the positions of a group
abbrev positions : Vec ℕ Global → List ℕ
positions v = v.items

pub loop-at-init : goal.loop-at-init
loop-at-init g c = ap (map (model_of g.V.RowView.content)) c.in_ok-parts.ensures.items

pub loop-at-preserved : goal.loop-at-preserved
loop-at-preserved g c =
    let groups = map positions c.args.groups.now in
    let less = subst (λ n. c.loop-at.at < n) (sym (length-map c.args.groups.now positions)) c.loop-at-test.true in
    one_scene (model_of g.V.RowView.content) (model_of g.V.RowView.content c.args.scene.now) groups c.loop-at.at c.loop-at.parts.items c.push.new.self.items
    c.in_ok-group_scene.field-0 less c.in_ok-push.ensures.items c.in_ok-group_scene.ensures.made c.loop-at.invariant

pub returns : goal.returns
returns g c = c.loop-at.invariant ∙ ap (models_at (model_of g.V.RowView.content c.args.scene.now)) (take_all c.loop-at.at (map positions c.args.groups.now)
    (past_mapped positions c.args.groups.now c.loop-at.at c.loop-at-test.false))
