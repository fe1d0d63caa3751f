use Rattle.std.proofs.Common.{◌∙◌, ◌<◌, length, subst, sym, arith}
use Rattle.clr_foot.specs.Scenes.{model_of, setting_of}
use Rattle.clr_needs.proofs.BlockerLaws.{member_below}
use Rattle.clr_groups.proofs.JoinedPairs.{all_labelled, first_joined, members_within, next_joined}
use Rattle.clr_groups.proofs.labels.labels_of.Goals as goal

pub loop-at-init : goal.loop-at-init
loop-at-init g c =
    let model = model_of g.V.RowView.content c.args.scene.now in
    first_joined (setting_of model) (length model.sets) c.args.list.now c.requires.list c.in_ok-labels.labels.items
    (c.in_ok-labels.ensures.long ∙ c.len.ensures.members)
    (λ k less. c.in_ok-labels.ensures.own k (subst (λ n. k < n) (sym c.len.ensures.members) less))

pub returns-clause-few : goal.returns-clause-few
returns-clause-few g c = let few = c.len.ensures.few in let long = c.loop-at.invariant.long in let members = c.len.ensures.members in
    omega (arith, few, long, members)

pub returns-clause-exact : goal.returns-clause-exact
returns-clause-exact g c =
    let model = model_of g.V.RowView.content c.args.scene.now in
    all_labelled (setting_of model) (length model.sets) c.args.list.now c.requires.list
    (member_below model.rules model.root model.sets) c.loop-at.at c.loop-at.labels.items
    c.loop-at-test.false c.loop-at.invariant

pub join_at-requires-clause-below : goal.join_at-requires-clause-below
join_at-requires-clause-below g c =
    let model = model_of g.V.RowView.content c.args.scene.now in
    members_within (setting_of model) (length model.sets) c.args.list.now c.requires.list c.loop-at.labels.items c.loop-at.invariant.long

pub loop-at-preserved : goal.loop-at-preserved
loop-at-preserved g c =
    let model = model_of g.V.RowView.content c.args.scene.now in
    next_joined (setting_of model) (length model.sets) c.args.list.now c.requires.list c.loop-at.at c.loop-at.labels.items
    c.join_at.new.labels.items
    c.loop-at-test.true c.loop-at.invariant
    c.join_at.ensures
