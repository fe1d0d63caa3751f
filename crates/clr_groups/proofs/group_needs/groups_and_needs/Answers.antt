use Rattle.std.proofs.Common.{◌∙◌, ◌<◌, ℕ, List, Contains, get_or, length, map, sym, subst}
use Rattle.clr_needs.specs.Needs.{Lists}
use Rattle.clr_foot.specs.Scenes.{model_of}
use Rattle.clr_needs.proofs.PartPositions.{below_member}
use Rattle.clr_groups.specs.GroupNeeds.{IsPlaceOf, group_need_cmp}
use Rattle.clr_groups.proofs.TouchedPairs.{IsOfPairs, are_group_needs}
use Rattle.clr_groups.proofs.Places.{positions}
use Rattle.clr_groups.proofs.group_needs.groups_and_needs.Goals as goal

pub places_of-requires-clause-some : goal.places_of-requires-clause-some
places_of-requires-clause-some g c x less =
    let model = model_of g.V.RowView.content c.args.scene.now in
    subst (λ vs. (h : List ℕ) × Contains (map positions vs) h × Contains h x) (sym c.as_slice-2.ensures.value)
    (c.in_ok-groups.ensures.every x (below_member model.rules model.root model.sets x (subst (λ n. x < n) c.len.ensures.members less)))

pub touched_needs-requires : goal.touched_needs-requires
touched_needs-requires g c p h =
    let below = (c.in_ok-pairs.ensures.only p (subst (λ ps. Contains ps p) c.as_slice-3.ensures.value h)).0 in
    let less = subst (λ n. p.member < n) (sym (c.in_ok-places.ensures.long ∙ c.len.ensures.members)) below in
    subst (λ ps. p.member < length ps) (sym c.as_slice-4.ensures.value) less

pub returns-clause-needs : goal.returns-clause-needs
returns-clause-needs g c =
    let model = model_of g.V.RowView.content c.args.scene.now in
    let groups = map positions c.in_ok-groups.groups.items in
    are_group_needs model.rules model.root model.sets groups c.requires.apart c.in_ok-groups.ensures c.in_ok-pairs.pairs.items c.in_ok-pairs.ensures
    c.in_ok-places.places.items
    (λ x less. subst (λ vs. IsPlaceOf (map positions vs) x (get_or c.in_ok-places.places.items x 0)) c.as_slice-2.ensures.value
    (c.in_ok-places.ensures.placed x (subst (λ n. x < n) (sym c.len.ensures.members) less)))
    c.in_ok-needs.needs.items
    (subst (λ ps. Lists group_need_cmp (IsOfPairs c.in_ok-places.places.items ps) c.in_ok-needs.needs.items) c.as_slice-3.ensures.value
    (subst (λ pl. Lists group_need_cmp (IsOfPairs pl c.as_slice-3.result.now) c.in_ok-needs.needs.items) c.as_slice-4.ensures.value
    c.in_ok-needs.ensures))
