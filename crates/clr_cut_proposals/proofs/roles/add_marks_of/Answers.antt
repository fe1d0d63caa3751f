use Rattle.std.proofs.Common.{◌∙◌, ap, map}
use Rattle.std.specs.List.{filter_map}
use Rattle.std.proofs.lemmas.List.{map-append}
use Rattle.std.proofs.lemmas.List.Elements.{filter_map-append}
use Rattle.clr_cut_proposals.specs.RoleModels.{role_of}
use Rattle.clr_cut_proposals.specs.Roles.{marked_as}
use Rattle.clr_cut_proposals.proofs.Pieces.{grown}
use Rattle.clr_cut_proposals.proofs.roles.add_marks_of.Goals as goal

pub loop-other-preserved : goal.loop-other-preserved
loop-other-preserved c =
    let marked = marked_as (role_of c.args.role) in
    grown (λ others. filter_map marked (map role_of others))
    (λ xs ys. ap (filter_map marked) (map-append role_of xs ys) ∙ filter_map-append marked (map role_of xs) (map role_of ys)) c.args.all.now
    c.loop-other.other-index c.other-item.result _ _ _ c.loop-other-test.true c.other-item.is c.loop-other.invariant c.in_ok-add_marked.ensures
