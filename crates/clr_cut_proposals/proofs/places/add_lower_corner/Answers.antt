use Rattle.std.proofs.Common.{◌∙◌, codes, FitsSigned, rules, w64}
use Rattle.std.proofs.lemmas.Int.{to_z-of_z}
use Rattle.std.proofs.lemmas.Result.{on_ok_weaker}
use Rattle.clr_cut_proposals.specs.Places.{geometry_of, least_x, least_y, lower_corner, lower_edge, reach_of}
use Rattle.clr_cut_proposals.specs.RoleModels.{mark_of}
use Rattle.clr_cut_proposals.proofs.Pieces.{pieces_3}
use Rattle.clr_cut_proposals.proofs.places.add_lower_corner.Goals as goal

pub returns : goal.returns
unfolding lower_corner
returns c =
    let target = c.args.target.now in
    let mark = mark_of c.args.mark in
    let fits_x : FitsSigned w64 target.origin.x = search rules in
    let fits_y : FitsSigned w64 target.origin.y = search rules in
    let fits_reach : FitsSigned w64 (reach_of mark) = search rules in
    on_ok_weaker c.add_lower_edge-2.result
    (λ e. e ∙ rw (
      c.in_ok-extend_from_slice.ensures.items,
      c.in_ok-add_lower_edge.ensures,
      c.least_y.ensures,
      c.least_x.ensures,
      c.reach_of-reach.ensures,
      c.geometry_of-geometry.ensures,
      to_z-of_z w64 target.origin.x fits_x,
      to_z-of_z w64 target.origin.y fits_y,
      to_z-of_z w64 (reach_of mark) fits_reach,
    )
    (pieces_3 c.args.text.now.items
    (lower_edge (least_x target.dialect) (geometry_of mark) target.origin.x (reach_of mark))
    (codes ", ")
    (lower_edge (least_y target.dialect) (geometry_of mark) target.origin.y (reach_of mark))))
    c.add_lower_edge-2.ensures
