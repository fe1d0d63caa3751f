use Rattle.std.proofs.Common.{◌∙◌, codes, FitsSigned, rules, w64}
use Rattle.std.proofs.lemmas.Int.{to_z-of_z}
use Rattle.std.proofs.lemmas.Result.{on_ok_weaker}
use Rattle.clr_cut_proposals.specs.Places.{lower_edge, square_below}
use Rattle.clr_metres.specs.Metres.{metres_text}
use Rattle.clr_cut_proposals.proofs.Pieces.{last_piece, pieces_6}
use Rattle.clr_cut_proposals.proofs.places.add_lower_edge.Goals as goal

pub returns : goal.returns
unfolding lower_edge
returns c =
    let fits_origin : FitsSigned w64 c.args.origin = search rules in
    let fits_reach : FitsSigned w64 c.args.reach = search rules in
    on_ok_weaker c.extend_from_slice-3.result
    (λ e. e ∙ rw (
      c.in_ok-add_metres-2.ensures,
      c.in_ok-extend_from_slice-2.ensures.items,
      c.in_ok-add_metres.ensures,
      c.in_ok-extend_from_slice.ensures.items,
      c.in_ok-add_square_below.ensures,
      to_z-of_z w64 c.args.origin fits_origin,
      to_z-of_z w64 c.args.reach fits_reach,
    )
    (pieces_6 c.args.text.now.items
    (square_below c.args.function.now c.args.geometry.now c.args.origin c.args.reach)
    (codes " + (")
    (metres_text c.args.origin)
    (codes ") - ")
    (metres_text c.args.reach)
    (codes " - 0.001"))) (last_piece c.extend_from_slice-3.result _ _ _ c.extend_from_slice-3.ensures.items)
