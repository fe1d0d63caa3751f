use Rattle.std.proofs.Common.{◌∙◌, codes, FitsSigned, rules, w64}
use Rattle.std.proofs.lemmas.Int.{to_z-of_z}
use Rattle.std.proofs.lemmas.Result.{on_ok_weaker}
use Rattle.clr_cut_proposals.specs.Places.{from_origin, square_above}
use Rattle.clr_metres.specs.Metres.{metres_text}
use Rattle.clr_spots.specs.declared.limits.TheConstants.{SQUARE_SIDE}
use Rattle.clr_cut_proposals.proofs.Pieces.{pieces_9}
use Rattle.clr_cut_proposals.proofs.places.add_square_above.Goals as goal

pub returns : goal.returns
unfolding square_above
returns c =
    let fits_origin : FitsSigned w64 c.args.origin = search rules in
    let fits_reach : FitsSigned w64 c.args.reach = search rules in
    on_ok_weaker c.add_side-3.result
    (λ e. e ∙ rw (
      c.in_ok-extend_from_slice-4.ensures.items,
      c.in_ok-add_side-2.ensures,
      c.in_ok-extend_from_slice-3.ensures.items,
      c.in_ok-add_side.ensures,
      c.in_ok-extend_from_slice-2.ensures.items,
      c.in_ok-add_metres.ensures,
      c.in_ok-extend_from_slice.ensures.items,
      c.in_ok-add_from_origin.ensures,
      to_z-of_z w64 c.args.origin fits_origin,
      to_z-of_z w64 c.args.reach fits_reach,
    )
    (pieces_9 c.args.text.now.items
    (from_origin c.args.function.now c.args.geometry.now c.args.origin)
    (codes " + ")
    (metres_text c.args.reach)
    (codes " + 0.001) / ")
    (metres_text SQUARE_SIDE)
    (codes ") * ")
    (metres_text SQUARE_SIDE)
    (codes " + ")
    (metres_text SQUARE_SIDE))) c.add_side-3.ensures
