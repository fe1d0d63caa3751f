use Rattle.std.proofs.Common.{◌∙◌, codes, FitsSigned, rules, w64}
use Rattle.std.proofs.lemmas.Int.{to_z-of_z}
use Rattle.std.proofs.lemmas.Result.{on_ok_weaker}
use Rattle.clr_cut_proposals.specs.Places.{from_origin}
use Rattle.clr_metres.specs.Metres.{metres_text}
use Rattle.clr_cut_proposals.proofs.Pieces.{last_piece, pieces_7}
use Rattle.clr_cut_proposals.proofs.places.add_from_origin.Goals as goal

pub returns : goal.returns
unfolding from_origin
returns c =
    let fits_origin : FitsSigned w64 c.args.origin = search rules in
    on_ok_weaker c.extend_from_slice-6.result
    (λ e. e ∙ rw (
      c.in_ok-add_metres.ensures,
      c.in_ok-extend_from_slice-5.ensures.items,
      c.in_ok-extend_from_slice-4.ensures.items,
      c.in_ok-extend_from_slice-3.ensures.items,
      c.in_ok-extend_from_slice-2.ensures.items,
      c.in_ok-extend_from_slice.ensures.items,
      c.as_bytes-2.ensures.value,
      c.as_bytes.ensures.value,
      to_z-of_z w64 c.args.origin fits_origin,
    )
    (pieces_7 c.args.text.now.items
    (codes "floor((")
    c.args.function.now
    (codes "(")
    c.args.geometry.now
    (codes ") - (")
    (metres_text c.args.origin)
    (codes ")"))) (last_piece c.extend_from_slice-6.result _ _ _ c.extend_from_slice-6.ensures.items)
