use Rattle.std.proofs.Common.{◌∙◌, codes}
use Rattle.std.proofs.lemmas.Result.{on_ok_weaker}
use Rattle.clr_cut_proposals.specs.Searches.{square_number}
use Rattle.clr_metres.specs.Metres.{metres_text}
use Rattle.clr_spots.specs.declared.limits.TheConstants.{SQUARE_SIDE}
use Rattle.clr_cut_proposals.proofs.Pieces.{last_piece, pieces_5}
use Rattle.clr_cut_proposals.proofs.searches.add_square_number.Goals as goal

pub returns : goal.returns
unfolding square_number
returns c =
    on_ok_weaker c.extend_from_slice-4.result
    (λ e. e ∙ rw (
      c.in_ok-add_side.ensures,
      c.in_ok-extend_from_slice-3.ensures.items,
      c.in_ok-extend_from_slice-2.ensures.items,
      c.in_ok-extend_from_slice.ensures.items,
      c.as_bytes.ensures.value,
    )
    (pieces_5 c.args.text.now.items
    (codes "floor(")
    c.args.function.now
    (codes "(m.\"WKT\") / ")
    (metres_text SQUARE_SIDE)
    (codes ")"))) (last_piece c.extend_from_slice-4.result _ _ _ c.extend_from_slice-4.ensures.items)
