use Rattle.std.proofs.Common.{◌∙◌, codes}
use Rattle.std.proofs.lemmas.Result.{on_ok_weaker}
use Rattle.clr_cut_proposals.specs.Searches.{span_text, square_number}
use Rattle.clr_cut_proposals.proofs.Pieces.{last_piece, pieces_5}
use Rattle.clr_cut_proposals.proofs.searches.add_span.Goals as goal

pub returns : goal.returns
unfolding span_text
returns c =
    on_ok_weaker c.extend_from_slice-3.result
    (λ e. e ∙ rw (
      c.in_ok-add_square_number-2.ensures,
      c.in_ok-extend_from_slice-2.ensures.items,
      c.in_ok-add_square_number.ensures,
      c.in_ok-extend_from_slice.ensures.items,
    )
    (pieces_5 c.args.text.now.items
    (codes "(")
    (square_number c.args.most.now)
    (codes " - ")
    (square_number c.args.least.now)
    (codes " + 2)"))) (last_piece c.extend_from_slice-3.result _ _ _ c.extend_from_slice-3.ensures.items)
