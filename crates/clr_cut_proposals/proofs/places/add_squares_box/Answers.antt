use Rattle.std.proofs.Common.{◌∙◌, codes}
use Rattle.std.proofs.lemmas.Result.{on_ok_weaker}
use Rattle.clr_cut_proposals.specs.Places.{box_function, lower_corner, squares_box, upper_corner}
use Rattle.clr_cut_proposals.specs.RoleModels.{mark_of}
use Rattle.std.specs.Fmt.{decimal}
use Rattle.clr_cut_proposals.proofs.Pieces.{last_piece, pieces_8}
use Rattle.clr_cut_proposals.proofs.places.add_squares_box.Goals as goal

pub returns : goal.returns
unfolding squares_box
returns c =
    on_ok_weaker c.extend_from_slice-6.result
    (λ e. e ∙ rw (
      c.in_ok-extend_from_slice-5.ensures.items,
      c.in_ok-extend_from_slice-4.ensures.items,
      c.in_ok-add_upper_corner.ensures,
      c.in_ok-extend_from_slice-3.ensures.items,
      c.in_ok-add_lower_corner.ensures,
      c.in_ok-extend_from_slice-2.ensures.items,
      c.in_ok-extend_from_slice.ensures.items,
      c.as_bytes-2.ensures.value,
      c.format.ensures.text,
      c.as_bytes.ensures.value,
      c.box_function.ensures,
    )
    (pieces_8 c.args.text.now.items
    (box_function c.args.target.now.dialect)
    (codes "(")
    (lower_corner c.args.target.now (mark_of c.args.mark))
    (codes ", ")
    (upper_corner c.args.target.now (mark_of c.args.mark))
    (codes ", ")
    (decimal c.args.target.now.system)
    (codes ")"))) (last_piece c.extend_from_slice-6.result _ _ _ c.extend_from_slice-6.ensures.items)
