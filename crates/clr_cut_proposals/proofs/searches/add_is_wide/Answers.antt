use Rattle.std.proofs.Common.{◌∙◌, codes}
use Rattle.std.proofs.lemmas.Result.{on_ok_weaker}
use Rattle.clr_cut_proposals.specs.Places.{least_x, least_y, most_x, most_y}
use Rattle.clr_cut_proposals.specs.Searches.{is_wide_text, span_text}
use Rattle.clr_spots.specs.declared.limits.TheConstants.{MOST_SPOTS}
use Rattle.std.specs.Fmt.{decimal}
use Rattle.clr_cut_proposals.proofs.Pieces.{pieces_5}
use Rattle.clr_cut_proposals.proofs.searches.add_is_wide.Goals as goal

pub returns : goal.returns
unfolding is_wide_text
returns c =
    on_ok_weaker c.add_most_spots.result
    (λ e. e ∙ rw (
      c.in_ok-extend_from_slice-2.ensures.items,
      c.in_ok-add_span-2.ensures,
      c.in_ok-extend_from_slice.ensures.items,
      c.in_ok-add_span.ensures,
      c.most_y.ensures,
      c.least_y.ensures,
      c.most_x.ensures,
      c.least_x.ensures,
    )
    (pieces_5 c.args.text.now.items
    (span_text (least_x c.args.dialect) (most_x c.args.dialect))
    (codes " * ")
    (span_text (least_y c.args.dialect) (most_y c.args.dialect))
    (codes " > ")
    (decimal MOST_SPOTS))) c.add_most_spots.ensures
