use Rattle.std.proofs.Common.{◌∙◌, codes}
use Rattle.std.proofs.lemmas.Result.{on_ok_weaker}
use Rattle.clr_cut_proposals.specs.Places.{meets_in_index}
use Rattle.clr_cut_proposals.proofs.Pieces.{last_piece, pieces_5}
use Rattle.clr_cut_proposals.proofs.places.add_meets_in_index.Goals as goal

pub returns : goal.returns
unfolding meets_in_index
returns c =
    on_ok_weaker c.extend_from_slice-5.result
    (λ e. e ∙ rw (
      c.in_ok-extend_from_slice-4.ensures.items,
      c.in_ok-extend_from_slice-3.ensures.items,
      c.in_ok-extend_from_slice-2.ensures.items,
      c.in_ok-extend_from_slice.ensures.items,
      c.as_bytes.ensures.value,
    )
    (pieces_5 c.args.text.now.items
    (codes " AND m.ROWID IN (SELECT ROWID FROM SpatialIndex WHERE f_table_name = '")
    c.args.table.now
    (codes "' AND f_geometry_column = 'WKT' AND search_frame = ")
    c.args.around.now
    (codes ")"))) (last_piece c.extend_from_slice-5.result _ _ _ c.extend_from_slice-5.ensures.items)
