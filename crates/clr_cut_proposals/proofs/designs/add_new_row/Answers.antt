use Rattle.std.proofs.Common.{◌∙◌, codes, FitsSigned, rules, w64}
use Rattle.std.proofs.lemmas.Int.{to_z-of_z}
use Rattle.std.proofs.lemmas.Result.{on_ok_weaker}
use Rattle.clr_cut_proposals.specs.Designs.{new_row_in}
use Rattle.clr_cut_proposals.specs.Searches.{new_table}
use Rattle.clr_guarded_edits.specs.SqlTexts.{given_shape, with_comma}
use Rattle.clr_sql.specs.Quoting.{quoted_name}
use Rattle.std.specs.Fmt.{signed_decimal}
use Rattle.std.specs.List.{flat_map}
use Rattle.clr_cut_proposals.proofs.Pieces.{last_piece, pieces_7}
use Rattle.clr_cut_proposals.proofs.designs.add_new_row.Goals as goal

pub returns : goal.returns
unfolding new_row_in
returns c =
    let fits : FitsSigned w64 c.args.cell.key = search rules in
    on_ok_weaker c.extend_from_slice-4.result
    (λ e. e ∙ rw (
      c.in_ok-add_given_shape.ensures,
      c.in_ok-add_values.ensures,
      c.in_ok-extend_from_slice-3.ensures.items,
      c.in_ok-extend_from_slice-2.ensures.items,
      c.in_ok-add_temporary.ensures,
      c.in_ok-extend_from_slice.ensures.items,
      c.as_slice.ensures,
      c.as_bytes.ensures.value,
      c.format.ensures.text,
      c.as_str.ensures,
      to_z-of_z w64 c.args.cell.key fits,
    )
    (pieces_7 c.args.text.now.items
    (codes "INSERT INTO ")
    (quoted_name (new_table c.args.table.now.name))
    (codes " VALUES (")
    (signed_decimal c.args.cell.key)
    (flat_map with_comma c.args.row.now.values)
    (given_shape c.args.target.now c.args.row.now.shape)
    (codes ");\n"))) (last_piece c.extend_from_slice-4.result _ _ _ c.extend_from_slice-4.ensures.items)
