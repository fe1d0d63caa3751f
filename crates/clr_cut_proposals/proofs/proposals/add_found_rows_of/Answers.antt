use Rattle.std.proofs.Common.{◌∙◌, ◌++◌, codes}
use Rattle.std.proofs.lemmas.Result.{on_ok_weaker}
use Rattle.clr_cut_proposals.specs.Proposals.{found_rows_text, if_found, made_table, rows_text}
use Rattle.clr_cut_proposals.proofs.Pieces.{last_piece, pieces_4}
use Rattle.clr_cut_proposals.proofs.proposals.add_found_rows_of.Goals as goal

pub returns : goal.returns
unfolding found_rows_text
returns c =
    on_ok_weaker c.extend_from_slice.result
    (λ e. e ∙ rw (
      c.in_ok-add_if_found.ensures,
      c.in_ok-add_rows.ensures,
      c.in_ok-add_made_table.ensures,
      c.as_str-name.ensures,
    )
    (pieces_4 c.args.text.now.items
    (made_table (c.args.prefix.now ++ c.args.table.now.name))
    (rows_text c.args.table.now)
    (if_found c.args.table.now.name)
    (codes ";\n"))) (last_piece c.extend_from_slice.result _ _ _ c.extend_from_slice.ensures.items)
