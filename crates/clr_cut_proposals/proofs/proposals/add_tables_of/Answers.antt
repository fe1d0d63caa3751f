use Rattle.std.proofs.Common.{◌∙◌, codes}
use Rattle.std.proofs.lemmas.Result.{on_ok_weaker}
use Rattle.clr_cut_proposals.specs.Proposals.{made_table, rows_text, tables_text}
use Rattle.clr_cut_proposals.specs.Searches.{found_table, new_table}
use Rattle.clr_sql.specs.Quoting.{quoted_name}
use Rattle.clr_cut_proposals.proofs.Pieces.{last_piece, pieces_7}
use Rattle.clr_cut_proposals.proofs.proposals.add_tables_of.Goals as goal

pub returns : goal.returns
unfolding tables_text
returns c =
    on_ok_weaker c.extend_from_slice-3.result
    (λ e. e ∙ rw (
      c.in_ok-add_rows.ensures,
      c.in_ok-add_made_table-2.ensures,
      c.in_ok-extend_from_slice-2.ensures.items,
      c.in_ok-add_name.ensures,
      c.in_ok-extend_from_slice.ensures.items,
      c.in_ok-add_made_table.ensures,
      c.as_str-name.ensures,
    )
    (pieces_7 c.args.text.now.items
    (made_table (found_table c.args.table.now.name))
    (codes "SELECT \"KEY\" FROM ")
    (quoted_name c.args.table.now.name)
    (codes " LIMIT 0;\n")
    (made_table (new_table c.args.table.now.name))
    (rows_text c.args.table.now)
    (codes " LIMIT 0;\n"))) (last_piece c.extend_from_slice-3.result _ _ _ c.extend_from_slice-3.ensures.items)
