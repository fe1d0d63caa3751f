use Rattle.std.proofs.Common.{◌∙◌, codes}
use Rattle.std.proofs.lemmas.Result.{on_ok_weaker}
use Rattle.clr_lines.specs.Pieces.{cell_text}
use Rattle.clr_sql.specs.Quoting.{quoted_name}
use Rattle.clr_guarded_edits.specs.SqlTexts.{count_text}
use Rattle.clr_guarded_edits.proofs.Turns.{last_piece, pieces_9}
use Rattle.clr_guarded_edits.proofs.demands.add_count.Goals as goal

pub returns : goal.returns
unfolding count_text
returns c =
    on_ok_weaker c.extend_from_slice-7.result
    (λ e. e ∙ rw (
      c.in_ok-extend_from_slice-6.ensures.items,
      c.in_ok-extend_from_slice-5.ensures.items,
      c.in_ok-add_name.ensures,
      c.in_ok-extend_from_slice-4.ensures.items,
      c.in_ok-extend_from_slice-3.ensures.items,
      c.in_ok-extend_from_slice-2.ensures.items,
      c.in_ok-add_cell.ensures.ok,
      c.in_ok-extend_from_slice.ensures.items,
      c.as_str.ensures,
    )
    (pieces_9 c.args.text.now.items
    (codes "INSERT INTO clr_row_count SELECT '")
    (cell_text c.args.schema.now c.args.cell)
    (codes "', ")
    c.args.count.now
    (codes " FROM ")
    (quoted_name c.args.table.now.name)
    (codes " WHERE ")
    c.args.condition.now
    (codes ";\n"))) (last_piece c.extend_from_slice-7.result _ _ _ c.extend_from_slice-7.ensures.items)
