use Rattle.std.proofs.Common.{◌∙◌, codes, FitsSigned, rules, w64}
use Rattle.std.proofs.lemmas.Int.{to_z-of_z}
use Rattle.std.proofs.lemmas.Result.{on_ok_weaker}
use Rattle.clr_sql.specs.Conditions.{row_condition}
use Rattle.clr_sql.specs.Quoting.{quoted_name}
use Rattle.clr_guarded_edits.specs.SqlTexts.{deletion_text}
use Rattle.clr_guarded_edits.proofs.Turns.{last_piece, pieces_5}
use Rattle.clr_guarded_edits.proofs.edit_texts.add_deletion.Goals as goal

pub returns : goal.returns
unfolding deletion_text
returns c =
    let fits : FitsSigned w64 c.args.key = search rules in
    on_ok_weaker c.extend_from_slice-3.result
    (λ e. e ∙ rw (
      c.in_ok-add_row_condition.ensures,
      c.in_ok-extend_from_slice-2.ensures.items,
      c.in_ok-add_name.ensures,
      c.in_ok-extend_from_slice.ensures.items,
      c.as_str.ensures,
      to_z-of_z w64 c.args.key fits,
    )
    (pieces_5 c.args.text.now.items
    (codes "DELETE FROM ")
    (quoted_name c.args.table.now.name)
    (codes " WHERE ")
    (row_condition c.args.target.now.origin c.args.table.now c.args.key c.args.old.now)
    (codes ";\n"))) (last_piece c.extend_from_slice-3.result _ _ _ c.extend_from_slice-3.ensures.items)
