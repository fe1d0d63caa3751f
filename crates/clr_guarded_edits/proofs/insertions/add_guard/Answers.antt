use Rattle.std.proofs.Common.{◌∙◌, codes, FitsSigned, rules, w64}
use Rattle.std.proofs.lemmas.Int.{to_z-of_z}
use Rattle.std.proofs.lemmas.Result.{on_ok_weaker}
use Rattle.clr_sql.specs.Conditions.{key_condition}
use Rattle.clr_sql.specs.Quoting.{quoted_name}
use Rattle.clr_guarded_edits.specs.SqlTexts.{guard_text}
use Rattle.clr_guarded_edits.proofs.Turns.{last_piece, pieces_5}
use Rattle.clr_guarded_edits.proofs.insertions.add_guard.Goals as goal

pub returns : goal.returns
unfolding guard_text
returns c =
    let fits : FitsSigned w64 c.args.key = search rules in
    on_ok_weaker c.extend_from_slice-3.result
    (λ e. e ∙ rw (
      c.in_ok-add_key_condition.ensures,
      c.in_ok-extend_from_slice-2.ensures.items,
      c.in_ok-add_name.ensures,
      c.in_ok-extend_from_slice.ensures.items,
      c.as_str.ensures,
      to_z-of_z w64 c.args.key fits,
    )
    (pieces_5 c.args.text.now.items
    (codes " WHERE NOT EXISTS (SELECT 1 FROM ")
    (quoted_name c.args.table.now.name)
    (codes " WHERE ")
    (key_condition c.args.key)
    (codes ");\n"))) (last_piece c.extend_from_slice-3.result _ _ _ c.extend_from_slice-3.ensures.items)
