use Rattle.std.proofs.Common.{◌∙◌, codes}
use Rattle.std.proofs.lemmas.Result.{on_ok_weaker}
use Rattle.clr_sql.specs.Relations.{titled_query}
use Rattle.clr_guarded_edits.specs.SqlTexts.{filter_text, sqlite_pass}
use Rattle.clr_guarded_edits.proofs.Turns.{last_piece, pieces_5}
use Rattle.clr_guarded_edits.proofs.passes.add_sqlite_pass.Goals as goal

pub returns : goal.returns
unfolding sqlite_pass
returns c =
    on_ok_weaker c.extend_from_slice-3.result
    (λ e. e ∙ rw (
      c.in_ok-add_titled_query.ensures,
      c.in_ok-extend_from_slice-2.ensures.items,
      c.in_ok-add_filter.ensures,
      c.in_ok-extend_from_slice.ensures.items,
      c.as_str.ensures,
    )
    (pieces_5 c.args.text.now.items
    (codes ".system rm -f clr_passed.sql\n.headers off\n.mode csv\n.once '|")
    (filter_text c.args.table.now.name)
    (codes "; echo \"INSERT INTO clr_row_count VALUES (NULL, 1 - $?);\" > clr_passed.sql'\n")
    (titled_query c.args.target.now c.args.table.now)
    (codes ";\n.read clr_passed.sql\n"))) (last_piece c.extend_from_slice-3.result _ _ _ c.extend_from_slice-3.ensures.items)
