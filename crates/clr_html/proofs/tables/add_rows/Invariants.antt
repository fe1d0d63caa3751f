use Rattle.std.proofs.Common.{◌≡◌, ◌++◌, take}
use Rattle.clr_html.specs.Tables.{html_rows_text}
use Rattle.clr_html.proofs.tables.add_rows.Given as goal

-- the rows so far are added
abbrev pub invariant-loop-row : goal.invariant-loop-row
invariant-loop-row l = l.page.items ≡ l.initial.page.items ++ html_rows_text (take l.row-index l.rows)
