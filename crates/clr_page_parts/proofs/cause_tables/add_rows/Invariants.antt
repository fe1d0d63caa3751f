use Rattle.std.proofs.Common.{◌≡◌, ◌++◌, map, take}
use Rattle.clr_html.specs.Words.{words_of_row}
use Rattle.clr_page_parts.specs.Causes.{cause_row}
use Rattle.clr_page_parts.proofs.cause_tables.add_rows.Given as goal

-- the rows so far are added
abbrev pub invariant-loop-row : goal.invariant-loop-row
invariant-loop-row l = map words_of_row l.rows.items ≡ map words_of_row l.initial.rows.items ++ map cause_row (take l.row-index l.named)
