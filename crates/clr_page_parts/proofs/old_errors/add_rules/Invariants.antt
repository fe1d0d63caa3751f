use Rattle.std.proofs.Common.{◌≡◌, ◌++◌, drop, map}
use Rattle.std.specs.List.{enumerate_from, flat_map}
use Rattle.clr_html.specs.Words.{words_of_row}
use Rattle.clr_page_parts.specs.OldErrors.{error_rows, rows_of_errors}
use Rattle.clr_page_parts.proofs.old_errors.add_rules.Given as goal

-- the rows so far, with those of the rules that are left, are those of all
abbrev pub invariant-loop-at : goal.invariant-loop-at
invariant-loop-at l =
    map words_of_row l.rows.items ++ flat_map (error_rows l.schema l.needs) (enumerate_from l.at (drop l.at l.rules))
    ≡ map words_of_row l.initial.rows.items ++ rows_of_errors l.schema l.rules l.needs
