use Rattle.std.proofs.Common.{◌≡◌, ◌++◌, drop, length}
use Rattle.std.specs.Prelude.{codes}
use Rattle.std.specs.List.{enumerate_from, flat_map}
use Rattle.clr_lines.specs.Reports.{count_line}
use Rattle.clr_desk_error_lists.specs.ErrorLines.{rule_errors}
use Rattle.clr_desk_error_lists.proofs.error_lines.errors_text.Given as goal

-- the lines so far, with those of the rules that are left, are those of all
abbrev pub invariant-loop-at : goal.invariant-loop-at
invariant-loop-at l =
    l.text.items ++ flat_map (rule_errors l.office l.errors) (enumerate_from l.at (drop l.at l.rules))
    ≡ count_line (codes "errors") (length l.errors) ++ flat_map (rule_errors l.office l.errors) (enumerate_from 0 l.rules)
