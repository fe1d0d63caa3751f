use Rattle.std.proofs.Common.{◌≡◌, ◌++◌, drop}
use Rattle.std.specs.List.{enumerate_from, flat_map}
use Rattle.clr_old_errors.specs.RuleCounts.{rule_count_text}
use Rattle.clr_old_errors.proofs.rule_counts.add_rule_counts.Given as goal

-- the lines so far, with those of the rules that are left, are those of all
abbrev pub invariant-loop-at : goal.invariant-loop-at
invariant-loop-at l =
    l.lines.items ++ flat_map (rule_count_text l.schema l.needs) (enumerate_from l.at (drop l.at l.rules))
    ≡ l.initial.lines.items ++ flat_map (rule_count_text l.schema l.needs) (enumerate_from 0 l.rules)
