use Rattle.std.proofs.Common.{◌≡◌, ◌++◌, drop, map}
use Rattle.std.specs.List.{enumerate_from}
use Rattle.clr_tips.specs.Rows.{wanted_in}
use Rattle.clr_tips.proofs.rows.wanted_values.Given as goal

-- the values so far, with those of the columns that are left, are all of them
abbrev pub invariant-loop-at : goal.invariant-loop-at
invariant-loop-at l = l.values.items ++ map (wanted_in l.filter) (enumerate_from l.at (drop l.at l.columns))
    ≡ map (wanted_in l.filter) (enumerate_from 0 l.columns)
