use Rattle.std.proofs.Common.{◌≡◌, drop}
use Rattle.clr_tips.specs.Keys.{greatest_in}
use Rattle.clr_tips.proofs.keys.greatest_in.Given as goal

-- the greatest so far, with the keys of the change sets that are left, is the greatest of all
abbrev pub invariant-loop-set : goal.invariant-loop-set
invariant-loop-set l = greatest_in l.table l.greatest (drop l.set-index l.sets) ≡ greatest_in l.table l.key l.sets
