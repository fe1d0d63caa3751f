use Rattle.std.proofs.Common.{map, take}
use Rattle.clr_merge_clashes.specs.Lone.{AreCauses}
use Rattle.clr_merge_clashes.proofs.lone.causes_alone.Given as goal

-- of each of the members so far why it can't be merged even alone
abbrev pub invariant-loop-at : goal.invariant-loop-at
invariant-loop-at l = AreCauses l.office l.root (map (λ name. name.now) (take l.at l.names)) l.causes.items
