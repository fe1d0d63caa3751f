use Rattle.std.proofs.Common.{◌≡◌, map, take}
use Rattle.clr_tips.specs.Keys.{all_names}
use Rattle.clr_tips.proofs.keys.all_names.Given as goal

-- the names so far
abbrev pub invariant-loop-at : goal.invariant-loop-at
invariant-loop-at l = map (λ name. name.now) l.names.items ≡ take l.at (all_names l.office)
