use Rattle.std.proofs.Common.{◌≡◌, map, take}
use Rattle.clr_desk_cuts.proofs.members.references.Given as goal

-- references to the sets so far
abbrev pub invariant-loop-set : goal.invariant-loop-set
invariant-loop-set l = map (λ set. set.now) l.list.items ≡ take l.set-index l.sets
