use Rattle.std.proofs.Common.{[], take}
use Rattle.clr_row_versions.specs.Gains.{Gains, OfSome}
use Rattle.clr_groups.specs.GroupNeeds.{IsOfPlace}
use Rattle.clr_groups.proofs.TouchedPairs.{IsOfPairs}
use Rattle.clr_groups.proofs.group_needs.touched_needs.Given as goal

-- the needs of the pairs so far
abbrev pub invariant-loop-pair : goal.invariant-loop-pair
invariant-loop-pair l = Gains (IsOfPairs l.places l.pairs) (OfSome (IsOfPlace l.places) (take l.pair-index l.pairs)) [] l.list.items
