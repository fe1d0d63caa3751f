use Rattle.std.proofs.Common.{◌≡◌, drop, map}
use Rattle.clr_deltas.specs.NamedDeltas.{stored_delta}
use Rattle.clr_desk_edits.specs.Proposals.{first_unsayable_of}
use Rattle.clr_desk_edits.proofs.proposals.first_unsayable_of.Given as goal

-- no design so far has such a row
abbrev pub invariant-loop-design : goal.invariant-loop-design
invariant-loop-design l = first_unsayable_of (map stored_delta (drop l.design-index l.designs)) ≡ first_unsayable_of (map stored_delta l.designs)
