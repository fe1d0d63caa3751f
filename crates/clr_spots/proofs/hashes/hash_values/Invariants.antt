use Rattle.std.proofs.Common.{◌≡◌, drop, fold}
use Rattle.std.specs.List.{flat_map}
use Rattle.clr_spots.specs.SpotHash.{value_writes}
use Rattle.clr_spots.proofs.hashes.hash_values.Given as goal

-- the values that are left complete the hash
abbrev pub invariant-loop-i : goal.invariant-loop-i
invariant-loop-i g l = fold g.H.Hasher.write l.state (flat_map value_writes (drop l.i l.values))
    ≡ fold g.H.Hasher.write l.initial.state (flat_map value_writes l.values)
