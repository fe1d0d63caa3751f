use Rattle.std.proofs.Common.{◌≡◌, slice_get, take}
use Rattle.std.specs.List.{filter_map}
use Rattle.clr_merge_clashes.proofs.places.numbers_at.Given as goal

-- the numbers at the positions so far
abbrev pub invariant-loop-position : goal.invariant-loop-position
invariant-loop-position l = l.list.items ≡ filter_map (slice_get l.numbers) (take l.position-index l.positions)
