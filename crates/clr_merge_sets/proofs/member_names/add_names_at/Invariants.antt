use Rattle.std.proofs.Common.{◌≡◌, ◌++◌, map, slice_get, take}
use Rattle.std.specs.List.{filter_map}
use Rattle.clr_merge_sets.proofs.member_names.add_names_at.Given as goal

-- the names at the positions so far
abbrev pub invariant-loop-position : goal.invariant-loop-position
invariant-loop-position l =
    map (λ name. name.now) l.list.items
    ≡ map (λ name. name.now) l.fn.list.items ++ filter_map (slice_get (map (λ name. name.now) l.names)) (take l.position-index l.positions)
