use Rattle.std.proofs.Common.{◌≡◌, map, take}
use Rattle.clr_merge_sets.proofs.member_names.owned_names.Given as goal

-- the names so far
abbrev pub invariant-loop-name : goal.invariant-loop-name
invariant-loop-name l = l.list.items ≡ map (λ name. name.now) (take l.name-index l.texts)
