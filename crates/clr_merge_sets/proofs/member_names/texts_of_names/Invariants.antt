use Rattle.std.proofs.Common.{◌≡◌, map, take}
use Rattle.clr_merge_sets.proofs.member_names.texts_of_names.Given as goal

-- the texts so far are those of the names so far
abbrev pub invariant-loop-name : goal.invariant-loop-name
invariant-loop-name l = map (λ text. text.now) l.texts.items ≡ take l.name-index l.names
