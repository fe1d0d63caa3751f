use Rattle.std.proofs.Common.{◌≡◌, map, take}
use Rattle.std.specs.List.{flat_map}
use Rattle.clr_merge_sets.specs.MergeSetNames.{merge_set}
use Rattle.clr_desk_clashes.specs.Clashes.{helped_text}
use Rattle.clr_desk_clashes.proofs.clash_lines.sets_lines.Given as goal

-- the lines of the sets so far
abbrev pub invariant-loop-clash : goal.invariant-loop-clash
invariant-loop-clash l = l.lines.items ≡ flat_map (helped_text l.schema (merge_set l.root (map (λ name. name.now) l.members))) (take l.clash-index l.helped)
