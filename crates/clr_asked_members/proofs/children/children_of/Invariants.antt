use Rattle.std.proofs.Common.{◌≡◌, [], filter, map, take}
use Rattle.clr_clearance.specs.MergeSets.{is_child}
use Rattle.clr_merge_sets.specs.MergeSetNames.{merge_set}
use Rattle.clr_asked_members.proofs.children.children_of.Given as goal

-- the children so far
abbrev pub invariant-loop-below : goal.invariant-loop-below
invariant-loop-below l = l.names.items ≡ filter (is_child l.office (merge_set l.root [])) (take l.below (map (λ w. w.name) l.office.workspaces))
