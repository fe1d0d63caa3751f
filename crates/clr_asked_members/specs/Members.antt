-- The members that names ask for.
use Rattle.std.specs.Prelude.{List, [], ◌∷◌, Option, None, Some, if◌then◌else◌, filter, map}
use Rattle.clr_workspaces.specs.Marks.{Name}
use Rattle.clr_steps.specs.Offices.{Office}
use Rattle.clr_steps.specs.Quiet.{MergeSet}
use Rattle.clr_clearance.specs.MergeSets.{is_child}
use Rattle.clr_merge_sets.specs.MergeSetNames.{merge_set}

-- the children of a root, in order of creation
abbrev pub children_of_root : Office → Name → List Name
children_of_root o root = filter (is_child o (merge_set root [])) (map (λ w. w.name) o.workspaces)

-- a name in a list, where it is that of a child of the root
abbrev pub child_in : Office → Name → Option Name → List Name
child_in o root None = []
child_in o root (Some name) = if is_child o (merge_set root []) name then name ∷ [] else []

-- the members that names ask for: these, or all children where there are none
abbrev pub members_or_children : Office → Name → List Name → List Name
members_or_children o root [] = children_of_root o root
members_or_children o root (name ∷ names) = name ∷ names

abbrev pub set_asked : Office → Name → List Name → MergeSet
set_asked o root names = merge_set root (members_or_children o root names)
