-- A merge set by its names.
use Rattle.std.specs.Prelude.{List}
use Rattle.clr_workspaces.specs.Marks.{Name}
use Rattle.clr_steps.specs.Quiet.{MergeSet}

abbrev pub merge_set : Name → List Name → MergeSet
merge_set root members = record { root = root; members = members }
