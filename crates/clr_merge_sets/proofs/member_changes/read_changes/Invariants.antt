use Rattle.std.proofs.Common.{◌≡◌, map, take}
use Rattle.clr_steps.specs.Readings.{changes_in}
use Rattle.clr_merge_sets.proofs.member_changes.read_changes.Given as goal

-- what the workspaces so far changed
abbrev pub invariant-loop-at : goal.invariant-loop-at
invariant-loop-at g l = l.sets.items ≡ map (changes_in l.office) (take l.at (g.N.NameList.names l.names))
