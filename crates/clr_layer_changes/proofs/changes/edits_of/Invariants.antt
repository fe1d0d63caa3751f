use Rattle.std.proofs.Common.{◌≡◌, ◌++◌, map}
use Rattle.std.specs.FinMap as finite
use Rattle.clr_layer_changes.specs.Changes.{edit_of}
use Rattle.clr_layer_changes.proofs.changes.edits_of.Given as goal

-- the edits so far, with those of the changes that are left, are all of them
abbrev pub invariant-loop-cell : goal.invariant-loop-cell
invariant-loop-cell l = l.edits.items ++ map edit_of l.cell-iterator ≡ map edit_of (finite.entries l.changes)
