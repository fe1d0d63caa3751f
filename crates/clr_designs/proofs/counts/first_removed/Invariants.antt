use Rattle.std.proofs.Common.{◌≡◌, drop}
use Rattle.clr_designs.specs.Counts.{first_removed}
use Rattle.clr_designs.proofs.counts.first_removed.Given as goal

-- none of the edits so far removes a row
abbrev pub invariant-loop-edit : goal.invariant-loop-edit
invariant-loop-edit l = first_removed (drop l.edit-index l.edits) ≡ first_removed l.edits
