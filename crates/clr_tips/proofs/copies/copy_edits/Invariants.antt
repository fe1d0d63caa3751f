use Rattle.std.proofs.Common.{◌≡◌, take}
use Rattle.clr_tips.proofs.copies.copy_edits.Given as goal

-- the edits so far
abbrev pub invariant-loop-edit : goal.invariant-loop-edit
invariant-loop-edit l = l.copies.items ≡ take l.edit-index l.edits
