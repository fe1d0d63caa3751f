use Rattle.std.proofs.Common.{◌≡◌, take}
use Rattle.clr_rows.specs.Contents.{Content, changes, over}
use Rattle.clr_layer_changes.proofs.layer_edits.put_over.Given as goal

-- the rows so far are put over the content
abbrev pub invariant-loop-at : goal.invariant-loop-at
invariant-loop-at l = (content : Content) → l.initial.set ≡ changes l.base content → l.set ≡ changes l.base (over content (take l.at-index l.cells))
