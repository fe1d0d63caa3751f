use Rattle.clr_change.proofs.EditLemmas.{IsStagedTo}
use Rattle.clr_change.proofs.staging.stage.Given as goal

-- the edits so far are made
abbrev pub invariant-loop-at : goal.invariant-loop-at
invariant-loop-at g l = IsStagedTo l.schema (g.V.RowView.content l.view) l.edits l.at l.staged
