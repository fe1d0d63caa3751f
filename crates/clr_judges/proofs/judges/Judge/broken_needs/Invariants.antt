use Rattle.clr_judges.specs.BrokenNeeds.{AreBrokenBelow}
use Rattle.clr_judges.proofs.judges.Judge.broken_needs.Given as goal

-- the needs that the workspaces so far break are listed
abbrev pub invariant-loop-at : goal.invariant-loop-at
invariant-loop-at l = AreBrokenBelow l.self l.tree.list l.at l.list.items
