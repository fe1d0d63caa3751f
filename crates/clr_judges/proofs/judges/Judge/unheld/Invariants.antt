use Rattle.std.proofs.Common.{◌≡◌, drop}
use Rattle.clr_judges.specs.Unheld.{unknown_from}
use Rattle.clr_judges.proofs.judges.Judge.unheld.Given as goal

-- the first that breaks an unknown need is among those that are left
abbrev pub invariant-loop-at : goal.invariant-loop-at
invariant-loop-at l = unknown_from l.self l.known 0 l.tree.list ≡ unknown_from l.self l.known l.at (drop l.at l.tree.list)
