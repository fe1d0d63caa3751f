use Rattle.std.proofs.Common.{◌≡◌, drop, take}
use Rattle.clr_grid.specs.Finders.{AreFinders}
use Rattle.clr_judges.specs.KeptContents.{kept_contents}
use Rattle.clr_judges.specs.Unheld.{unknown_from}
use Rattle.clr_judges.proofs.judges.Judge.finders.Given as goal

-- the first that breaks an unknown need is among those that are left, and the others have their finders
abbrev pub invariant-loop-at : goal.invariant-loop-at
invariant-loop-at l = record {
  left : unknown_from l.self l.known 0 l.tree.list ≡ unknown_from l.self l.known l.at (drop l.at l.tree.list);
  are : AreFinders l.self (take l.at (kept_contents l.tree.list)) l.finders;
}
