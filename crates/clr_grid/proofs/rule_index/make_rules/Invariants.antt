use Rattle.std.proofs.Common.{◌-◌, length}
use Rattle.clr_grid.specs.Filing.{AllHoldCells, GainNone, StayFiled}
use Rattle.clr_grid.proofs.rule_index.make_rules.Given as goal

-- what was filed stays, and nothing more is filed
abbrev pub invariant-loop-alloc : goal.invariant-loop-alloc
invariant-loop-alloc l = record {
  kept : StayFiled l.fn.rules.items l.rules.items;
  only : GainNone l.fn.rules.items l.rules.items;
  lean : AllHoldCells l.fn.rules.items → AllHoldCells l.rules.items;
}

abbrev pub decreases-loop-alloc : goal.decreases-loop-alloc
decreases-loop-alloc l = l.count - length l.rules.items
