use Rattle.std.proofs.Common.{◌≡◌, ◌<◌, ◌≤◌, ℕ, true, Some, slice_get, length}
use Rattle.clr_grid.specs.Filing.{AllHoldCells, GainOnly, Key, StayFiled, has_key, is_filed_under}
use Rattle.clr_finders.specs.declared.row_spots.RuleSpots.{RuleSpots}
use Rattle.clr_grid.proofs.rule_index.file_at_each.Given as goal

-- what was filed stays, nothing more is filed than the cell, and it is filed under the rules so far
abbrev pub invariant-loop-rule : goal.invariant-loop-rule
invariant-loop-rule l = record {
  kept : StayFiled l.fn.rules.items l.rules.items;
  only : GainOnly l.cell (Some l.spots) l.fn.rules.items l.rules.items;
  lean : AllHoldCells l.fn.rules.items → AllHoldCells l.rules.items;
  enough : length l.spots ≤ length l.rules.items;
  filed : (n : ℕ) (y : RuleSpots) (k : Key) → n < l.rule → slice_get l.spots n ≡ Some y → has_key y k ≡ true →
      is_filed_under l.rules.items n y.may_serve k l.cell ≡ true;
}
