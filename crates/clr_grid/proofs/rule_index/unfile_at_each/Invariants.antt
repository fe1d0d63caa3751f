use Rattle.std.proofs.Common.{◌≡◌, ◌<◌, ℕ, Bool, true, Some}
use Rattle.std.specs.Option.{option_copied}
use Rattle.clr_grid.specs.Filing.{AllHoldCells, GainNone, Key, StayFiledBut, has_key_under, is_filed_under}
use Rattle.clr_grid.proofs.rule_index.unfile_at_each.Given as goal

-- what is filed for other cells, or for the row that stays, stays; nothing more is filed; and the cell is gone under the rules so far
abbrev pub invariant-loop-rule : goal.invariant-loop-rule
invariant-loop-rule l = record {
  kept : StayFiledBut l.cell (option_copied l.kept) l.fn.rules.items l.rules.items;
  fewer : GainNone l.fn.rules.items l.rules.items;
  gone : (n : ℕ) (b : Bool) (k : Key) → n < l.rule → has_key_under (Some l.spots) n b k ≡ true → is_filed_under l.rules.items n b k l.cell ≡ true →
      has_key_under (option_copied l.kept) n b k ≡ true;
  lean : AllHoldCells l.fn.rules.items → AllHoldCells l.rules.items;
}
