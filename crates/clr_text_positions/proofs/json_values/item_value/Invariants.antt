use Rattle.std.proofs.Common.{◌≤◌, length}
use Rattle.clr_text_positions.proofs.json_values.item_value.Given as goal

abbrev pub invariant-items : goal.invariant-items
invariant-items l = l.next ≤ length l.text
