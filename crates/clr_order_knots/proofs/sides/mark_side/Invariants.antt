use Rattle.std.proofs.Common.{◌≡◌, length, take}
use Rattle.clr_order_knots.specs.Members.{is_on, needs_at}
use Rattle.clr_order_knots.proofs.Tables.{Adds}
use Rattle.clr_order_knots.proofs.sides.mark_side.Given as goal

-- those on the side of the needs so far are marked
abbrev pub invariant-loop-at : goal.invariant-loop-at
invariant-loop-at l = record {
  long : length l.table.items ≡ length l.initial.table.items;
  adds : Adds l.initial.table.items l.table.items (is_on l.side (needs_at l.needs (take l.at-index l.places)));
}
