use Rattle.std.proofs.Common.{◌≡◌, length, take}
use Rattle.clr_order_search.specs.OpenNeeds.{has}
use Rattle.clr_order_knots.proofs.Tables.{Adds}
use Rattle.clr_order_knots.proofs.sides.mark.Given as goal

-- the members so far are marked
abbrev pub invariant-loop-member : goal.invariant-loop-member
invariant-loop-member l = record {
  long : length l.table.items ≡ length l.initial.table.items;
  adds : Adds l.initial.table.items l.table.items (has (take l.member-index l.members));
}
