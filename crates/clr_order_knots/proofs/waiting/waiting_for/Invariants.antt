use Rattle.std.proofs.Common.{◌≡◌, ◌&&◌, false, get_or, length, take}
use Rattle.std.specs.List.{list_any}
use Rattle.clr_order_search.specs.OpenNeeds.{has}
use Rattle.clr_order_knots.specs.Waiting.{makes_wait}
use Rattle.clr_order_knots.proofs.Tables.{Adds}
use Rattle.clr_order_knots.proofs.waiting.waiting_for.Given as goal

-- those who wait by the needs so far are marked
abbrev pub invariant-loop-need : goal.invariant-loop-need
invariant-loop-need l = record {
  long : length l.table.items ≡ length l.initial.table.items;
  adds : Adds l.initial.table.items l.table.items
      (λ m. list_any (λ need. makes_wait (λ x. get_or l.waiting x false) need && has need.blockers.items m) (take l.need-index l.needs));
}
