use Rattle.clr_order_search.proofs.Tables.{IsTable}
use Rattle.clr_order_search.proofs.orders.following_sets.Given as goal

-- the table tells of the sets so far
abbrev pub invariant-loop-left : goal.invariant-loop-left
invariant-loop-left l = IsTable l.needs l.count l.table.items l.left
