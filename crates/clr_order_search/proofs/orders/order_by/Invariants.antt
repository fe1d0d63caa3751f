use Rattle.std.proofs.Common.{◌<◌, ◌^◌, List}
use Rattle.clr_order_search.specs.declared.open_needs.OpenNeed.{OpenNeed}
use Rattle.clr_order_search.specs.Searching.{CanFollow, TellsBelow, none_merged}
use Rattle.clr_order_search.proofs.Walks.{IsBegun}
use Rattle.clr_order_search.proofs.orders.order_by.Given as goal

-- the first order that works is begun
abbrev pub invariant-loop : goal.invariant-loop
invariant-loop l = (l.left < 2 ^ l.count)
    × ((needs : List OpenNeed) → TellsBelow needs l.count l.table (2 ^ l.count) → CanFollow needs l.count none_merged
    → IsBegun needs l.count l.order.items l.left l.counter)
