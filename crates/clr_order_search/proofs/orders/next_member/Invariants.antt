use Rattle.std.proofs.Common.{List}
use Rattle.clr_order_search.specs.declared.open_needs.OpenNeed.{OpenNeed}
use Rattle.clr_order_search.specs.Searching.{TellsBelow}
use Rattle.clr_order_search.proofs.Tables.{NoneBelow}
use Rattle.clr_order_search.proofs.orders.next_member.Given as goal

-- no member so far can be next
abbrev pub invariant-loop-member : goal.invariant-loop-member
invariant-loop-member l = (needs : List OpenNeed) → TellsBelow needs l.count l.table l.left → NoneBelow needs l.count l.left l.member
