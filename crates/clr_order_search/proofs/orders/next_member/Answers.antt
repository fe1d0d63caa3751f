use Rattle.std.proofs.Common.{◌≡◌, true, false, rules}
use Rattle.clr_order_search.proofs.Tables.{found_next, none_below_more, none_found}
use Rattle.clr_order_search.proofs.orders.next_member.Goals as goal

pub returns-then-can_be_next-clause-next : goal.returns-then-can_be_next-clause-next
returns-then-can_be_next-clause-next c =
    let is : c.can_be_next.result ≡ true = search rules in
    λ needs told. found_next needs c.args.count c.args.left c.loop-member.member c.can_be_next.result c.loop-member-test.true
    (c.loop-member.invariant needs told) (c.can_be_next.ensures.told needs told) is

pub loop-member-preserved : goal.loop-member-preserved
loop-member-preserved c =
    let is : c.can_be_next.result ≡ false = search rules in
    λ needs told. none_below_more needs c.args.count c.args.left c.loop-member.member c.can_be_next.result (c.loop-member.invariant needs told)
    (c.can_be_next.ensures.told needs told) is

pub returns-clause-next : goal.returns-clause-next
returns-clause-next c =
    λ needs told. none_found needs c.args.count c.args.left c.loop-member.member c.loop-member-test.false (c.loop-member.invariant needs told)
