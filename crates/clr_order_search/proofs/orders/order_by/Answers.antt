use Rattle.std.proofs.Common.{◌≡◌, ◌<◌, ◌-◌, ◌^◌, [], arith, subst}
use Rattle.std.proofs.lemmas.Nat.{pow_pos}
use Rattle.clr_order_search.specs.Searching.{IsNext, outside}
use Rattle.clr_order_search.proofs.Tables.{fewer_told}
use Rattle.clr_order_search.proofs.Walks.{begun, begun_more, some_next, walked}
use Rattle.clr_order_search.proofs.orders.order_by.Goals as goal

pub loop-init : goal.loop-init
loop-init c =
    let made : c.number_of_sets-left.result ≡ 2 ^ c.args.count = c.number_of_sets-left.ensures in
    let empty : c.in_ok-order.order.items ≡ [] = c.in_ok-order.ensures.items in
    let some = pow_pos c.args.count in
    let lower : c.number_of_sets-left.result - 1 < 2 ^ c.args.count = omega (arith, made, some) in
    (lower, λ needs told can. rw (empty, made) (begun needs c.args.count can))

-- the next member is added
pub loop-preserved : goal.loop-preserved
loop-preserved c =
    let within = c.loop.invariant.0 in
    let lower = c.without_member-left.ensures.less in
    let still : c.without_member-left.result < 2 ^ c.args.count = omega (arith, lower, within) in (
      still,
      λ needs told can.
          let fewer = fewer_told needs c.args.count c.args.table.now (2 ^ c.args.count) c.loop.left (omega (arith, within)) told in
          let next = subst (IsNext needs c.args.count (outside c.args.count c.loop.left)) c.in-Some.is (c.next_member.ensures.next needs fewer) in
          begun_more needs c.args.count c.loop.order.items c.loop.left c.loop.counter (c.loop.invariant.1 needs told can) c.in-Some.member next
          c.without_member-left.result c.without_member-left.ensures.others c.push.new.self.items c.in_ok-push.ensures.items,
    )

-- where no member can be next though members are left, there is none of whom all can follow
pub returns-in_default : goal.returns-in_default
returns-in_default c =
    let within = c.loop.invariant.0 in
    λ needs told can.
    let fewer = fewer_told needs c.args.count c.args.table.now (2 ^ c.args.count) c.loop.left (omega (arith, within)) told in
    let next = subst (IsNext needs c.args.count (outside c.args.count c.loop.left)) c.in_default.is (c.next_member.ensures.next needs fewer) in
    absurd (some_next needs c.args.count c.loop.order.items c.loop.left c.loop.counter (c.loop.invariant.1 needs told can) c.loop-test.true next)

-- all members are added
pub returns : goal.returns
returns c =
    let most = c.loop.auto.counter-end in
    let end = c.loop-test.false in
    λ needs told can. walked needs c.args.count c.loop.order.items c.loop.left c.loop.counter (c.loop.invariant.1 needs told can) (omega (arith, most, end))
