use Rattle.std.proofs.Common.{◌≡◌, ◌∙◌, ◌+◌, ◌-◌, ℕ, suc, List, None, Some, ap, arith, length, subst, sym}
use Rattle.clr_merge_sets.specs.MemberChanges.{set_of}
use Rattle.clr_merge_orders.specs.MergeOrders.{IsFoundOrder}
use Rattle.clr_merge_clashes.specs.Laws.{merge_set_of_part}
use Rattle.clr_board.specs.Settling.{Settles, dropped, settled, spent}
use Rattle.clr_board.proofs.Settled.{Leads, leads_on}
use Rattle.clr_board.proofs.settling.settle.Goals as goal

pub loop-init : goal.loop-init
loop-init c =
    let all = c.args.goers.items in
    let same : length all - 0 ≡ length all = omega arith in
    λ last order settles.
    subst (λ (rounds : ℕ). Settles c.args.office.now (set_of c.args.members.now) c.args.helped.now rounds all last order) same settles

pub loop-preserved : goal.loop-preserved
loop-preserved c =
    let o = c.args.office.now in
    let s = set_of c.args.members.now in
    let helped = c.args.helped.now in
    let all = c.args.goers.items in
    let left = c.loop.left.items in
    let more : length all - c.loop.counter ≡ suc (length all - (c.loop.counter + 1)) = omega (arith, c.loop-test.true) in
    let found = subst (λ (goers : List ℕ). IsFoundOrder o (merge_set_of_part s goers) c.in_ok-order.order) c.as_slice.ensures.value c.in_ok-order.ensures in
    let leads = subst (λ (rounds : ℕ). Leads o s helped rounds left (length all) all) more c.loop.invariant in
    let same : dropped helped left c.in_ok-order.order ≡ Some c.in-Some.at =
    ap (λ (goers : List ℕ). dropped helped goers c.in_ok-order.order) (sym c.as_slice-in-loop.ensures.value) ∙ sym c.in_ok-at.ensures
    ∙ c.in-Some.is in
    let on = leads_on o s helped (length all - (c.loop.counter + 1)) left (length all) all c.in-Some.at c.in_ok-order.order leads found same in
    subst (λ (goers : List ℕ). Leads o s helped (length all - (c.loop.counter + 1)) goers (length all) all) (sym c.drop_goer.ensures) on

pub returns-in-None : goal.returns-in-None
returns-in-None c =
    let o = c.args.office.now in
    let s = set_of c.args.members.now in
    let left = c.loop.left.items in
    let found = subst (λ (goers : List ℕ). IsFoundOrder o (merge_set_of_part s goers) c.in_ok-order.order) c.as_slice.ensures.value c.in_ok-order.ensures in
    let same : dropped c.args.helped.now left c.in_ok-order.order ≡ None =
    ap (λ (goers : List ℕ). dropped c.args.helped.now goers c.in_ok-order.order) (sym c.as_slice-in-loop.ensures.value) ∙ sym c.in_ok-at.ensures
    ∙ c.in-None.is in
    c.loop.invariant left c.in_ok-order.order (settled (length c.args.goers.items - c.loop.counter) left c.in_ok-order.order found same)

pub returns : goal.returns
returns c =
    let o = c.args.office.now in
    let s = set_of c.args.members.now in
    let helped = c.args.helped.now in
    let all = c.args.goers.items in
    let left = c.loop.left.items in
    let none : length all - c.loop.counter ≡ 0 = omega (arith, c.loop-test.false) in
    let leads = subst (λ (rounds : ℕ). Leads o s helped rounds left (length all) all) none c.loop.invariant in
    leads left c.in_ok-order-2.order (spent left c.in_ok-order-2.order
    (subst (λ (goers : List ℕ). IsFoundOrder o (merge_set_of_part s goers) c.in_ok-order-2.order) c.as_slice-2.ensures.value c.in_ok-order-2.ensures))
