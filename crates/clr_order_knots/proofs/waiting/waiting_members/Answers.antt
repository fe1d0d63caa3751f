use Rattle.std.proofs.Common.{◌≡◌, ◌∙◌, ◌≤◌, arith, length}
use Rattle.std.specs.List.{filter}
use Rattle.clr_order_search.specs.OpenNeeds.{has}
use Rattle.clr_order_knots.specs.Waiting.{waits_for}
use Rattle.clr_order_knots.proofs.WaitingMembers.{all_may_wait, all_wait, fewer_wait}
use Rattle.clr_order_knots.proofs.waiting.waiting_members.Goals as goal

pub loop-members-init : goal.loop-members-init
loop-members-init c = all_may_wait c.args.needs.now c.args.count c.in_ok-members.members.items c.in_ok-members.ensures

pub returns-then-len : goal.returns-then-len
returns-then-len c =
    let needs = c.args.needs.now in
    let members = c.loop-members.members.items in
    let long : length members ≤ length c.in_ok-fewer.fewer.items = omega (arith, c.in_ok-fewer.fewer.ok.0, c.loop-members.members.ok.0) in
    all_wait needs c.args.count c.requires members c.in_ok-fewer.fewer.items
    (c.in_ok-fewer.ensures ∙ (λ i. filter (waits_for needs (has (c.as_slice.ensures.value i))) (c.as_slice.ensures.value i))) long c.loop-members.invariant

pub loop-members-preserved : goal.loop-members-preserved
loop-members-preserved c =
    let needs = c.args.needs.now in
    let members = c.loop-members.members.items in
    fewer_wait needs c.args.count c.requires members c.in_ok-fewer.fewer.items
    (c.in_ok-fewer.ensures ∙ (λ i. filter (waits_for needs (has (c.as_slice.ensures.value i))) (c.as_slice.ensures.value i))) c.loop-members.invariant
