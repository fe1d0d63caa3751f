use Rattle.std.proofs.Common.{◌≡◌, true, false, rules, subst, sym}
use Rattle.clr_order_search.specs.OpenNeeds.{breaks_one}
use Rattle.clr_order_search.specs.Searching.{CanFollow, outside}
use Rattle.clr_order_search.proofs.Following.{broken_stops, follow_told, nobody_follows}
use Rattle.clr_order_search.proofs.orders.can_follow.Goals as goal

pub returns-then-breaks_one : goal.returns-then-breaks_one
returns-then-breaks_one c =
    let broken : breaks_one c.args.needs.now (outside c.args.count c.args.left) ≡ true = search rules in
    broken_stops c.args.needs.now c.args.count c.args.left broken

pub returns-then-left-eq0 : goal.returns-then-left-eq0
returns-then-left-eq0 c =
    let kept : breaks_one c.args.needs.now (outside c.args.count c.args.left) ≡ false = search rules in
    let none : c.args.left ≡ 0 = c.if-left-eq0.true in
    subst (λ s. CanFollow c.args.needs.now c.args.count (outside c.args.count s)) (sym none)
    (nobody_follows c.args.needs.now c.args.count (subst (λ s. breaks_one c.args.needs.now (outside c.args.count s) ≡ false) none kept))

pub returns : goal.returns
returns c =
    let kept : breaks_one c.args.needs.now (outside c.args.count c.args.left) ≡ false = search rules in
    rw c.is_some.ensures (follow_told c.args.needs.now c.args.count c.args.left c.requires.within c.if-left-eq0.false kept c.next_member.result
    (c.next_member.ensures.next c.args.needs.now c.requires.told))
