use Rattle.std.proofs.Common.{◌≡◌, ◌∙◌, ◌-◌, length, sym, true, false, arith, get_or, ap, is_eq}
use Rattle.std.specs.Cmp.{Equal-is, tied_itself}
use Rattle.clr_needs.specs.Orders.{need_cmp}
use Rattle.clr_needs.proofs.NeedOrder.{need_exact, need_total}
use Rattle.clr_groups.proofs.JoinedPairs.{at_moved, at_kept, read_below, unread_pair}
use Rattle.clr_groups.proofs.labels.join_at.Goals as goal

pub join-requires-clause-member : goal.join-requires-clause-member
join-requires-clause-member c = read_below c.args.list.now c.args.at (length c.args.labels.now.items) c.requires.within c.requires.below

pub join-requires-clause-other : goal.join-requires-clause-other
join-requires-clause-other c = let within = c.requires.within in
    read_below c.args.list.now (c.args.at - 1) (length c.args.labels.now.items) (omega (arith, within)) c.requires.below

pub returns-then-is_eq : goal.returns-then-is_eq
returns-then-is_eq c =
    let last = (get_or c.args.list.now (c.args.at - 1) unread_pair).need in
    let here = (get_or c.args.list.now c.args.at unread_pair).need in
    let e : c.is_eq.result ≡ is_eq (need_cmp last here) = c.is_eq.ensures ∙ ap is_eq c.cmp.ensures in
    at_moved c.args.list.now c.args.at c.args.labels.now.items c.join.new.labels.items
    (need_exact last here ((Equal-is (need_cmp last here)).0 (sym e ∙ c.if-is_eq.true))) c.join.ensures

pub returns-else-is_eq : goal.returns-else-is_eq
returns-else-is_eq c =
    let last = (get_or c.args.list.now (c.args.at - 1) unread_pair).need in
    let here = (get_or c.args.list.now c.args.at unread_pair).need in
    let e : c.is_eq.result ≡ is_eq (need_cmp last here) = c.is_eq.ensures ∙ ap is_eq c.cmp.ensures in
    at_kept c.args.list.now c.args.at c.args.labels.now.items
    (λ same. (let tied = (Equal-is (need_cmp last here)).1 (ap (λ n. need_cmp last n) (sym same) ∙ tied_itself need_total last) in
    let clash : true ≡ false = sym tied ∙ sym e ∙ c.if-is_eq.false in cc))
