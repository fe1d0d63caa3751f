use Rattle.std.proofs.Common.{◌≡◌, true, rules}
use Rattle.clr_order_search.specs.Searching.{is_in}
use Rattle.clr_order_search.proofs.Following.{next_told}
use Rattle.clr_order_search.proofs.MemberSets.{outside_is}
use Rattle.clr_order_search.proofs.orders.can_be_next.Goals as goal

pub returns-clause-told : goal.returns-clause-told
returns-clause-told c =
    let there : is_in c.args.left c.args.member ≡ true = search rules in
    λ needs told. next_told needs c.args.count c.args.table.now c.args.left c.args.member c.without_member-others.result told c.requires.below there
    (outside_is c.args.count c.args.left c.args.member c.requires.below there) c.without_member-others.ensures.less c.without_member-others.ensures.others
