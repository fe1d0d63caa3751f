use Rattle.std.proofs.Common.{◌∙◌, ◌++◌, ap, sym}
use Rattle.clr_rules.specs.Needs.{broken_cmp}
use Rattle.clr_rules.proofs.BrokenOrder.{broken_exact}
use Rattle.clr_judges.proofs.BrokenBelow.{gained_below, passed_below}
use Rattle.clr_judges.proofs.judges.Judge.add_broken_at.Goals as goal

pub returns-then-not-kept : goal.returns-then-not-kept
returns-then-not-kept c =
    passed_below c.args.self.now c.args.tree.now.list c.args.at c.args.list.now.items (sym c.kept.ensures ∙ c.if-not-kept.true) c.requires.before

pub put_in_order-requires : goal.put_in_order-requires
unfolding broken_cmp
put_in_order-requires c = broken_exact

pub returns : goal.returns
unfolding broken_cmp
returns c =
    gained_below c.args.self.now c.args.tree.now.list c.args.at c.args.list.now.items c.in_ok-needs.needs.items c.extend_from_slice.new.self.items
    c.put_in_order.new.list.items (sym c.kept.ensures ∙ c.if-not-kept.false) c.requires.before c.in_ok-needs.ensures
    (c.in_ok-extend_from_slice.ensures.items ∙ ap (λ bs. c.args.list.now.items ++ bs) c.as_slice.ensures.value)
    c.put_in_order.ensures.ascending c.put_in_order.ensures.same
