use Rattle.std.proofs.Common.{◌∙◌, sym, arith}
use Rattle.clr_spots.proofs.SpotLemmas.{order_of_ends}
use Rattle.clr_spots.proofs.order.order_of_lists.Goals as goal

pub returns : goal.returns
returns c =
    c.cmp.ensures ∙ sym (c.loop-i.invariant ∙ order_of_ends c.args.a.now c.args.b.now c.loop-i.i (omega arith) (omega arith) (λ p q. omega arith))
