use Rattle.std.proofs.Common.{subst}
use Rattle.clr_order_answers.specs.Places.{IsFirstAmong, IsLastAmong}
use Rattle.clr_order_answers.proofs.Choices.{is_pair_for}
use Rattle.clr_order_answers.proofs.pairs.pair_for.Goals as goal

pub returns : goal.returns
returns c = is_pair_for c.args.order.now c.args.need.now c.requires.helped _ c.requires.apart
    (subst (λ ms. IsFirstAmong ms c.args.order.now c.in_ok-earlier.earlier) c.as_slice.ensures.value c.in_ok-earlier.ensures)
    (subst (λ ms. IsLastAmong ms c.args.order.now c.in_ok-later.later) c.as_slice-2.ensures.value c.in_ok-later.ensures)
