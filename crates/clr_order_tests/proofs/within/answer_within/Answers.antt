use Rattle.std.proofs.Common.{◌∙◌, sym}
use Rattle.clr_order_tests.proofs.WithinLaws.{are_within}
use Rattle.clr_order_tests.proofs.within.answer_within.Goals as goal

pub answer_of-requires : goal.answer_of-requires
answer_of-requires c = are_within c.args.needs.now c.args.count (sym c.are_within.ensures ∙ c.if-not-are_within.false)
