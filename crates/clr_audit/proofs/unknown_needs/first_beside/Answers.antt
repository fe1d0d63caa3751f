use Rattle.std.proofs.Common.{◌∙◌, refl, sym}
use Rattle.clr_audit.proofs.UnknownLaws.{found, none_left, passed}
use Rattle.clr_audit.proofs.unknown_needs.first_beside.Goals as goal

pub loop-need-init : goal.loop-need-init
loop-need-init c = refl

pub loop-need-preserved : goal.loop-need-preserved
loop-need-preserved c = c.loop-need.invariant
    ∙ passed c.args.known.now c.args.needs.now c.loop-need.need-index _ c.loop-need-test.true (sym c.is_known.ensures ∙ c.if-not-is_known.false)

pub returns-then-not-is_known : goal.returns-then-not-is_known
returns-then-not-is_known c = sym (c.loop-need.invariant
    ∙ found c.args.known.now c.args.needs.now c.loop-need.need-index _ c.loop-need-test.true (sym c.is_known.ensures ∙ c.if-not-is_known.true))

pub returns : goal.returns
returns c = sym (c.loop-need.invariant ∙ none_left c.args.known.now c.args.needs.now c.loop-need.need-index c.loop-need-test.false)
