use Rattle.std.proofs.Common.{◌≡◌, ◌∙◌, Some, ap, false, subst, sym, true}
use Rattle.clr_clash_helpers.specs.declared.helped.HelpedClash.{HelpedClash}
use Rattle.clr_board.specs.States.{has_member}
use Rattle.clr_board.proofs.Finds.{not_this, this_one}
use Rattle.clr_board.proofs.states.clash_of.Goals as goal

pub loop-clash-preserved : goal.loop-clash-preserved
loop-clash-preserved c =
    let fails = sym c.has_member.ensures ∙ c.if-has_member.false in
    not_this (has_member c.args.at) c.args.helped.now c.loop-clash.clash-index c.clash-item.result _ c.loop-clash-test.true
    (subst (λ (h : HelpedClash). has_member c.args.at h ≡ false) c.clash-item.is fails) c.loop-clash.invariant

pub returns-then-has_member : goal.returns-then-has_member
returns-then-has_member c =
    let passes = sym c.has_member.ensures ∙ c.if-has_member.true in
    ap Some c.clash-item.is
    ∙ this_one (has_member c.args.at) c.args.helped.now c.loop-clash.clash-index c.clash-item.result _ c.loop-clash-test.true
    (subst (λ (h : HelpedClash). has_member c.args.at h ≡ true) c.clash-item.is passes) c.loop-clash.invariant
