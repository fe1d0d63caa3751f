use Rattle.std.proofs.Common.{◌∙◌, ◌+◌, subst, sym}
use Rattle.std.proofs.lemmas.Option.{slice_get-get_or}
use Rattle.clr_order_answers.proofs.Ends.{IsLastTo, is_last, last_stays, no_place_yet, now_last}
use Rattle.clr_order_answers.proofs.pairs.last_of.Goals as goal
use Rattle.clr_order_answers.proofs.pairs.last_of.Goals.{else-is_one_of, then-is_one_of}

pub loop-at-init : goal.loop-at-init
loop-at-init c = no_place_yet c.args.members.now c.args.order.now

pub loop-at-preserved : goal.loop-at-preserved
loop-at-preserved c =
    let members = c.args.members.now in
    let order = c.args.order.now in
    let k = c.loop-at.at in
    let at = slice_get-get_or order k 0 c.loop-at-test.true in
    elim c.if-is_one_of.branch [
      | then-is_one_of w ↦ subst (IsLastTo members order (k + 1)) (sym w.last-is)
          (now_last members order k _ at (sym c.is_one_of.ensures ∙ w.if-is_one_of.true))
      | else-is_one_of w ↦ subst (IsLastTo members order (k + 1)) (sym w.last-is)
          (last_stays members order k _ c.loop-at.last at (sym c.is_one_of.ensures ∙ w.if-is_one_of.false) c.loop-at.invariant)
    ]

pub returns : goal.returns
returns c = is_last c.args.members.now c.args.order.now c.loop-at.at c.loop-at.last c.loop-at-test.false c.loop-at.invariant
