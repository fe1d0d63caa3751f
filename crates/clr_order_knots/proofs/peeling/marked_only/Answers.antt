use Rattle.std.proofs.Common.{ℕ, ◌≡◌, ◌∙◌, ◌+◌, ◌&&◌, ap, false, get_or, not, subst, sym}
use Rattle.clr_order_knots.specs.Members.{AreThose}
use Rattle.clr_order_knots.proofs.Those.{one_other, one_such}
use Rattle.clr_order_knots.proofs.peeling.marked_only.Goals as goal
use Rattle.clr_order_knots.proofs.peeling.marked_only.Goals.{else-is_marked_only, then-is_marked_only+in_ok-push}

pub loop-member-preserved : goal.loop-member-preserved
loop-member-preserved c =
    let test = λ (m : ℕ). get_or c.args.table.now m false && not (get_or c.args.other.now m false) in
    let k = c.loop-member.member in
    elim c.if-is_marked_only.branch [
      | then-is_marked_only+in_ok-push w ↦ one_such test k c.loop-member.list.items _ (ap (λ v. v.items) w.list-is ∙ w.in_ok-push.ensures.items)
          (sym c.is_marked_only.ensures ∙ w.if-is_marked_only.true) c.loop-member.invariant
      | else-is_marked_only w ↦ subst (λ v. AreThose (k + 1) test v.items) (sym w.list-is) (one_other test k c.loop-member.list.items
          (sym c.is_marked_only.ensures ∙ w.if-is_marked_only.false) c.loop-member.invariant)
    ]
