use Rattle.std.proofs.Common.{◌+◌, subst, sym, take}
use Rattle.clr_listed_covers.specs.Late.{IsEndOf}
use Rattle.clr_listed_covers.proofs.LateLaws.{further_end, same_end}
use Rattle.clr_listed_covers.proofs.late.end_of.Goals as goal
use Rattle.clr_listed_covers.proofs.late.end_of.Goals.{else-end-member, then-end-member}

pub loop-member-preserved : goal.loop-member-preserved
loop-member-preserved c =
    let members = c.args.members.now in
    let k = c.loop-member.member-index in
    elim c.if-end-member.branch [
      | then-end-member w ↦ subst (IsEndOf (take (k + 1) members)) (sym w.end-is)
          (further_end members k 0 c.loop-member.end c.loop-member-test.true c.loop-member.invariant w.if-end-member.true)
      | else-end-member w ↦ subst (IsEndOf (take (k + 1) members)) (sym w.end-is)
          (same_end members k 0 c.loop-member.end c.loop-member-test.true c.loop-member.invariant w.if-end-member.false)
    ]
