use Rattle.std.proofs.Common.{◌∙◌, None, Some, ap, arith, is_some, length, sym}
use Rattle.clr_row_versions.proofs.Searches.{found_is, none_behind}
use Rattle.clr_member_changes.proofs.ChangerLemmas.{changes_here, some_copied}
use Rattle.clr_member_changes.proofs.member_changes.changer_among.Goals as goal

pub returns-then-is_some : goal.returns-then-is_some
returns-then-is_some c =
    let sets = c.args.sets.now in
    let at = c.loop-member.member in
    let set = c.index-sets-member.result in
    let read = ap is_some c.get.ensures.change in
    let changes = changes_here sets c.args.cell at set c.loop-member-test.true c.index-sets-member.is ∙ sym read ∙ some_copied c.get.result ∙ sym
    c.is_some.ensures
    ∙ c.if-is_some.true in
    found_is sets c.args.cell 0 (length sets) (Some at)
    (record { from_on = omega arith; below = omega (arith, c.loop-member-test.true); changes = changes; passed = c.loop-member.invariant })

pub loop-member-preserved : goal.loop-member-preserved
loop-member-preserved c =
    let sets = c.args.sets.now in
    let at = c.loop-member.member in
    let set = c.index-sets-member.result in
    let read = ap is_some c.get.ensures.change in
    let other = changes_here sets c.args.cell at set c.loop-member-test.true c.index-sets-member.is ∙ sym read ∙ some_copied c.get.result ∙ sym
    c.is_some.ensures
    ∙ c.if-is_some.false in
    none_behind sets c.args.cell 0 at c.loop-member.invariant other

pub returns : goal.returns
returns c =
    let sets = c.args.sets.now in
    found_is sets c.args.cell 0 (length sets) None
    (λ k low high changes. c.loop-member.invariant k low (omega (arith, high, c.loop-member-test.false)) changes)
