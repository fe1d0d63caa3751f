use Rattle.std.proofs.Common.{◌∙◌, Some, ap, sym}
use Rattle.std.proofs.lemmas.Option.{slice_get-get_or}
use Rattle.clr_listed_covers.proofs.LateLaws.{all_helped_in_list, helped_more, late_here}
use Rattle.clr_listed_covers.proofs.late.first_late.Goals as goal

pub returns-then-not-is_helped_in_list : goal.returns-then-not-is_helped_in_list
returns-then-not-is_helped_in_list c =
    late_here c.args.needs.now c.loop-at.at c.index-needs-at.result
    (slice_get-get_or c.args.needs.now c.loop-at.at c.index-needs-at.result c.loop-at-test.true ∙ ap Some (sym c.index-needs-at.is))
    c.is_helped_in_list.result c.is_helped_in_list.ensures c.if-not-is_helped_in_list.true c.loop-at.invariant

pub loop-at-preserved : goal.loop-at-preserved
loop-at-preserved c =
    helped_more c.args.needs.now c.loop-at.at c.index-needs-at.result
    (slice_get-get_or c.args.needs.now c.loop-at.at c.index-needs-at.result c.loop-at-test.true ∙ ap Some (sym c.index-needs-at.is))
    c.is_helped_in_list.result c.is_helped_in_list.ensures c.if-not-is_helped_in_list.false c.loop-at.invariant

pub returns : goal.returns
returns c = all_helped_in_list c.args.needs.now c.loop-at.at c.loop-at-test.false c.loop-at.invariant
