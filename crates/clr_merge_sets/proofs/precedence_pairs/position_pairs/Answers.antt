use Rattle.std.proofs.Common.{◌∙◌, ap}
use Rattle.std.specs.List.{list_any}
use Rattle.clr_merge_sets.proofs.PrecedenceLemmas.{pairs_tell, said_all, said_more, says}
use Rattle.clr_merge_sets.specs.Certificates.{ordered_merge_set_of, pairs_in}
use Rattle.clr_merge_sets.proofs.precedence_pairs.position_pairs.Goals as goal

pub loop-precedence-preserved : goal.loop-precedence-preserved
loop-precedence-preserved c j k =
    said_more c.args.certificate.now.members j k c.as_slice-precedence-items.result.now c.loop-precedence.precedence-index c.precedence-item.result _ _
    c.loop-precedence-test.true c.precedence-item.is (c.in_ok-add_pair.ensures j k) (c.loop-precedence.invariant j k)

pub returns : goal.returns
returns c =
    let certificate = c.args.certificate.now in
    let names = certificate.members in
    let read = c.as_slice-precedence-items.result.now in
    pairs_tell (ordered_merge_set_of certificate) c.loop-precedence.pairs.items
    (λ j k. c.loop-precedence.invariant j k ∙ said_all names j k read c.loop-precedence.precedence-index c.loop-precedence-test.false
    ∙ ap (λ before. list_any (says names j k) (pairs_in before)) c.as_slice-precedence-items.ensures)
