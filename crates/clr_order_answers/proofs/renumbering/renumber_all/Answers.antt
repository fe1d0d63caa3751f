use Rattle.std.proofs.Common.{subst}
use Rattle.std.proofs.lemmas.List.{take_all}
use Rattle.clr_order_knots.specs.Members.{needs_at}
use Rattle.clr_order_answers.specs.Renumbering.{AreRenumbered}
use Rattle.clr_order_answers.proofs.Numbering.{numbered_there, one_place_renumbered}
use Rattle.clr_order_answers.proofs.renumbering.renumber_all.Goals as goal

pub add_renumbered-requires-clause-among : goal.add_renumbered-requires-clause-among
add_renumbered-requires-clause-among c =
    numbered_there c.args.list.now c.args.needs.now c.args.places.now c.loop-at.at-index c.loop-at-test.true c.requires.among

pub loop-at-preserved : goal.loop-at-preserved
loop-at-preserved c = one_place_renumbered c.args.list.now c.args.needs.now c.args.places.now c.loop-at.at-index c.loop-at-test.true
    c.loop-at.renumbered.items c.add_renumbered.new.renumbered.items c.loop-at.invariant c.in_ok-add_renumbered.ensures

pub returns : goal.returns
returns c = subst (λ ps. AreRenumbered c.args.list.now (needs_at c.args.needs.now ps) c.loop-at.renumbered.items)
    (take_all c.loop-at.at-index c.args.places.now c.loop-at-test.false) c.loop-at.invariant
