use Rattle.std.proofs.Common.{ap, get_or}
use Rattle.clr_needs.proofs.Reading.{read_in}
use Rattle.clr_row_versions.proofs.PartSteps.{all_sets, one_more_set}
use Rattle.clr_row_versions.proofs.Searches.{sets_of}
use Rattle.clr_row_versions.proofs.set_parts.sets_at.Goals as goal

pub loop-position-init : goal.loop-position-init
loop-position-init c = ap sets_of c.in_ok-list.ensures.items

pub bounds-sets-position : goal.bounds-sets-position
bounds-sets-position c =
    let k = c.loop-position.position-index in
    c.requires (get_or c.args.positions.now k 0) (read_in c.args.positions.now k 0 c.loop-position-test.true)

pub loop-position-preserved : goal.loop-position-preserved
loop-position-preserved c =
    let k = c.loop-position.position-index in
    let within = c.requires (get_or c.args.positions.now k 0) (read_in c.args.positions.now k 0 c.loop-position-test.true) in
    one_more_set c.args.sets.now c.args.positions.now k c.index-sets-position.result c.loop-position.list.items c.push.new.self.items c.loop-position-test.true
    within c.index-sets-position.is
    c.in_ok-push.ensures.items c.loop-position.invariant

pub returns : goal.returns
returns c = all_sets c.args.sets.now c.args.positions.now c.loop-position.position-index c.loop-position.list.items c.loop-position-test.false
    c.loop-position.invariant
