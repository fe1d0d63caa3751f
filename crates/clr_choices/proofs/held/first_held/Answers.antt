use Rattle.clr_needs.proofs.Reading.{none_taken}
use Rattle.std.proofs.Common.{map}
use Rattle.clr_clashes.specs.ListedClashes.{listed_clash_of}
use Rattle.clr_choices.proofs.Holding.{held_at, not_held_at}
use Rattle.clr_choices.proofs.held.first_held.Goals as goal

pub loop-clash-init : goal.loop-clash-init
loop-clash-init c j h held = none_taken (map listed_clash_of c.args.broken.now) j h

pub returns-then-are_within : goal.returns-then-are_within
returns-then-are_within c =
    held_at c.args.broken.now c.args.positions.now c.loop-clash.clash-index c.clash-item.result c.loop-clash-test.true c.clash-item.is
    c.are_within.result c.as_slice.result.now c.requires c.are_within.ensures c.as_slice.ensures.value c.if-are_within.true c.loop-clash.invariant

pub loop-clash-preserved : goal.loop-clash-preserved
loop-clash-preserved c =
    not_held_at c.args.broken.now c.args.positions.now c.loop-clash.clash-index c.clash-item.result c.loop-clash-test.true c.clash-item.is
    c.are_within.result c.as_slice.result.now c.are_within.ensures c.as_slice.ensures.value c.if-are_within.false c.loop-clash.invariant
