use Rattle.clr_merge_sets.specs.MemberChanges.{set_of}
use Rattle.clr_clash_helpers.proofs.ListLemmas.{one_helped}
use Rattle.clr_clash_helpers.proofs.helped.helped_clashes.Goals as goal

pub loop-clash-preserved : goal.loop-clash-preserved
loop-clash-preserved c =
    one_helped c.args.office.now (set_of c.args.members.now) c.args.clashes.now c.loop-clash.clash-index c.clash-item.result c.loop-clash.list.items
    c.push.new.self.items _ c.loop-clash-test.true c.clash-item.is c.in_ok-push.ensures.items c.in_ok-helpers.ensures c.loop-clash.invariant
