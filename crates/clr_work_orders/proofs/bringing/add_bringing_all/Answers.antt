use Rattle.clr_merge_sets.specs.MemberChanges.{set_of}
use Rattle.clr_work_orders.specs.Remedies.{bringing}
use Rattle.clr_work_orders.proofs.RemedyLemmas.{more_listed}
use Rattle.clr_work_orders.proofs.bringing.add_bringing_all.Goals as goal

pub loop-member-preserved : goal.loop-member-preserved
loop-member-preserved c =
    more_listed (bringing c.args.setting.office.now (set_of c.args.setting.members.now) c.args.side.now c.args.place c.args.table.now) c.args.members.now
    c.loop-member.member-index 0 c.args.list.now.items c.loop-member.list.items c.add_bringing.new.list.items c.loop-member-test.true
    c.loop-member.invariant c.in_ok-add_bringing.ensures
