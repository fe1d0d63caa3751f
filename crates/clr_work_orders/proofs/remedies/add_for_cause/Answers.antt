use Rattle.std.proofs.Common.{refl}
use Rattle.std.proofs.lemmas.Result.{on_ok_weaker}
use Rattle.clr_merge_sets.specs.MemberChanges.{set_of}
use Rattle.clr_work_orders.proofs.RemedyLemmas.{behind_two, cause_told, other_cause}
use Rattle.clr_work_orders.proofs.remedies.add_for_cause.Goals as goal

pub returns-in-Conflict : goal.returns-in-Conflict
returns-in-Conflict c =
    let m = c.args.setting.members.now in
    on_ok_weaker c.add_undoing.result (λ last. λ are. cause_told c.args.setting.office.now (set_of m) m.changes.items c.args.order.now c.args.cause.now _
    c.args.list.now.items c.add_undoing.new.list.items c.in-Conflict.is refl last) c.add_undoing.ensures

pub returns-in_ok-add_undoing-in-SharedCell : goal.returns-in_ok-add_undoing-in-SharedCell
returns-in_ok-add_undoing-in-SharedCell c =
    let m = c.args.setting.members.now in
    on_ok_weaker c.add_undoing-in-SharedCell-2.result (λ last. λ are. cause_told c.args.setting.office.now (set_of m) m.changes.items c.args.order.now
    c.args.cause.now _ c.args.list.now.items c.add_undoing-in-SharedCell-2.new.list.items c.in-SharedCell.is refl
    (behind_two c.args.list.now.items _ _ _ _ c.in_ok-add_undoing-in-SharedCell.ensures last)) c.add_undoing-in-SharedCell-2.ensures

pub returns-in_default : goal.returns-in_default
returns-in_default c are =
    let m = c.args.setting.members.now in
    other_cause c.args.setting.office.now (set_of m) m.changes.items c.args.order.now c.args.cause.now c.args.list.now.items c.in_default.not-Conflict
    c.in_default.not-SharedCell c.in_default.not-Uncovered
