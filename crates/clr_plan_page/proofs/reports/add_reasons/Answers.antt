use Rattle.std.proofs.Common.{[], map, refl}
use Rattle.std.proofs.lemmas.Result.{on_ok_weaker}
use Rattle.clr_merge_sets.specs.MemberChanges.{set_of}
use Rattle.clr_plan_page.specs.Reasons.{AreReasons}
use Rattle.clr_page_parts.specs.Shown.{shown}
use Rattle.clr_plan_page.proofs.ReasonLemmas.{no_reasons, reasons_of_blocked, reasons_of_cleared}
use Rattle.clr_plan_page.proofs.reports.add_reasons.Goals as goal

pub returns-in-Cleared : goal.returns-in-Cleared
returns-in-Cleared c =
    let o = c.args.setting.office.now in
    let m = c.args.setting.members.now in
    on_ok_weaker c.add_needs.result
    (λ told. reasons_of_cleared o (set_of m) m.changes.items c.args.plan.now c.args.trials.now _ _ _ _ c.in-Cleared.is c.as_slice.ensures told)
    c.add_needs.ensures

pub returns-in-Blocked : goal.returns-in-Blocked
returns-in-Blocked c =
    let o = c.args.setting.office.now in
    let m = c.args.setting.members.now in
    on_ok_weaker c.add_blocked.result
    (λ told. reasons_of_blocked o (set_of m) m.changes.items c.args.plan.now c.args.trials.now _ _ _ _ _ c.in-Blocked.is c.as_slice-in-Blocked.ensures.value
    told) c.add_blocked.ensures

pub returns-in-Unfit : goal.returns-in-Unfit
returns-in-Unfit c =
    let o = c.args.setting.office.now in
    let m = c.args.setting.members.now in
    let none : AreReasons o (set_of m) m.changes.items c.args.plan.now c.args.trials.now [] = rw c.in-Unfit.is refl in
    no_reasons o (set_of m) m.changes.items c.args.plan.now c.args.trials.now (map shown c.args.section.now.blocks.items) none

pub returns-in-OutOfMemory : goal.returns-in-OutOfMemory
returns-in-OutOfMemory c =
    let o = c.args.setting.office.now in
    let m = c.args.setting.members.now in
    let none : AreReasons o (set_of m) m.changes.items c.args.plan.now c.args.trials.now [] = rw c.in-OutOfMemory.is refl in
    no_reasons o (set_of m) m.changes.items c.args.plan.now c.args.trials.now (map shown c.args.section.now.blocks.items) none
