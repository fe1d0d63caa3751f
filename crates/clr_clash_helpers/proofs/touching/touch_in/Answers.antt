use Rattle.std.proofs.Common.{map, subst}
use Rattle.std.proofs.lemmas.Result.{IfOk-weaker}
use Rattle.clr_merge_sets.specs.MergeSetNames.{merge_set}
use Rattle.clr_clash_helpers.specs.Helpers.{Touch}
use Rattle.clr_clash_helpers.specs.FailedTests.{IsRefused}
use Rattle.clr_clash_helpers.proofs.HelperLemmas.{shared_refuses, touch_told}
use Rattle.clr_clash_helpers.proofs.touching.touch_in.Goals as goal

pub returns-in-Ok : goal.returns-in-Ok
returns-in-Ok c =
    let o = c.args.office.now in
    let s = merge_set c.args.root.now (map (λ name. name.now) c.args.names.now) in
    let of = c.in-Ok.ensures.scene s c.requires in
    IfOk-weaker c.is_touched.result _ _ (touch_told o s c.args.need.now _ of.setting c.requires.free of.apart) c.is_touched.ensures

pub returns-in-Err : goal.returns-in-Err
returns-in-Err c =
    let o = c.args.office.now in
    let s = merge_set c.args.root.now (map (λ name. name.now) c.args.names.now) in
    let fault = c.in-Err.fault in
    let shared = c.in-Err.ensures.shared s c.requires in
    IfOk-weaker c.refused.result _ _ (λ told h. shared_refuses o s (Touch o s c.args.need.now) (λ t. t.together) fault shared told
    (subst (λ v. IsRefused v told) c.verdict_of.ensures h)) c.refused.ensures
