use Rattle.std.proofs.Common.{map, subst, sym}
use Rattle.std.proofs.lemmas.Result.{IfOk-weaker}
use Rattle.clr_needs.specs.Needs.{IsPossibleNeed}
use Rattle.clr_merge_sets.specs.MergeSetNames.{merge_set}
use Rattle.clr_clash_helpers.specs.Helpers.{HelpsAt}
use Rattle.clr_clash_helpers.specs.FailedTests.{IsRefused}
use Rattle.clr_clash_helpers.proofs.HelperLemmas.{help_told, shared_refuses}
use Rattle.clr_clash_helpers.proofs.helping.helps_in.Goals as goal

pub is_helper-requires-clause-possible : goal.is_helper-requires-clause-possible
is_helper-requires-clause-possible c =
    let s = merge_set c.args.root.now (map (λ name. name.now) c.args.names.now) in
    let of = c.in-Ok.ensures.scene s c.requires.parts in
    subst (λ d. IsPossibleNeed d c.args.need.now) (sym of.setting) (c.requires.possible of.apart)

pub returns-in-Ok : goal.returns-in-Ok
returns-in-Ok c =
    let o = c.args.office.now in
    let s = merge_set c.args.root.now (map (λ name. name.now) c.args.names.now) in
    let of = c.in-Ok.ensures.scene s c.requires.parts in
    IfOk-weaker c.is_helper.result _ _ (help_told o s c.args.need.now c.args.place _ of.setting c.requires.parts.free of.apart) c.is_helper.ensures

pub returns-in-Err : goal.returns-in-Err
returns-in-Err c =
    let o = c.args.office.now in
    let s = merge_set c.args.root.now (map (λ name. name.now) c.args.names.now) in
    let fault = c.in-Err.fault in
    let shared = c.in-Err.ensures.shared s c.requires.parts in
    IfOk-weaker c.refused.result _ _ (λ told h. shared_refuses o s (HelpsAt o s c.args.need.now c.args.place) (λ t. t.together) fault shared told
    (subst (λ v. IsRefused v told) c.verdict_of.ensures h)) c.refused.ensures
