use Rattle.std.proofs.Common.{map}
use Rattle.std.proofs.lemmas.Result.{IfOk-weaker}
use Rattle.clr_merge_sets.specs.MergeSetNames.{merge_set}
use Rattle.clr_clash_helpers.specs.Helpers.{Touch}
use Rattle.clr_clash_helpers.proofs.HelperLemmas.{fault_refuses}
use Rattle.clr_clash_helpers.proofs.touching.touch.Goals as goal

pub returns-in-Err : goal.returns-in-Err
returns-in-Err c =
    let o = c.args.office.now in
    let s = merge_set c.args.root.now (map (λ name. name.now) c.args.names.now) in
    IfOk-weaker c.refused.result _ _ (λ told h. fault_refuses o s (Touch o s c.args.need.now) (λ t. t.together) c.in-Err.fault c.in-Err.ensures.fault told h)
    c.refused.ensures
