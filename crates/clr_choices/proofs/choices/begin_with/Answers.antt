use Rattle.std.proofs.Common.{◌∙◌, subst}
use Rattle.clr_merge_sets.specs.MergeSetNames.{merge_set}
use Rattle.clr_merge_sets.specs.declared.plans.Plan.{Plan}
use Rattle.clr_choices.specs.Clearable.{IsPlanOf}
use Rattle.clr_choices.proofs.Trying.{begun_with}
use Rattle.clr_choices.proofs.choices.begin_with.Goals as goal

pub returns-in-Cleared : goal.returns-in-Cleared
returns-in-Cleared c =
    let o = c.args.office.now in
    let root = c.args.root.now in
    let is = c.none_taken.ensures in
    begun_with o root c.none_taken.result c.args.names.now c.in-Cleared.certificate (is.cleared ∙ c.in_ok-cleared-in-Cleared.ensures) is.certificate
    is.count is.left is.is_any_left
    (subst (λ (p : Plan). IsPlanOf o (merge_set root c.args.names.now) p) c.in-Cleared.is c.in_ok-certificate.ensures)
