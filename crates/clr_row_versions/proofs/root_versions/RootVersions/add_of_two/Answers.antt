use Rattle.std.proofs.Common.{◌∙◌, ◌≤◌, ◌+◌, ap, refl, subst}
use Rattle.clr_rules.specs.Calls.{part_count}
use Rattle.clr_rows.proofs.BeginningLaws.{on_err}
use Rattle.clr_row_versions.specs.RootVersions.{setting_in}
use Rattle.clr_row_versions.proofs.CandidateLaws.{all_firsts, no_first_yet, one_first_more}
use Rattle.clr_row_versions.proofs.Gaining.{then_some}
use Rattle.clr_row_versions.proofs.VersionFits.{fit_one}
use Rattle.clr_row_versions.proofs.root_versions.RootVersions.add_of_two.Goals as goal

pub part_count-part-end-requires-clause-fit : goal.part_count-part-end-requires-clause-fit
part_count-part-end-requires-clause-fit g c = fit_one (setting_in g.V.RowView.content c.args.self.now) c.requires.fit c.args.first _ c.requires.first
    c.as_held.ensures

pub loop-part-init : goal.loop-part-init
loop-part-init g c = no_first_yet c.args.self.now.book.now c.args.rule c.args.server c.args.first c.args.second c.args.needs.now.items

pub loop-part-preserved : goal.loop-part-preserved
loop-part-preserved g c =
    one_first_more c.args.self.now.book.now c.args.rule c.args.server c.args.first c.args.second c.loop-part.part (c.loop-part.part + 1) _ _ _ refl
    c.loop-part.invariant c.in_ok-add_of_part.ensures.ok

pub returns-clause-ok : goal.returns-clause-ok
returns-clause-ok g c =
    let count = c.part_count-part-end.ensures ∙ ap (part_count c.args.self.now.book.now c.args.rule) c.as_held.ensures in
    all_firsts c.args.self.now.book.now c.args.rule c.args.server c.args.first c.args.second c.loop-part.part _ _
    (subst (λ n. n ≤ c.loop-part.part) count c.loop-part-test.false) c.loop-part.invariant

pub returns-in_err-add_of_part-clause-err : goal.returns-in_err-add_of_part-clause-err
returns-in_err-add_of_part-clause-err g c = on_err _ (then_some _ _ _ _ _ _ (λ n w. w) c.loop-part.invariant c.in_err-add_of_part.ensures.err)
