use Rattle.std.proofs.Common.{◌∙◌, ◌≤◌, ◌+◌, ap, refl, subst}
use Rattle.clr_rules.specs.Calls.{ask_of_parts, part_count}
use Rattle.clr_rows.proofs.BeginningLaws.{on_err}
use Rattle.clr_row_versions.specs.RootVersions.{setting_in}
use Rattle.clr_row_versions.proofs.CandidateLaws.{all_parts, no_part_yet, one_part_more}
use Rattle.clr_row_versions.proofs.Gaining.{then_none}
use Rattle.clr_row_versions.proofs.VersionFits.{fit_one}
use Rattle.clr_row_versions.proofs.root_versions.RootVersions.add_of_part.Goals as goal

pub part_count-other-end-requires-clause-fit : goal.part_count-other-end-requires-clause-fit
part_count-other-end-requires-clause-fit g c = fit_one (setting_in g.V.RowView.content c.args.self.now) c.requires.fit c.args.second _ c.requires.second
    c.as_held.ensures

pub loop-other-init : goal.loop-other-init
loop-other-init g c = no_part_yet c.args.self.now.book.now c.args.rule c.args.server c.args.first c.args.second c.args.part c.args.needs.now.items

pub loop-other-preserved : goal.loop-other-preserved
loop-other-preserved g c =
    one_part_more c.args.self.now.book.now c.args.rule c.args.server c.args.first c.args.second c.args.part c.loop-other.other
    (ask_of_parts c.args.rule c.args.part (c.loop-other.other + 1)) _ _ _ refl
    c.loop-other.invariant c.in_ok-add_of_ask.ensures.ok

pub returns-clause-ok : goal.returns-clause-ok
returns-clause-ok g c =
    let count = c.part_count-other-end.ensures ∙ ap (part_count c.args.self.now.book.now c.args.rule) c.as_held.ensures in
    all_parts c.args.self.now.book.now c.args.rule c.args.server c.args.first c.args.second c.args.part c.loop-other.other _ _
    (subst (λ n. n ≤ c.loop-other.other) count c.loop-other-test.false) c.loop-other.invariant

pub returns-in_err-add_of_ask-clause-err : goal.returns-in_err-add_of_ask-clause-err
returns-in_err-add_of_ask-clause-err g c = on_err _ (then_none _ _ _ _ _ c.in_err-add_of_ask.ensures.err c.loop-other.invariant)
