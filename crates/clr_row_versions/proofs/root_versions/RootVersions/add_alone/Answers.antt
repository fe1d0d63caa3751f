use Rattle.std.proofs.Common.{◌∙◌, ap, None}
use Rattle.clr_rules.specs.Calls.{calls, plain_ask}
use Rattle.clr_row_versions.specs.Candidates.{serves_if_any}
use Rattle.clr_needs.specs.Needs.{need_of}
use Rattle.clr_row_versions.specs.RootVersions.{setting_in}
use Rattle.clr_row_versions.proofs.CandidateLaws.{add_alone, both_told, none_alone, asked_without_call, asked_without_server}
use Rattle.clr_row_versions.proofs.VersionFits.{fit_one}
use Rattle.clr_row_versions.proofs.root_versions.RootVersions.add_alone.Goals as goal
use Rattle.clr_row_versions.proofs.root_versions.RootVersions.add_alone.Goals.{else-serves_if_any-via-then-serves_if_any+else-calls_one}
use Rattle.clr_row_versions.proofs.root_versions.RootVersions.add_alone.Goals.{else-serves_if_any-via-else-serves_if_any}

pub calls_one-requires-clause-fit : goal.calls_one-requires-clause-fit
calls_one-requires-clause-fit g c = fit_one (setting_in g.V.RowView.content c.args.self.now) c.requires.fit c.args.first _ c.requires.first c.as_held.ensures

pub returns-in_ok-push-clause-ok : goal.returns-in_ok-push-clause-ok
returns-in_ok-push-clause-ok g c =
    let rules = c.args.self.now.book.now in
    let ask = plain_ask c.args.rule in
    let s = c.args.first in
    let serves = c.serves_if_any.ensures ∙ ap (λ a. serves_if_any rules a s None c.args.server) c.plain-ask.ensures in
    let called = c.calls_one.ensures ∙ ap (λ h. calls rules ask h None) c.as_held.ensures in
    add_alone rules c.args.rule c.args.server s c.args.needs.now.items c.push.new.self.items c.new.result c.in_ok-push.ensures.items
    (c.new.ensures ∙ ap (λ a. need_of a s.id None) c.plain-ask.ensures) (both_told _ _ _ _ serves called c.if-serves_if_any.true c.if-calls_one.true)

pub returns-else-serves_if_any-clause-ok : goal.returns-else-serves_if_any-clause-ok
returns-else-serves_if_any-clause-ok g c =
    let rules = c.args.self.now.book.now in
    let ask = plain_ask c.args.rule in
    let s = c.args.first in
    let serves = c.serves_if_any.ensures ∙ ap (λ a. serves_if_any rules a s None c.args.server) c.plain-ask.ensures in
    elim c.else-serves_if_any.branch [
      | else-serves_if_any-via-then-serves_if_any+else-calls_one w ↦ none_alone rules c.args.rule c.args.server s c.args.needs.now.items
          (asked_without_call (serves_if_any rules ask s None c.args.server) _ _ (w.calls_one.ensures ∙ ap (λ h. calls rules ask h None) w.as_held.ensures)
          w.if-calls_one.false)
      | else-serves_if_any-via-else-serves_if_any w ↦ none_alone rules c.args.rule c.args.server s c.args.needs.now.items
          (asked_without_server _ _ _ serves w.if-serves_if_any.false)
    ]
