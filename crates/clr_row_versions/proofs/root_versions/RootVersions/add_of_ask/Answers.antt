use Rattle.std.proofs.Common.{◌∙◌, Some}
use Rattle.clr_rules.specs.Calls.{calls}
use Rattle.clr_row_versions.specs.Candidates.{serves_if_any}
use Rattle.clr_row_versions.specs.RootVersions.{setting_in}
use Rattle.clr_row_versions.proofs.CandidateLaws.{add_asked, both_told, none_asked, asked_without_call, asked_without_server}
use Rattle.clr_row_versions.proofs.VersionFits.{fit_two}
use Rattle.clr_row_versions.proofs.root_versions.RootVersions.add_of_ask.Goals as goal
use Rattle.clr_row_versions.proofs.root_versions.RootVersions.add_of_ask.Goals.{else-serves_if_any-via-then-serves_if_any+else-calls_two}
use Rattle.clr_row_versions.proofs.root_versions.RootVersions.add_of_ask.Goals.{else-serves_if_any-via-else-serves_if_any}

pub calls_two-requires-clause-fit : goal.calls_two-requires-clause-fit
calls_two-requires-clause-fit g c =
    fit_two (setting_in g.V.RowView.content c.args.self.now) c.requires.fit c.args.first c.args.second _ _ c.requires.first c.requires.second c.as_held.ensures
    c.as_held-then-serves_if_any.ensures

pub returns-in_ok-push-clause-ok : goal.returns-in_ok-push-clause-ok
returns-in_ok-push-clause-ok g c =
    let rules = c.args.self.now.book.now in
    let called = c.calls_two.ensures ∙ (λ i. calls rules c.args.ask (c.as_held.ensures i) (Some (c.as_held-then-serves_if_any.ensures i))) in
    add_asked rules c.args.ask c.args.server c.args.first c.args.second c.args.needs.now.items c.push.new.self.items c.new.result c.in_ok-push.ensures.items
    c.new.ensures (both_told _ _ _ _ c.serves_if_any.ensures called c.if-serves_if_any.true c.if-calls_two.true)

pub returns-else-serves_if_any-clause-ok : goal.returns-else-serves_if_any-clause-ok
returns-else-serves_if_any-clause-ok g c =
    let rules = c.args.self.now.book.now in
    elim c.else-serves_if_any.branch [
      | else-serves_if_any-via-then-serves_if_any+else-calls_two w ↦ none_asked rules c.args.ask c.args.server c.args.first c.args.second c.args.needs.now.items
          (asked_without_call (serves_if_any rules c.args.ask c.args.first (Some c.args.second) c.args.server) _ _
          (w.calls_two.ensures ∙ (λ i. calls rules c.args.ask (w.as_held.ensures i) (Some (w.as_held-then-serves_if_any.ensures i)))) w.if-calls_two.false)
      | else-serves_if_any-via-else-serves_if_any w ↦ none_asked rules c.args.ask c.args.server c.args.first c.args.second c.args.needs.now.items
          (asked_without_server _ _ _ c.serves_if_any.ensures w.if-serves_if_any.false)
    ]
