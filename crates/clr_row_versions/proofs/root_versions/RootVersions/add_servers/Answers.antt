use Rattle.std.proofs.Common.{◌∙◌, ◌+◌, ap, sym, subst, take}
use Rattle.clr_rows.proofs.BeginningLaws.{on_err}
use Rattle.clr_row_versions.specs.Candidates.{IsServerAmong}
use Rattle.clr_row_versions.specs.Gains.{Gains}
use Rattle.clr_row_versions.proofs.CandidateLaws.{all_servers, no_server_yet, not_one_server, one_server_more}
use Rattle.clr_row_versions.proofs.Gaining.{then_none}
use Rattle.clr_row_versions.proofs.root_versions.RootVersions.add_servers.Goals as goal
use Rattle.clr_row_versions.proofs.root_versions.RootVersions.add_servers.Goals.{else-serves_if_any, then-serves_if_any+in_ok-push}

pub loop-other-init : goal.loop-other-init
loop-other-init g c = no_server_yet c.args.self.now.book.now c.args.ask c.args.first c.args.second c.args.others.now c.args.names.now.items

pub loop-other-preserved : goal.loop-other-preserved
loop-other-preserved g c =
    let rules = c.args.self.now.book.now in
    let others = c.args.others.now in
    let k = c.loop-other.other-index in
    let r = c.other-item.result in
    elim c.if-serves_if_any.branch [
      | then-serves_if_any+in_ok-push w ↦ one_server_more rules c.args.ask c.args.first c.args.second others k r _ _ _ c.loop-other-test.true c.other-item.is
          (sym c.serves_if_any.ensures ∙ w.if-serves_if_any.true) (ap (λ v. v.items) w.names-is ∙ w.in_ok-push.ensures.items) c.loop-other.invariant
      | else-serves_if_any w ↦ subst (λ v. Gains (IsServerAmong rules c.args.ask c.args.first c.args.second others)
          (IsServerAmong rules c.args.ask c.args.first c.args.second (take (k + 1) others)) c.args.names.now.items v.items)
          (sym w.names-is) (not_one_server rules c.args.ask c.args.first c.args.second others k r _ _ c.loop-other-test.true c.other-item.is
          (sym c.serves_if_any.ensures ∙ w.if-serves_if_any.false) c.loop-other.invariant)
    ]

pub returns-clause-ok : goal.returns-clause-ok
returns-clause-ok g c = all_servers c.args.self.now.book.now c.args.ask c.args.first c.args.second c.args.others.now c.loop-other.other-index _ _
    c.loop-other-test.false c.loop-other.invariant

pub returns-in_err-push-clause-err : goal.returns-in_err-push-clause-err
returns-in_err-push-clause-err g c = on_err _ (then_none _ _ _ _ _ c.in_err-push.ensures.items c.loop-other.invariant)
