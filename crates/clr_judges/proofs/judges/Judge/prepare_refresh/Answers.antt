use Rattle.std.proofs.Common.{◌∙◌, sym, subst}
use Rattle.clr_rows.specs.Contents.{Content, taken_over}
use Rattle.clr_workspaces.specs.Workspaces.{workspace_at}
use Rattle.clr_judges.specs.Fitting.{FitBoth}
use Rattle.clr_judges.specs.KeptContents.{IsPrepared}
use Rattle.clr_judges.proofs.Changed.{own_changes_change}
use Rattle.clr_judges.proofs.Contents.{reached}
use Rattle.clr_judges.proofs.Fits.{fit_taken}
use Rattle.clr_judges.proofs.Prepared.{not_kept}
use Rattle.clr_judges.proofs.judges.Judge.prepare_refresh.Goals as goal

pub returns-then-not-kept-clause-prepared : goal.returns-then-not-kept-clause-prepared
returns-then-not-kept-clause-prepared c =
    not_kept c.args.self.now c.args.tree.now.list c.args.finders.now c.requires.served.are c.args.at _ (sym c.kept.ensures ∙ c.if-not-kept.true)

pub refresh_need-requires-clause-kept : goal.refresh_need-requires-clause-kept
refresh_need-requires-clause-kept c = sym c.kept.ensures ∙ c.if-not-kept.false

pub refresh_need-requires-clause-own : goal.refresh_need-requires-clause-own
refresh_need-requires-clause-own c =
    own_changes_change (workspace_at c.args.tree.now.list c.args.above).current (workspace_at c.args.tree.now.list c.args.at) c.args.own.now c.requires.own
    c.requires.free

pub refresh_need-requires-clause-own_fit : goal.refresh_need-requires-clause-own_fit
refresh_need-requires-clause-own_fit c =
    fit_taken c.args.self.now c.args.tree.now.list c.requires.served.fit c.args.at c.requires.child c.args.above c.args.above c.args.own.now c.requires.own

pub refresh_need-requires-clause-fit : goal.refresh_need-requires-clause-fit
refresh_need-requires-clause-fit c =
    fit_taken c.args.self.now c.args.tree.now.list c.requires.served.fit c.args.at c.requires.child c.args.at c.args.above c.args.own.now c.requires.own

pub note_changes-requires-clause-fit : goal.note_changes-requires-clause-fit
note_changes-requires-clause-fit c =
    let ws = c.args.tree.now.list in
    let w = workspace_at ws c.args.at in
    subst (FitBoth c.args.self.now w.current) (sym (reached w.current (taken_over (workspace_at ws c.args.above).current c.args.own.now) c.in_ok-changed.changed
    c.in_ok-changed.ensures)) (fit_taken c.args.self.now ws c.requires.served.fit c.args.at c.requires.child c.args.at c.args.above c.args.own.now
    c.requires.own)

pub returns-clause-prepared : goal.returns-clause-prepared
returns-clause-prepared c =
    let ws = c.args.tree.now.list in
    let w = workspace_at ws c.args.at in
    subst (λ (m : Content). IsPrepared c.args.self.now ws c.args.at m c.note_changes.new.finders)
    (reached w.current (taken_over (workspace_at ws c.args.above).current c.args.own.now) c.in_ok-changed.changed c.in_ok-changed.ensures)
    c.in_ok-note_changes-in-None.ensures.ok
