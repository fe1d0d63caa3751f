use Rattle.std.proofs.Common.{subst, sym}
use Rattle.clr_rows.proofs.BeginningLaws.{on_err}
use Rattle.clr_foot.specs.Scenes.{setting_in}
use Rattle.clr_foot.specs.Serving.{MayBeServed}
use Rattle.clr_row_versions.specs.Versions.{AreAt, FindsAll, row_of}
use Rattle.clr_foot.proofs.TouchSteps.{none_served_by, served_gains, some_served}
use Rattle.clr_foot.proofs.scenes.Scene.add_served_by.Goals as goal

pub add_served-requires-clause-near : goal.add_served-requires-clause-near
add_served-requires-clause-near g c = subst (AreAt (setting_in g.V.RowView.content c.args.self.now)) (sym c.as_slice.ensures.value) c.in_ok-near.ensures.are

pub returns-then-not-may_serve-clause-ok : goal.returns-then-not-may_serve-clause-ok
returns-then-not-may_serve-clause-ok g c =
    none_served_by (setting_in g.V.RowView.content c.args.self.now) c.args.rule c.args.server c.may_serve.result _ c.requires.at c.may_serve.ensures
    c.if-not-may_serve.true

pub returns-clause-ok : goal.returns-clause-ok
returns-clause-ok g c =
    let s = setting_in g.V.RowView.content c.args.self.now in
    served_gains s c.args.rule c.args.server _ _ _ c.requires.at
    (subst (FindsAll s (MayBeServed s.rules c.args.rule (row_of c.args.server))) (sym c.as_slice.ensures.value) c.in_ok-near.ensures)
    c.in_ok-add_served.ensures.ok

pub returns-in_err-add_served-clause-err : goal.returns-in_err-add_served-clause-err
returns-in_err-add_served-clause-err g c =
    let s = setting_in g.V.RowView.content c.args.self.now in
    on_err _ (some_served s c.args.rule c.args.server _ _ _ c.requires.at
    (subst (FindsAll s (MayBeServed s.rules c.args.rule (row_of c.args.server))) (sym c.as_slice.ensures.value) c.in_ok-near.ensures)
    c.in_err-add_served.ensures.err)
