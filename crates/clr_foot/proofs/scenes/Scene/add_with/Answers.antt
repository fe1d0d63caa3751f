use Rattle.std.proofs.Common.{false, refl, subst, sym}
use Rattle.clr_rows.proofs.BeginningLaws.{on_err}
use Rattle.clr_foot.specs.Scenes.{setting_in}
use Rattle.clr_foot.specs.Touches.{IsNeighbour}
use Rattle.clr_row_versions.specs.Versions.{AreAt, FindsAll, row_of}
use Rattle.clr_foot.proofs.TouchSteps.{alone_gains, none_with, some_with, with_gains}
use Rattle.clr_row_versions.proofs.Gaining.{none_gained}
use Rattle.clr_foot.proofs.scenes.Scene.add_with.Goals as goal

pub add_pairs-requires-clause-others : goal.add_pairs-requires-clause-others
add_pairs-requires-clause-others g c = subst (AreAt (setting_in g.V.RowView.content c.args.self.now)) (sym c.as_slice.ensures.value) c.in_ok-near.ensures.are

pub returns-then-not-may_be_paired-clause-ok : goal.returns-then-not-may_be_paired-clause-ok
returns-then-not-may_be_paired-clause-ok g c =
    alone_gains (setting_in g.V.RowView.content c.args.self.now) c.args.rule c.args.version c.may_be_paired.result _ _ c.requires.at c.may_be_paired.ensures
    c.if-not-may_be_paired.true c.in_ok-add_alone.ensures.ok

pub returns-clause-ok : goal.returns-clause-ok
returns-clause-ok g c =
    let s = setting_in g.V.RowView.content c.args.self.now in
    with_gains s c.args.rule c.requires.ready.fit c.args.version _ _ _ _ c.requires.at
    (subst (FindsAll s (IsNeighbour false s.rules c.args.rule (row_of c.args.version))) (sym c.as_slice.ensures.value) c.in_ok-near.ensures)
    c.in_ok-add_alone.ensures.ok c.in_ok-add_pairs.ensures.ok

pub returns-in_err-add_alone-clause-err : goal.returns-in_err-add_alone-clause-err
returns-in_err-add_alone-clause-err g c = on_err _ (none_gained _ _ _ c.in_err-add_alone.ensures.err)

pub returns-in_err-near-clause-err : goal.returns-in_err-near-clause-err
returns-in_err-near-clause-err g c =
    on_err _ (none_with (setting_in g.V.RowView.content c.args.self.now) c.args.rule c.args.version _ _ _ c.requires.at refl c.in_ok-add_alone.ensures.ok)

pub returns-in_err-add_pairs-clause-err : goal.returns-in_err-add_pairs-clause-err
returns-in_err-add_pairs-clause-err g c =
    let s = setting_in g.V.RowView.content c.args.self.now in
    on_err _ (some_with s c.args.rule c.args.version _ _ _ _ c.requires.at
    (subst (FindsAll s (IsNeighbour false s.rules c.args.rule (row_of c.args.version))) (sym c.as_slice.ensures.value) c.in_ok-near.ensures)
    c.in_ok-add_alone.ensures.ok c.in_err-add_pairs.ensures.err)
