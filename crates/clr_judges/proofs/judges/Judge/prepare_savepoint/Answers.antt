use Rattle.std.proofs.Common.{◌∙◌, sym}
use Rattle.clr_workspaces.specs.Marks.{mark_at, saved_content}
use Rattle.clr_workspaces.specs.Workspaces.{workspace_at}
use Rattle.clr_judges.proofs.Fits.{fit_saved}
use Rattle.clr_judges.proofs.Prepared.{not_kept}
use Rattle.clr_judges.proofs.judges.Judge.prepare_savepoint.Goals as goal

pub returns-then-not-kept-clause-prepared : goal.returns-then-not-kept-clause-prepared
returns-then-not-kept-clause-prepared c =
    not_kept c.args.self.now c.args.tree.now.list c.args.finders.now c.requires.served.are c.args.at _ (sym c.kept.ensures ∙ c.if-not-kept.true)

pub prepare_content-requires-clause-lead : goal.prepare_content-requires-clause-lead
prepare_content-requires-clause-lead c =
    let w = workspace_at c.args.tree.now.list c.args.at in record {
      next = saved_content (mark_at w.marks c.args.mark);
      lead = c.in_ok-changed.ensures;
      fit = fit_saved c.args.self.now c.args.tree.now.list c.requires.served.fit c.args.at c.requires.child c.args.mark;
    }

pub returns-clause-judged : goal.returns-clause-judged
returns-clause-judged c =
    let w = workspace_at c.args.tree.now.list c.args.at in
    c.prepare_content.ensures.judged (saved_content (mark_at w.marks c.args.mark)) (c.in_ok-changed.ensures)

pub returns-clause-prepared : goal.returns-clause-prepared
returns-clause-prepared c =
    let w = workspace_at c.args.tree.now.list c.args.at in
    c.prepare_content.ensures.prepared (saved_content (mark_at w.marks c.args.mark)) (c.in_ok-changed.ensures)
