use Rattle.std.proofs.Common.{◌∙◌, sym}
use Rattle.clr_workspaces.specs.Workspaces.{workspace_at}
use Rattle.clr_judges.proofs.Fits.{fit_base}
use Rattle.clr_judges.proofs.Prepared.{not_kept}
use Rattle.clr_judges.proofs.judges.Judge.prepare_base.Goals as goal

pub returns-then-not-kept-clause-prepared : goal.returns-then-not-kept-clause-prepared
returns-then-not-kept-clause-prepared c =
    not_kept c.args.self.now c.args.tree.now.list c.args.finders.now c.requires.served.are c.args.at _ (sym c.kept.ensures ∙ c.if-not-kept.true)

pub prepare_content-requires-clause-lead : goal.prepare_content-requires-clause-lead
prepare_content-requires-clause-lead c =
    let w = workspace_at c.args.tree.now.list c.args.at in record {
      next = w.base;
      lead = c.in_ok-changed.ensures;
      fit = fit_base c.args.self.now c.args.tree.now.list c.requires.served.fit c.args.at c.requires.child;
    }

pub returns-clause-judged : goal.returns-clause-judged
returns-clause-judged c =
    let w = workspace_at c.args.tree.now.list c.args.at in
    c.prepare_content.ensures.judged (w.base) (c.in_ok-changed.ensures)

pub returns-clause-prepared : goal.returns-clause-prepared
returns-clause-prepared c =
    let w = workspace_at c.args.tree.now.list c.args.at in
    c.prepare_content.ensures.prepared (w.base) (c.in_ok-changed.ensures)
