use Rattle.std.proofs.Common.{◌∙◌, ap, subst, sym}
use Rattle.clr_rows.specs.Contents.{changes}
use Rattle.clr_workspaces.specs.Workspaces.{workspace_at}
use Rattle.clr_steps.specs.Refusals.{first_newly_broken}
use Rattle.clr_judges.specs.Fitting.{FitBoth}
use Rattle.clr_judges.proofs.Changed.{changes_change}
use Rattle.clr_judges.proofs.Contents.{reached}
use Rattle.clr_judges.proofs.judges.Judge.finder_or_need_beside.Goals as goal

pub first_broken_after-requires-clause-changes : goal.first_broken_after-requires-clause-changes
first_broken_after-requires-clause-changes c =
    let w = workspace_at c.args.tree.now.list c.args.at in
    let p = workspace_at c.args.tree.now.list c.args.above in
    changes_change p.current w.current c.in_ok-changed.changed
    (c.in_ok-changed.ensures ∙ (λ i. changes (c.in_ok-below.ensures i) (c.in_ok-rows.ensures i)))

pub first_broken_after-requires-clause-fit : goal.first_broken_after-requires-clause-fit
first_broken_after-requires-clause-fit c =
    let w = workspace_at c.args.tree.now.list c.args.at in
    let p = workspace_at c.args.tree.now.list c.args.above in
    subst (FitBoth c.args.self.now p.current) (sym (reached p.current w.current c.in_ok-changed.changed
    (c.in_ok-changed.ensures ∙ (λ i. changes (c.in_ok-below.ensures i) (c.in_ok-rows.ensures i))))) c.requires.fit

pub returns-in-Some-clause-need : goal.returns-in-Some-clause-need
returns-in-Some-clause-need c =
    let w = workspace_at c.args.tree.now.list c.args.at in
    let p = workspace_at c.args.tree.now.list c.args.above in
    sym c.in-Some.is ∙ c.in_ok-need.ensures ∙ ap (first_newly_broken c.args.self.now p.current) (reached p.current w.current c.in_ok-changed.changed
    (c.in_ok-changed.ensures ∙ (λ i. changes (c.in_ok-below.ensures i) (c.in_ok-rows.ensures i))))

pub returns-clause-need : goal.returns-clause-need
returns-clause-need c =
    let w = workspace_at c.args.tree.now.list c.args.at in
    let p = workspace_at c.args.tree.now.list c.args.above in
    sym c.in-None.is ∙ c.in_ok-need.ensures ∙ ap (first_newly_broken c.args.self.now p.current) (reached p.current w.current c.in_ok-changed.changed
    (c.in_ok-changed.ensures ∙ (λ i. changes (c.in_ok-below.ensures i) (c.in_ok-rows.ensures i))))
