use Rattle.std.proofs.Common.{◌≡◌, ◌∙◌, ap, subst, sym}
use Rattle.std.specs.Prelude.{IfOk}
use Rattle.std.specs.Option.{option_copied, option_map}
use Rattle.clr_rows.specs.Contents.{Content, taken_over}
use Rattle.clr_workspaces.specs.Workspaces.{workspace_at}
use Rattle.clr_steps.specs.declared.commands.Reply.TheVariants.{RuleBroken}
use Rattle.clr_steps.specs.Refusals.{broken_where}
use Rattle.clr_judges.specs.Fitting.{FitBoth}
use Rattle.clr_judges.proofs.Changed.{changes_change}
use Rattle.clr_judges.proofs.Contents.{judged_kept, kept_or_kept, kept_or_other, reached}
use Rattle.clr_judges.proofs.Prepared.{one_is}
use Rattle.clr_judges.proofs.Scenes.{served_at, unserved}
use Rattle.clr_judges.proofs.judges.Judge.refresh_need.Goals as goal

pub first_broken_after-requires-clause-finder : goal.first_broken_after-requires-clause-finder
first_broken_after-requires-clause-finder c =
    let p = workspace_at c.args.tree.now.list c.args.above in
    let one = one_is c.args.self.now c.args.tree.now.list c.args.finders.now c.requires.are c.args.above in
    (served_at c.args.self.now p _ c.in-Some.beside.now one (sym c.get.ensures ∙ ap (λ f. option_copied f) c.in-Some.is)).is

pub judge-requires-clause-fit : goal.judge-requires-clause-fit
judge-requires-clause-fit c =
    let w = workspace_at c.args.tree.now.list c.args.at in
    let p = workspace_at c.args.tree.now.list c.args.above in
    subst (FitBoth c.args.self.now w.current) (sym (reached w.current (taken_over p.current c.args.own.now) c.args.changed.now c.requires.changed)) c.requires.fit

pub judge-requires-clause-changes : goal.judge-requires-clause-changes
judge-requires-clause-changes c =
    let w = workspace_at c.args.tree.now.list c.args.at in
    let p = workspace_at c.args.tree.now.list c.args.above in
    changes_change w.current (taken_over p.current c.args.own.now) c.args.changed.now c.requires.changed

pub returns-in-Some : goal.returns-in-Some
returns-in-Some c =
    let w = workspace_at c.args.tree.now.list c.args.at in
    let p = workspace_at c.args.tree.now.list c.args.above in
    let one = one_is c.args.self.now c.args.tree.now.list c.args.finders.now c.requires.are c.args.above in
    let flag = (served_at c.args.self.now p _ c.in-Some.beside.now one (sym c.get.ensures ∙ ap (λ f. option_copied f) c.in-Some.is)).kept in
    judged_kept c.first_broken_after.result w.kept c.args.self.now p.current _ (taken_over p.current c.args.own.now) c.requires.kept
    (kept_or_kept p w.current flag) c.first_broken_after.ensures

pub returns-in-None : goal.returns-in-None
returns-in-None c =
    let w = workspace_at c.args.tree.now.list c.args.at in
    let p = workspace_at c.args.tree.now.list c.args.above in
    let one = one_is c.args.self.now c.args.tree.now.list c.args.finders.now c.requires.are c.args.above in
    let flag = unserved c.args.self.now p _ one (sym c.get.ensures ∙ ap (λ f. option_copied f) c.in-None.is) in
    subst (λ (m : Content). IfOk c.judge.result (λ need. option_map RuleBroken need ≡ broken_where w.kept c.args.self.now m (taken_over p.current c.args.own.now)))
    (sym (kept_or_other p w.current flag))
    (subst (λ (m : Content). IfOk c.judge.result (λ need. option_map RuleBroken need ≡ broken_where w.kept c.args.self.now w.current m))
    (reached w.current (taken_over p.current c.args.own.now) c.args.changed.now c.requires.changed) c.judge.ensures)
