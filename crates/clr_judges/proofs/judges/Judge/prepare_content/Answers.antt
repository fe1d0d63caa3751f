use Rattle.std.proofs.Common.{◌≡◌, sym, subst}
use Rattle.std.specs.Prelude.{IfOk, MatchOption}
use Rattle.std.specs.Option.{option_map}
use Rattle.clr_rows.specs.Contents.{Content}
use Rattle.clr_workspaces.specs.Workspaces.{workspace_at}
use Rattle.clr_steps.specs.Refusals.{broken_where}
use Rattle.clr_steps.specs.declared.commands.Reply.TheVariants.{RuleBroken}
use Rattle.clr_judges.specs.KeptContents.{IsPrepared}
use Rattle.clr_judges.specs.Fitting.{FitBoth}
use Rattle.clr_judges.proofs.Changed.{changes_change}
use Rattle.clr_judges.proofs.Contents.{reached}
use Rattle.clr_judges.proofs.judges.Judge.prepare_content.Goals as goal

pub prepare-requires-clause-fit : goal.prepare-requires-clause-fit
prepare-requires-clause-fit c =
    let current = (workspace_at c.args.tree.now.list c.args.at).current in
    let to = c.requires.lead in
    subst (FitBoth c.args.self.now current) (sym (reached current to.next c.args.changed.now to.lead)) to.fit

pub prepare-requires-clause-changes : goal.prepare-requires-clause-changes
prepare-requires-clause-changes c =
    let to = c.requires.lead in
    changes_change (workspace_at c.args.tree.now.list c.args.at).current to.next c.args.changed.now to.lead

pub returns-clause-judged : goal.returns-clause-judged
returns-clause-judged c = λ next lead.
    let w = workspace_at c.args.tree.now.list c.args.at in
    subst (λ (m : Content). IfOk c.prepare.result (λ need. option_map RuleBroken need ≡ broken_where w.kept c.args.self.now w.current m))
    (reached w.current next c.args.changed.now lead) c.prepare.ensures.judged

pub returns-clause-prepared : goal.returns-clause-prepared
returns-clause-prepared c = λ next lead.
    let ws = c.args.tree.now.list in
    subst (λ (m : Content). IfOk c.prepare.result (λ need. MatchOption need (IsPrepared c.args.self.now ws c.args.at m c.prepare.new.finders)
    (λ _. c.prepare.new.finders ≡ c.args.finders.now)))
    (reached (workspace_at ws c.args.at).current next c.args.changed.now lead) c.prepare.ensures.prepared
