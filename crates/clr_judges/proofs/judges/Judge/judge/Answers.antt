use Rattle.std.proofs.Common.{◌∙◌, ap, refl, sym}
use Rattle.std.specs.Option.{option_copied}
use Rattle.clr_rows.specs.Contents.{taken_over}
use Rattle.clr_workspaces.specs.Workspaces.{workspace_at}
use Rattle.clr_steps.specs.Refusals.{broken_where}
use Rattle.clr_judges.proofs.Contents.{judged_kept}
use Rattle.clr_judges.proofs.Prepared.{one_is}
use Rattle.clr_judges.proofs.Scenes.{served_at, unserved}
use Rattle.clr_judges.proofs.judges.Judge.judge.Goals as goal

pub returns-in-None : goal.returns-in-None
returns-in-None c =
    let w = workspace_at c.args.tree.now.list c.args.at in
    let one = one_is c.args.self.now c.args.tree.now.list c.args.finders.now c.requires.are c.args.at in
    let flag = unserved c.args.self.now w _ one (sym c.get.ensures ∙ ap (λ f. option_copied f) c.in-None.is) in
    sym (ap (λ kept. broken_where kept c.args.self.now w.current (taken_over w.current c.args.changed.now)) flag)

pub first_broken_after-requires-clause-finder : goal.first_broken_after-requires-clause-finder
first_broken_after-requires-clause-finder c =
    let w = workspace_at c.args.tree.now.list c.args.at in
    let one = one_is c.args.self.now c.args.tree.now.list c.args.finders.now c.requires.are c.args.at in
    (served_at c.args.self.now w _ c.in-Some.finder.now one (sym c.get.ensures ∙ ap (λ f. option_copied f) c.in-Some.is)).is

pub returns-in-Some : goal.returns-in-Some
returns-in-Some c =
    let w = workspace_at c.args.tree.now.list c.args.at in
    let one = one_is c.args.self.now c.args.tree.now.list c.args.finders.now c.requires.are c.args.at in
    let flag = (served_at c.args.self.now w _ c.in-Some.finder.now one (sym c.get.ensures ∙ ap (λ f. option_copied f) c.in-Some.is)).kept in
    judged_kept c.first_broken_after.result w.kept c.args.self.now w.current w.current (taken_over w.current c.args.changed.now) flag refl
    c.first_broken_after.ensures
