use Rattle.std.proofs.Common.{◌∙◌, ap, sym}
use Rattle.std.specs.Option.{option_copied}
use Rattle.clr_rows.specs.Contents.{no_rows}
use Rattle.clr_workspaces.specs.Workspaces.{workspace_at}
use Rattle.clr_judges.proofs.Contents.{found_beside, kept_or_kept, kept_or_other}
use Rattle.clr_judges.proofs.Found.{found_alone}
use Rattle.clr_judges.proofs.Fits.{fit_current, fit_two}
use Rattle.clr_judges.proofs.Prepared.{one_is}
use Rattle.clr_judges.proofs.Scenes.{served_at, unserved}
use Rattle.clr_judges.proofs.judges.Judge.finder_or_need_to_hold.Goals as goal

pub finder_or_need_beside-requires-clause-finder : goal.finder_or_need_beside-requires-clause-finder
finder_or_need_beside-requires-clause-finder c =
    let p = workspace_at c.args.tree.now.list c.args.above in
    let one = one_is c.args.self.now c.args.tree.now.list c.args.finders.now c.requires.served.are c.args.above in
    (served_at c.args.self.now p _ c.in-Some.beside.now one (sym c.get.ensures ∙ ap (λ f. option_copied f) c.in-Some.is)).is

pub finder_or_need_beside-requires-clause-fit : goal.finder_or_need_beside-requires-clause-fit
finder_or_need_beside-requires-clause-fit c = fit_two c.args.self.now c.args.tree.now.list c.requires.served.fit c.args.above c.args.at

pub finder_or_need_now-requires-clause-fit : goal.finder_or_need_now-requires-clause-fit
finder_or_need_now-requires-clause-fit c = fit_current c.args.self.now c.args.tree.now.list c.requires.served.fit c.args.at

pub returns-in-Some-clause-need : goal.returns-in-Some-clause-need
returns-in-Some-clause-need c =
    let p = workspace_at c.args.tree.now.list c.args.above in
    let w = workspace_at c.args.tree.now.list c.args.at in
    let one = one_is c.args.self.now c.args.tree.now.list c.args.finders.now c.requires.served.are c.args.above in
    let flag = (served_at c.args.self.now p _ c.in-Some.beside.now one (sym c.get.ensures ∙ ap (λ f. option_copied f) c.in-Some.is)).kept in
    found_beside c.finder_or_need_beside.result c.args.self.now p.current _ w.current (kept_or_kept p no_rows flag) c.finder_or_need_beside.ensures.need

pub returns-in-None-clause-need : goal.returns-in-None-clause-need
returns-in-None-clause-need c =
    let p = workspace_at c.args.tree.now.list c.args.above in
    let w = workspace_at c.args.tree.now.list c.args.at in
    let one = one_is c.args.self.now c.args.tree.now.list c.args.finders.now c.requires.served.are c.args.above in
    let flag = unserved c.args.self.now p _ one (sym c.get.ensures ∙ ap (λ f. option_copied f) c.in-None.is) in
    found_beside c.finder_or_need_now.result c.args.self.now no_rows _ w.current (kept_or_other p no_rows flag)
    (found_alone c.finder_or_need_now.result c.args.self.now w.current c.finder_or_need_now.ensures.need)
