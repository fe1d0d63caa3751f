use Rattle.std.proofs.Common.{◌∙◌, not, None, Some, Ok, refl, ap, sym}
use Rattle.clr_rows.specs.Contents.{no_rows}
use Rattle.clr_workspaces.specs.Workspaces.{workspace_at}
use Rattle.clr_judges.specs.Fitting.{kept_or}
use Rattle.clr_judges.proofs.Contents.{judged_kept}
use Rattle.clr_judges.proofs.Prepared.{within}
use Rattle.clr_judges.proofs.Found.{after_holding}
use Rattle.clr_judges.proofs.judges.Judge.prepare_hold.Goals as goal

pub put-requires : goal.put-requires
put-requires c = within c.args.self.now c.args.tree.now.list c.args.finders.now c.requires.served.are c.args.at c.requires.within

pub returns-in-Ok-clause-judged : goal.returns-in-Ok-clause-judged
returns-in-Ok-clause-judged c =
    let w = workspace_at c.args.tree.now.list c.args.at in
    let before = kept_or (workspace_at c.args.tree.now.list c.args.above) no_rows in
    judged_kept (Ok None) (not w.kept) c.args.self.now before before w.current (ap not (sym c.kept.ensures ∙ c.if-kept.false)) refl
    (rw c.in-Ok.is at c.in_ok-found.ensures.need)

pub returns-in-Ok-clause-prepared : goal.returns-in-Ok-clause-prepared
returns-in-Ok-clause-prepared c =
    after_holding c.args.self.now c.args.tree.now.list c.args.at c.args.finders.now c.put.new.self c.in-Ok.finder c.requires.served.are
    (rw c.in-Ok.is at c.in_ok-found.ensures.finder) c.put.ensures

pub returns-in-Err-clause-judged : goal.returns-in-Err-clause-judged
returns-in-Err-clause-judged c =
    let w = workspace_at c.args.tree.now.list c.args.at in
    let before = kept_or (workspace_at c.args.tree.now.list c.args.above) no_rows in
    judged_kept (Ok (Some c.in-Err.need)) (not w.kept) c.args.self.now before before w.current (ap not (sym c.kept.ensures ∙ c.if-kept.false)) refl
    (rw c.in-Err.is at c.in_ok-found.ensures.need)
