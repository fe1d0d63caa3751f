use Rattle.std.proofs.Common.{◌≡◌, rules, subst}
use Rattle.clr_rows.specs.Contents.{Changes, taken_over}
use Rattle.clr_workspaces.specs.Workspaces.{workspace_at}
use Rattle.clr_judges.specs.KeptContents.{IsPrepared}
use Rattle.clr_judges.proofs.Changed.{own_changes_change}
use Rattle.clr_judges.proofs.Fits.{fit_taken}
use Rattle.clr_judges.proofs.Prepared.{along_mid, where_none}
use Rattle.clr_engine.proofs.commands.merge.Goals as goal

pub prepare-requires-clause-fit : goal.prepare-requires-clause-fit
prepare-requires-clause-fit c =
    fit_taken c.args.judge.now c.args.tree.now.list c.requires.served.fit c.args.at c.requires.child c.unwrap-above.result c.unwrap-above.result c.in-Ok.changed
    c.in-Ok.ensures

pub prepare-requires-clause-changes : goal.prepare-requires-clause-changes
prepare-requires-clause-changes c =
    let ws = c.args.tree.now.list in
    own_changes_change (workspace_at ws c.unwrap-above.result).current (workspace_at ws c.args.at) c.in-Ok.changed c.in-Ok.ensures (search rules)

pub write_above-requires-clause-along : goal.write_above-requires-clause-along
write_above-requires-clause-along c = along_mid c.args.judge.now c.args.tree.now.list c.unwrap-above.result _ c.prepare.new.finders
    (where_none (c.prepare.new.finders ≡ c.args.finders.now) c.in-Ok-None.field-0 c.in-Ok-None.field-0-is c.in-Ok-None.ensures.prepared)

pub returns-in-Ok-None-clause-finders : goal.returns-in-Ok-None-clause-finders
returns-in-Ok-None-clause-finders c =
    let ws = c.args.tree.now.list in
    let above = c.unwrap-above.result in
    c.write_above.ensures.finders c.args.judge.now
    (subst (λ (set : Changes). IsPrepared c.args.judge.now ws above (taken_over (workspace_at ws above).current set) c.prepare.new.finders) c.in-Ok.ensures
    (where_none (c.prepare.new.finders ≡ c.args.finders.now) c.in-Ok-None.field-0 c.in-Ok-None.field-0-is c.in-Ok-None.ensures.prepared))
