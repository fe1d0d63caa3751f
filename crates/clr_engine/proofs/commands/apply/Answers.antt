use Rattle.std.proofs.Common.{◌≡◌, ap, refl, sym, subst, ◌∙◌}
use Rattle.std.specs.Option.{option_map}
use Rattle.clr_rows.specs.Contents.{Content, changes, taken_over}
use Rattle.clr_change.specs.Edits.{after_edits, first_bad_edit}
use Rattle.clr_deltas.proofs.Answered.{on_ok}
use Rattle.clr_workspaces.specs.Workspaces.{workspace_at}
use Rattle.clr_steps.specs.Laws.{refused}
use Rattle.clr_steps.specs.declared.commands.Reply.TheVariants.{RuleBroken}
use Rattle.clr_workspaces.specs.Operations.{after_write, with_current}
use Rattle.clr_judges.specs.Fitting.{FitBoth}
use Rattle.clr_engine.proofs.Answered.{edits_break, ends}
use Rattle.clr_judges.proofs.Changed.{changes_change}
use Rattle.clr_judges.proofs.Contents.{reached}
use Rattle.clr_engine.proofs.Steps.{fit_edited}
use Rattle.clr_judges.proofs.Kept.{other_content}
use Rattle.clr_judges.proofs.Prepared.{finished, where_none, within_mid}
use Rattle.clr_engine.proofs.commands.apply.Goals as goal

pub prepare-requires-clause-fit : goal.prepare-requires-clause-fit
prepare-requires-clause-fit c =
    let content = (workspace_at c.args.tree.now.list c.args.at).current in
    let edits = c.args.edits.now in
    let changed = c.in-Ok.ensures.changes ∙ ap (λ (m : Content). changes m (after_edits m edits)) c.view.ensures in
    let passed = sym (ap (λ (m : Content). first_bad_edit c.args.schema.now m 1 edits) c.view.ensures) ∙ c.in-Ok.ensures.passed in
    subst (FitBoth c.args.judge.now content) (sym (reached content (after_edits content edits) c.in-Ok.changed changed))
    (fit_edited c.args.schema.now c.args.judge.now c.args.tree.now.list c.requires.fit c.args.at edits passed)

pub prepare-requires-clause-changes : goal.prepare-requires-clause-changes
prepare-requires-clause-changes c =
    let content = (workspace_at c.args.tree.now.list c.args.at).current in
    let edits = c.args.edits.now in
    changes_change content (after_edits content edits) c.in-Ok.changed
    (c.in-Ok.ensures.changes ∙ ap (λ (m : Content). changes m (after_edits m edits)) c.view.ensures)

pub returns-in-Ok-None-clause-performed : goal.returns-in-Ok-None-clause-performed
returns-in-Ok-None-clause-performed c =
    let ws = c.args.tree.now.list in
    let w = workspace_at ws c.args.at in
    let edits = c.args.edits.now in
    let changed = c.in-Ok.ensures.changes ∙ ap (λ (m : Content). changes m (after_edits m edits)) c.view.ensures in
    let passed = sym (ap (λ (m : Content). first_bad_edit c.args.schema.now m 1 edits) c.view.ensures) ∙ c.in-Ok.ensures.passed in
    ends _ ws _ c.write_all-done.new.self.list c.write_all-done.result c.finish.result
    (edits_break _ w.kept w.kept c.args.judge.now w.current (after_edits w.current edits) _ c.in-Ok-None.field-0 passed refl
    (reached w.current (after_edits w.current edits) c.in-Ok.changed changed) c.in-Ok-None.ensures.judged
    ∙ ap (option_map RuleBroken) c.in-Ok-None.field-0-is)
    (on_ok c.write_all-done.result _ _ (λ is. is ∙ ap (after_write ws c.args.at) changed) c.write_all-done.ensures.ok) c.write_all-done.ensures.err
    c.finish.ensures.ok c.finish.ensures.err

pub returns-in-Ok-Some-clause-performed : goal.returns-in-Ok-Some-clause-performed
returns-in-Ok-Some-clause-performed c =
    let ws = c.args.tree.now.list in
    let w = workspace_at ws c.args.at in
    let edits = c.args.edits.now in
    let changed = c.in-Ok.ensures.changes ∙ ap (λ (m : Content). changes m (after_edits m edits)) c.view.ensures in
    let passed = sym (ap (λ (m : Content). first_bad_edit c.args.schema.now m 1 edits) c.view.ensures) ∙ c.in-Ok.ensures.passed in
    refused
    (edits_break _ w.kept w.kept c.args.judge.now w.current (after_edits w.current edits) _ c.in-Ok-Some.field-0 passed refl
    (reached w.current (after_edits w.current edits) c.in-Ok.changed changed) c.in-Ok-Some.ensures.judged
    ∙ ap (option_map RuleBroken) c.in-Ok-Some.field-0-is) refl

pub finish-requires : goal.finish-requires
finish-requires c = within_mid c.args.judge.now c.args.tree.now.list c.args.at _ c.prepare.new.finders (where_none (c.prepare.new.finders
    ≡ c.args.finders.now) c.in-Ok-None.field-0 c.in-Ok-None.field-0-is c.in-Ok-None.ensures.prepared) c.args.at c.requires.within

pub returns-in-Ok-None-clause-finders : goal.returns-in-Ok-None-clause-finders
returns-in-Ok-None-clause-finders c =
    let ws = c.args.tree.now.list in
    finished c.args.judge.now ws c.args.at _ c.prepare.new.finders (where_none (c.prepare.new.finders ≡ c.args.finders.now) c.in-Ok-None.field-0
    c.in-Ok-None.field-0-is c.in-Ok-None.ensures.prepared) c.finish.new.finders _ c.write_all-done.new.self.list
    (other_content ws c.args.at (λ w. with_current (taken_over w.current c.in-Ok.changed) w)
    (taken_over (workspace_at ws c.args.at).current c.in-Ok.changed) refl refl)
    c.write_all-done.result c.write_all-done.ensures.ok c.write_all-done.ensures.err c.finish.ensures.settled c.finish.ensures.forgotten
