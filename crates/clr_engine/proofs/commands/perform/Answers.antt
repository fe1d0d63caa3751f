use Rattle.std.proofs.Common.{sym, ap, subst, ◌∙◌}
use Rattle.clr_workspaces.specs.Workspaces.{find}
use Rattle.clr_steps.specs.Steps.{TakesNoMemory}
use Rattle.clr_grid.specs.Finders.{AreFinders}
use Rattle.clr_engine.proofs.Dispatch as below
use Rattle.clr_judges.proofs.Prepared.{along}
use Rattle.clr_engine.proofs.Served.{after_marking, after_unmarking, served, stays}
use Rattle.clr_engine.proofs.commands.perform.Goals as goal

pub perform_on_live-requires-clause-served : goal.perform_on_live-requires-clause-served
perform_on_live-requires-clause-served c = served c.args.schema.now c.args.judge.now c.args.tree.now.list c.find.ensures.sound c.requires.admitted
    c.args.finders.now c.requires.are

pub apply-requires-clause-served : goal.apply-requires-clause-served
apply-requires-clause-served c = served c.args.schema.now c.args.judge.now c.args.tree.now.list c.find.ensures.sound c.requires.admitted c.args.finders.now
    c.requires.are

pub roll_to-requires-clause-served : goal.roll_to-requires-clause-served
roll_to-requires-clause-served c = served c.args.schema.now c.args.judge.now c.args.tree.now.list c.find.ensures.sound c.requires.admitted c.args.finders.now
    c.requires.are

pub roll_all-requires-clause-served : goal.roll_all-requires-clause-served
roll_all-requires-clause-served c = served c.args.schema.now c.args.judge.now c.args.tree.now.list c.find.ensures.sound c.requires.admitted c.args.finders.now
    c.requires.are

pub refresh-requires-clause-served : goal.refresh-requires-clause-served
refresh-requires-clause-served c = served c.args.schema.now c.args.judge.now c.args.tree.now.list c.find.ensures.sound c.requires.admitted c.args.finders.now
    c.requires.are

pub merge-requires-clause-served : goal.merge-requires-clause-served
merge-requires-clause-served c = served c.args.schema.now c.args.judge.now c.args.tree.now.list c.find.ensures.sound c.requires.admitted c.args.finders.now
    c.requires.are

pub resolve-requires-clause-served : goal.resolve-requires-clause-served
resolve-requires-clause-served c = served c.args.schema.now c.args.judge.now c.args.tree.now.list c.find.ensures.sound c.requires.admitted c.args.finders.now
    c.requires.are

pub hold-requires-clause-served : goal.hold-requires-clause-served
hold-requires-clause-served c = served c.args.schema.now c.args.judge.now c.args.tree.now.list c.find.ensures.sound c.requires.admitted c.args.finders.now
    c.requires.are

pub remove-requires-clause-along : goal.remove-requires-clause-along
remove-requires-clause-along c = along c.args.judge.now c.args.tree.now.list c.args.finders.now c.requires.are

pub release-requires-clause-along : goal.release-requires-clause-along
release-requires-clause-along c = along c.args.judge.now c.args.tree.now.list c.args.finders.now c.requires.are

pub returns-in-Remove : goal.returns-in-Remove
returns-in-Remove c =
    let there = ap (find c.args.tree.now.list) (sym c.name_in.ensures) ∙ sym c.find.ensures.found ∙ c.in-Some.is in
    record {
      performed = below.remove_below c.args.schema.now c.args.judge.now c.args.tree.now.list c.in-Some.at c.if-at-eq0.false c.remove.result
          c.remove.new.tree.list c.args.command.now there _ _ c.in-Remove.is c.remove.ensures.performed;
      no_memory = λ _. c.remove.ensures.no_memory;
      finders = c.remove.ensures.finders c.args.judge.now c.requires.are;
      sound = c.find.ensures.sound;
    }

pub returns-in-Mark : goal.returns-in-Mark
returns-in-Mark c =
    let there = ap (find c.args.tree.now.list) (sym c.name_in.ensures) ∙ sym c.find.ensures.found ∙ c.in-Some.is in
    record {
      performed = below.mark_below c.args.schema.now c.args.judge.now c.args.tree.now.list c.in-Some.at c.if-at-eq0.false c.mark.result c.mark.new.tree.list
          c.args.command.now there _ _ _ _ c.as_str-in-Mark.ensures c.in-Mark.is c.mark.ensures;
      no_memory = λ takes. absurd (subst TakesNoMemory c.in-Mark.is takes);
      finders = subst (λ cs. AreFinders c.args.judge.now cs c.args.finders.now)
          (sym (stays _ c.args.tree.now.list _ c.mark.new.tree.list _ c.mark.ensures (after_marking c.args.tree.now.list c.in-Some.at _))) c.requires.are;
      sound = c.find.ensures.sound;
    }

pub returns-in-Unmark : goal.returns-in-Unmark
returns-in-Unmark c =
    let there = ap (find c.args.tree.now.list) (sym c.name_in.ensures) ∙ sym c.find.ensures.found ∙ c.in-Some.is in
    record {
      performed = below.unmark_below c.args.schema.now c.args.judge.now c.args.tree.now.list c.in-Some.at c.if-at-eq0.false c.unmark.result
          c.unmark.new.tree.list c.args.command.now there _ _ _ _ c.as_str-in-Unmark.ensures c.in-Unmark.is c.unmark.ensures.performed;
      no_memory = λ _. c.unmark.ensures.no_memory;
      finders = subst (λ cs. AreFinders c.args.judge.now cs c.args.finders.now)
          (sym (stays _ c.args.tree.now.list _ c.unmark.new.tree.list _ c.unmark.ensures.performed (after_unmarking c.args.tree.now.list c.in-Some.at _)))
          c.requires.are;
      sound = c.find.ensures.sound;
    }

pub returns-in-RollTo : goal.returns-in-RollTo
returns-in-RollTo c =
    let there = ap (find c.args.tree.now.list) (sym c.name_in.ensures) ∙ sym c.find.ensures.found ∙ c.in-Some.is in
    record {
      performed = below.roll_to_below c.args.schema.now c.args.judge.now c.args.tree.now.list c.in-Some.at c.if-at-eq0.false c.roll_to.result
          c.roll_to.new.tree.list c.args.command.now there _ _ _ _ c.as_str-in-RollTo.ensures c.in-RollTo.is c.roll_to.ensures.performed;
      no_memory = λ takes. absurd (subst TakesNoMemory c.in-RollTo.is takes);
      finders = c.roll_to.ensures.finders;
      sound = c.find.ensures.sound;
    }

pub returns-in-RollAll : goal.returns-in-RollAll
returns-in-RollAll c =
    let there = ap (find c.args.tree.now.list) (sym c.name_in.ensures) ∙ sym c.find.ensures.found ∙ c.in-Some.is in
    record {
      performed = below.roll_all_below c.args.schema.now c.args.judge.now c.args.tree.now.list c.in-Some.at c.if-at-eq0.false c.roll_all.result
          c.roll_all.new.tree.list c.args.command.now there _ _ c.in-RollAll.is c.roll_all.ensures.performed;
      no_memory = λ takes. absurd (subst TakesNoMemory c.in-RollAll.is takes);
      finders = c.roll_all.ensures.finders;
      sound = c.find.ensures.sound;
    }

pub returns-in-Refresh : goal.returns-in-Refresh
returns-in-Refresh c =
    let there = ap (find c.args.tree.now.list) (sym c.name_in.ensures) ∙ sym c.find.ensures.found ∙ c.in-Some.is in
    record {
      performed = below.refresh_below c.args.schema.now c.args.judge.now c.args.tree.now.list c.in-Some.at c.if-at-eq0.false c.refresh.result
          c.refresh.new.tree.list c.args.command.now there _ _ c.in-Refresh.is c.refresh.ensures.performed;
      no_memory = λ takes. absurd (subst TakesNoMemory c.in-Refresh.is takes);
      finders = c.refresh.ensures.finders;
      sound = c.find.ensures.sound;
    }

pub returns-in-Merge : goal.returns-in-Merge
returns-in-Merge c =
    let there = ap (find c.args.tree.now.list) (sym c.name_in.ensures) ∙ sym c.find.ensures.found ∙ c.in-Some.is in
    record {
      performed = below.merge_below c.args.schema.now c.args.judge.now c.args.tree.now.list c.in-Some.at c.if-at-eq0.false c.merge.result c.merge.new.tree.list
          c.args.command.now there _ _ _ c.in-Merge.is c.merge.ensures.performed;
      no_memory = λ takes. absurd (subst TakesNoMemory c.in-Merge.is takes);
      finders = c.merge.ensures.finders;
      sound = c.find.ensures.sound;
    }

pub returns-in-Resolve : goal.returns-in-Resolve
returns-in-Resolve c =
    let there = ap (find c.args.tree.now.list) (sym c.name_in.ensures) ∙ sym c.find.ensures.found ∙ c.in-Some.is in
    record {
      performed = below.resolve_below c.args.schema.now c.args.judge.now c.args.tree.now.list c.in-Some.at c.if-at-eq0.false c.resolve.result
          c.resolve.new.tree.list c.args.command.now there _ _ _ _ c.in-Resolve.is c.resolve.ensures.performed;
      no_memory = λ takes. absurd (subst TakesNoMemory c.in-Resolve.is takes);
      finders = c.resolve.ensures.finders;
      sound = c.find.ensures.sound;
    }

pub returns-in-Hold : goal.returns-in-Hold
returns-in-Hold c =
    let there = ap (find c.args.tree.now.list) (sym c.name_in.ensures) ∙ sym c.find.ensures.found ∙ c.in-Some.is in
    record {
      performed = below.hold_below c.args.schema.now c.args.judge.now c.args.tree.now.list c.in-Some.at c.if-at-eq0.false c.hold.result c.hold.new.tree.list
          c.args.command.now there _ _ c.in-Hold.is c.hold.ensures.performed;
      no_memory = λ takes. absurd (subst TakesNoMemory c.in-Hold.is takes);
      finders = c.hold.ensures.finders;
      sound = c.find.ensures.sound;
    }

pub returns-in-Release : goal.returns-in-Release
returns-in-Release c =
    let there = ap (find c.args.tree.now.list) (sym c.name_in.ensures) ∙ sym c.find.ensures.found ∙ c.in-Some.is in
    record {
      performed = below.release_below c.args.schema.now c.args.judge.now c.args.tree.now.list c.in-Some.at c.if-at-eq0.false c.release.result
          c.release.new.tree.list c.args.command.now there _ _ c.in-Release.is c.release.ensures.performed;
      no_memory = λ _. c.release.ensures.no_memory;
      finders = c.release.ensures.finders c.args.judge.now c.requires.are;
      sound = c.find.ensures.sound;
    }
