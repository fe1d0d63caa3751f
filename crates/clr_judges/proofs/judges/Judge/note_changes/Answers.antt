use Rattle.std.proofs.Common.{subst, sym}
use Rattle.clr_rows.specs.Contents.{taken_over}
use Rattle.clr_workspaces.specs.Workspaces.{workspace_at}
use Rattle.clr_grid.specs.Finders.{FitAfter, HasNoted, IsChangedAt}
use Rattle.clr_deltas.proofs.Answered.{on_ok}
use Rattle.clr_judges.proofs.Fits.{next_fits}
use Rattle.clr_grid.proofs.Indexes.{fit_after}
use Rattle.clr_judges.proofs.Prepared.{free, prepared, within}
use Rattle.clr_judges.proofs.judges.Judge.note_changes.Goals as goal

pub note-requires-clause-within : goal.note-requires-clause-within
note-requires-clause-within c = within c.args.self.now c.args.tree.now.list c.args.finders.now c.requires.are c.args.at c.requires.within

pub note-requires-clause-fit : goal.note-requires-clause-fit
note-requires-clause-fit c =
    let current = (workspace_at c.args.tree.now.list c.args.at).current in
    let next = taken_over current c.args.changed.now in
    subst (λ book. FitAfter book c.args.changed.now) (sym c.self.view_is) (fit_after c.args.self.now current c.args.changed.now
    (next_fits c.args.self.now current next c.requires.fit))

pub note-requires-clause-free : goal.note-requires-clause-free
note-requires-clause-free c = free c.args.self.now c.args.tree.now.list c.args.finders.now c.requires.are c.args.at

pub returns-clause-ok : goal.returns-clause-ok
returns-clause-ok c = on_ok c.note.result _ _
    (λ h. prepared c.args.self.now c.args.tree.now.list c.args.finders.now c.requires.are c.args.at c.args.changed.now c.note.new.self
    (subst (λ book. IsChangedAt (HasNoted book c.args.changed.now) c.args.at c.args.finders.now c.note.new.self) c.self.view_is h)) c.note.ensures.ok
