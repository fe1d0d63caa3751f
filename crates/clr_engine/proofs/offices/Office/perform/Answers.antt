use Rattle.std.proofs.Common.{List, [], ◌∷◌, refl, subst, sym}
use Rattle.clr_workspaces.specs.Workspaces.{Workspace}
use Rattle.clr_steps.specs.Invariants.{HoldsWhereKept}
use Rattle.clr_steps.specs.Offices.{Office, office_of}
use Rattle.clr_steps.specs.Steps.{IsAnswer}
use Rattle.clr_steps.proofs.NothingNew.{nothing_new_law}
use Rattle.clr_steps.proofs.StepLemmas.{answer_law}
use Rattle.clr_engine.specs.Fitting.{IsAdmitted}
use Rattle.clr_grid.specs.Finders.{AreFinders}
use Rattle.clr_judges.specs.KeptContents.{kept_contents}
use Rattle.clr_engine.proofs.Steps.{fits_after}
use Rattle.clr_engine.proofs.offices.Office.perform.Goals as goal

pub invariant_of-self : goal.invariant_of-self
invariant_of-self c =
    let inside = c.self.inside in
    let o = office_of inside.schema inside.judge inside.tree.list in
    let left = office_of inside.schema inside.judge c.perform-reply.new.tree.list in
    let answered =
    answer_law inside.schema inside.judge inside.tree.list c.perform-reply.ensures.sound c.args.command.now c.perform-reply.result c.perform-reply.new.tree.list
    c.perform-reply.ensures.performed in
    let admitted : IsAdmitted left = record {
      fit = fits_after o c.args.command.now c.perform-reply.result left c.self.invariant.0.fit answered;
    } in
    let same = sym c.sweep.ensures.contents in (
      subst (λ (ws : List Workspace). IsAdmitted (office_of inside.schema inside.judge ws)) same admitted,
      subst (λ (ws : List Workspace). AreFinders inside.judge (kept_contents ws) c.perform-reply.new.finders) same c.perform-reply.ensures.finders,
      record { deltas = c.sweep.ensures.deltas; counts = c.sweep.ensures.counts },
      λ flag. subst (λ (ws : List Workspace). HoldsWhereKept (office_of inside.schema inside.judge ws)) same
          ((nothing_new_law o (c.args.command.now ∷ []) (c.perform-reply.result ∷ []) left (left, answered, refl)).rules (c.self.invariant.3 flag)),
    )

pub returns-clause-answer : goal.returns-clause-answer
returns-clause-answer c =
    let inside = c.self.inside in
    let answered =
    answer_law inside.schema inside.judge inside.tree.list c.perform-reply.ensures.sound c.args.command.now c.perform-reply.result c.perform-reply.new.tree.list
    c.perform-reply.ensures.performed in
    subst (λ (o : Office). IsAnswer o c.args.command.now c.perform-reply.result (office_of inside.schema inside.judge c.sweep.new.self.list)) c.self.view_is
    (subst (λ (ws : List Workspace). IsAnswer (office_of inside.schema inside.judge inside.tree.list) c.args.command.now c.perform-reply.result
    (office_of inside.schema inside.judge ws)) (sym c.sweep.ensures.contents) answered)

pub returns-clause-nothing_new : goal.returns-clause-nothing_new
returns-clause-nothing_new c =
    nothing_new_law c.args.self.now (c.args.command.now ∷ []) (c.perform-reply.result ∷ []) _ (_, returns-clause-answer c, refl)
