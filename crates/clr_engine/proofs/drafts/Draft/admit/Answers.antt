use Rattle.std.proofs.Common.{List, ap, subst, sym, ◌∙◌}
use Rattle.std.specs.Result.{result_err}
use Rattle.clr_workspaces.specs.Workspaces.{Workspace}
use Rattle.clr_grid.specs.Finders.{AreFinders}
use Rattle.clr_judges.specs.KeptContents.{kept_contents}
use Rattle.clr_steps.specs.Invariants.{HoldsWhereKept}
use Rattle.clr_steps.specs.Offices.{office_of}
use Rattle.clr_engine.specs.Fitting.{IsAdmitted}
use Rattle.clr_engine.proofs.Unheld.{holds_of_none_known, unheld_is}
use Rattle.clr_engine.proofs.drafts.Draft.admit.Goals as goal

pub finders-requires : goal.finders-requires
finders-requires c = let fit = c.self.invariant in record { tables = c.self.inside.schema; book = fit.book; rows = fit.rows }

pub of_parts-requires : goal.of_parts-requires
of_parts-requires c =
    let inside = c.self.inside in
    let ws = inside.tree.list in
    let same = sym c.sweep.ensures.contents in
    let admitted : IsAdmitted (office_of inside.schema inside.judge ws) = record {
      fit = c.self.invariant;
    } in
    let are : AreFinders inside.judge (kept_contents ws) c.in-Ok-Ok.finders = rw c.in-Ok-Ok.field-0-is at c.in-Ok-Ok.ensures.finders in
    record {
      admitted = subst (λ (ws : List Workspace). IsAdmitted (office_of inside.schema inside.judge ws)) same admitted;
      are = subst (λ (ws : List Workspace). AreFinders inside.judge (kept_contents ws) c.in-Ok-Ok.finders) same are;
      swept = record { deltas = c.sweep.ensures.deltas; counts = c.sweep.ensures.counts };
      held = λ flag. subst (λ (ws : List Workspace). HoldsWhereKept (office_of inside.schema inside.judge ws)) same
          (holds_of_none_known inside.schema inside.judge c.args.known.now ws c.finders.ensures.sound (sym c.is_empty.ensures ∙ flag)
          (sym c.in-Ok-Ok.ensures.first ∙ ap result_err c.in-Ok-Ok.field-0-is));
    }

pub returns-in-Ok-Ok-clause-office : goal.returns-in-Ok-Ok-clause-office
returns-in-Ok-Ok-clause-office c =
    let inside = c.self.inside in
    c.of_parts.ensures ∙ ap (office_of inside.schema inside.judge) c.sweep.ensures.contents ∙ c.self.view_is

pub returns-in-Ok-Ok-clause-held : goal.returns-in-Ok-Ok-clause-held
returns-in-Ok-Ok-clause-held c =
    let inside = c.self.inside in
    sym (unheld_is inside.schema inside.judge c.args.known.now inside.tree.list c.args.self c.finders.ensures.sound c.self.view_is)
    ∙ sym c.in-Ok-Ok.ensures.first ∙ ap result_err c.in-Ok-Ok.field-0-is

pub returns-in-Ok-Err-clause-fault : goal.returns-in-Ok-Err-clause-fault
returns-in-Ok-Err-clause-fault c =
    let inside = c.self.inside in
    sym (unheld_is inside.schema inside.judge c.args.known.now inside.tree.list c.args.self c.finders.ensures.sound c.self.view_is)
    ∙ sym c.in-Ok-Err.ensures.first ∙ ap result_err c.in-Ok-Err.field-0-is
