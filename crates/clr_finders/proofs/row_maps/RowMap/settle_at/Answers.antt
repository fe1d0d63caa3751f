use Rattle.std.proofs.Common.{◌∙◌, ap, sym, refl, Some, None, is_some}
use Rattle.std.proofs.lemmas.Bool.{false≢true}
use Rattle.std.specs.FinMap as finite
use Rattle.std.specs.Option.{option_flatten}
use Rattle.clr_finders.specs.RowMaps.{FiledRows, with_settled}
use Rattle.clr_finders.proofs.MapLemmas.{get_settled, get_pending, row_settled}
use Rattle.clr_finders.proofs.row_maps.RowMap.settle_at.Goals as goal

pub returns-in-Some-Some-clause-before : goal.returns-in-Some-Some-clause-before
returns-in-Some-Some-clause-before c = sym (ap option_flatten c.replace_at.ensures.before) ∙ sym (get_settled c.self.inside.settled.entries c.args.cell)
    ∙ ap (λ (r : FiledRows). finite.get r.settled c.args.cell) c.self.view_is

pub returns-in-Some-Some-clause-after : goal.returns-in-Some-Some-clause-after
returns-in-Some-Some-clause-after c =
    row_settled c.self.inside.settled.entries c.replace_at.new.settled.entries c.self.inside.pending.entries c.remove.new.self.entries c.args.cell
    (Some (Some c.in-Some-Some.row)) (Some c.in-Some-Some.row) refl
    (sym c.remove.ensures.value ∙ c.in-Some-Some.is ∙ ap Some c.in-Some-Some.field-0-is) c.replace_at.ensures.after c.remove.ensures.updates.0
    ∙ ap (λ (r : FiledRows). with_settled r c.args.cell) c.self.view_is

pub returns-in-Some-None-clause-before : goal.returns-in-Some-None-clause-before
returns-in-Some-None-clause-before c = c.take_at.ensures.before ∙ sym (get_settled c.self.inside.settled.entries c.args.cell)
    ∙ ap (λ (r : FiledRows). finite.get r.settled c.args.cell) c.self.view_is

pub returns-in-Some-None-clause-after : goal.returns-in-Some-None-clause-after
returns-in-Some-None-clause-after c =
    row_settled c.self.inside.settled.entries c.take_at.new.settled.entries c.self.inside.pending.entries c.remove.new.self.entries c.args.cell None None refl
    (sym c.remove.ensures.value ∙ c.in-Some-None.is ∙ ap Some c.in-Some-None.field-0-is) c.take_at.ensures.after c.remove.ensures.updates.0
    ∙ ap (λ (r : FiledRows). with_settled r c.args.cell) c.self.view_is

pub returns-in-None-clause-before : goal.returns-in-None-clause-before
returns-in-None-clause-before c = absurd (false≢true
    (ap is_some (sym c.in-None.is ∙ c.remove.ensures.value ∙ sym (get_pending c.self.inside.pending.entries c.args.cell))
    ∙ ap (λ (r : FiledRows). is_some (finite.get r.pending c.args.cell)) c.self.view_is ∙ c.requires))

pub returns-in-None-clause-after : goal.returns-in-None-clause-after
returns-in-None-clause-after c = absurd (false≢true
    (ap is_some (sym c.in-None.is ∙ c.remove.ensures.value ∙ sym (get_pending c.self.inside.pending.entries c.args.cell))
    ∙ ap (λ (r : FiledRows). is_some (finite.get r.pending c.args.cell)) c.self.view_is ∙ c.requires))
