use Rattle.std.proofs.Common.{◌∙◌, ◌++◌, ◌∷◌, [], arith, sym, ap, append-nil}
use Rattle.clr_rows.specs.Held.{held_of}
use Rattle.clr_spots.proofs.SideLemmas.{next_field}
use Rattle.clr_rules.specs.Sides.{field}
use Rattle.clr_spots.proofs.values.values_of.Goals as goal
use Rattle.clr_spots.proofs.values.values_of.Goals.{in-Some+in_ok-push, in_default}

pub loop-column-preserved : goal.loop-column-preserved
loop-column-preserved c =
    let next = next_field (field (held_of c.args.held)) c.args.columns.now c.loop-column.column-index _ c.in_ok-value.field-0 (omega arith)
    c.in_ok-value.ensures in
    elim c.match-branch-3.branch [
      | in-Some+in_ok-push w ↦
          ap (λ l. l.items) w.list-is ∙ w.in_ok-push.ensures.items ∙ ap (λ l. l ++ w.in-Some.value ∷ []) c.loop-column.invariant ∙ sym (rw w.in-Some.is at next)
      | in_default w ↦ ap (λ l. l.items) w.list-is ∙ c.loop-column.invariant ∙ sym ((rw w.in_default.is at next) ∙ append-nil _)
    ]
