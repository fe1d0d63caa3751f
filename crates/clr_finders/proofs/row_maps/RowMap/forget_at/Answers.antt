use Rattle.std.proofs.Common.{◌∙◌, ap, sym, is_some}
use Rattle.std.specs.FinMap as finite
use Rattle.std.specs.Option.{option_flatten}
use Rattle.clr_finders.specs.RowMaps.{FiledRows}
use Rattle.clr_finders.proofs.MapLemmas.{get_pending, lean_left, one_taken, rows_alike, room_left}
use Rattle.clr_finders.proofs.row_maps.RowMap.forget_at.Goals as goal

pub returns-clause-before : goal.returns-clause-before
returns-clause-before c = c.flatten.ensures ∙ ap option_flatten (c.remove-row.ensures.value ∙ sym (get_pending c.self.inside.pending.entries c.args.cell))
    ∙ ap (λ (r : FiledRows). option_flatten (finite.get r.pending c.args.cell)) c.self.view_is

pub returns-clause-after : goal.returns-clause-after
returns-clause-after c =
    rows_alike _ _ _ _ c.drop_room.ensures.rows
    (one_taken c.self.inside.pending.entries c.remove-row.new.self.entries c.args.cell c.remove-row.ensures.updates.0)
    ∙ ap (λ (r : FiledRows). let s : FiledRows = record { settled = r.settled; pending = finite.remove r.pending c.args.cell } in s) c.self.view_is

pub invariant_of-self : goal.invariant_of-self
invariant_of-self c = record {
  room = room_left c.self.inside.settled.entries c.drop_room.new.settled.entries c.self.inside.pending.entries c.remove-row.new.self.entries c.args.cell
      c.remove-row.ensures.updates.0
      (λ q e some. ap is_some (c.drop_room.ensures.others q e) ∙ some) c.self.invariant.room;
  lean = lean_left c.self.inside.settled.entries c.drop_room.new.settled.entries c.self.inside.pending.entries c.remove-row.new.self.entries c.args.cell
      c.remove-row.ensures.updates.0
      c.drop_room.ensures.others c.drop_room.ensures.gone c.self.invariant.lean;
}
