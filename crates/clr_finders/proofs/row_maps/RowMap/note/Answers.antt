use Rattle.std.proofs.Common.{◌∙◌, ap}
use Rattle.std.specs.FinMap as finite
use Rattle.clr_finders.specs.RowMaps.{FiledRows}
use Rattle.clr_finders.proofs.MapLemmas.{lean_for, one_noted, rows_alike, room_for}
use Rattle.clr_finders.proofs.row_maps.RowMap.note.Goals as goal

pub invariant_of-self-in-Ok : goal.invariant_of-self-in-Ok
invariant_of-self-in-Ok c = record {
  room = room_for c.self.inside.settled.entries c.make_room.new.settled.entries c.self.inside.pending.entries c.insert.new.self.entries c.args.cell c.args.row
      c.in-Ok.ensures.updates.0
      c.in_ok-make_room.ensures.room c.make_room.ensures.kept c.self.invariant.room;
  lean = lean_for c.self.inside.settled.entries c.make_room.new.settled.entries c.self.inside.pending.entries c.insert.new.self.entries c.args.cell c.args.row
      c.in-Ok.ensures.updates.0
      c.make_room.ensures.only c.self.invariant.lean;
}

pub returns-in-Ok-clause-ok : goal.returns-in-Ok-clause-ok
returns-in-Ok-clause-ok c =
    rows_alike _ _ _ _ c.make_room.ensures.rows (one_noted c.self.inside.pending.entries c.insert.new.self.entries c.args.cell c.args.row
    c.in-Ok.ensures.updates.0)
    ∙ ap (λ (r : FiledRows). let s : FiledRows = record { settled = r.settled; pending = finite.insert r.pending c.args.cell c.args.row } in s) c.self.view_is
