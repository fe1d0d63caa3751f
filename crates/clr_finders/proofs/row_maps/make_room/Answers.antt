use Rattle.std.proofs.Common.{◌∙◌, ap, sym, Some, None, is_some}
use Rattle.clr_finders.proofs.MapLemmas.{only_made, room_made, still_some, at_cell}
use Rattle.clr_finders.proofs.row_maps.make_room.Goals as goal

pub returns-in_ok-insert-clause-rows : goal.returns-in_ok-insert-clause-rows
returns-in_ok-insert-clause-rows c = room_made c.args.settled.now.entries c.insert.new.self.entries c.args.cell (sym c.contains_key.ensures
    ∙ c.if-not-contains_key.true) c.in_ok-insert.ensures.updates.0

pub returns-in_ok-insert-clause-kept : goal.returns-in_ok-insert-clause-kept
returns-in_ok-insert-clause-kept c q some = ap is_some (c.in_ok-insert.ensures.updates.0 q) ∙ still_some _ None (at_cell c.args.settled.now.entries q) some

pub returns-in_ok-insert-clause-only : goal.returns-in_ok-insert-clause-only
returns-in_ok-insert-clause-only c q e = only_made c.args.cell q (Some None) (at_cell c.args.settled.now.entries q) (sym (c.in_ok-insert.ensures.updates.0 q)
    ∙ e)
