use Rattle.std.proofs.Common.{◌∙◌, ap, sym, Some}
use Rattle.clr_finders.proofs.MapLemmas.{room_gone}
use Rattle.clr_finders.proofs.row_maps.drop_room.Goals as goal

pub returns-in-Some-None-clause-rows : goal.returns-in-Some-None-clause-rows
returns-in-Some-None-clause-rows c = room_gone c.args.settled.now.entries c.remove.new.self.entries c.args.cell (sym c.in-Some-None.ensures.value
    ∙ ap Some c.in-Some-None.field-0-is) c.remove.ensures.updates.0
