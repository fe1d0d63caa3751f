use Rattle.std.proofs.Common.{List, ap, ◌∙◌}
use Rattle.clr_rows.specs.declared.cells.CellId.{CellId}
use Rattle.clr_rows.specs.Contents.{over}
use Rattle.clr_rows.specs.Sheets.{with_none}
use Rattle.clr_rows.proofs.WriteLemmas.{rows_have_places, moved_is}
use Rattle.clr_rows.proofs.sheets.writes.write_all.Goals as goal

pub move_rows-requires : goal.move_rows-requires
move_rows-requires c =
    let made = c.in_ok-last.ensures in
    rows_have_places c.args.sheet.now c.args.cells.items c.in_ok-last.last c.in_ok-last.cleared.items c.prepare.new.sheet c.take_all.new.sheet made.last
    made.cleared made.room
    (c.take_all.ensures ∙ ap (λ (cells : List CellId). over c.prepare.new.sheet (with_none cells)) c.as_slice.ensures.value)

pub returns-clause-ok : goal.returns-clause-ok
returns-clause-ok c =
    let made = c.in_ok-last.ensures in
    c.move_rows.ensures
    ∙ moved_is c.args.sheet.now c.args.cells.items c.in_ok-last.last c.in_ok-last.cleared.items c.prepare.new.sheet c.take_all.new.sheet made.last made.cleared
    made.room
    (c.take_all.ensures ∙ ap (λ (cells : List CellId). over c.prepare.new.sheet (with_none cells)) c.as_slice.ensures.value)
