use Rattle.std.proofs.Common.{List, Option, ap, ◌∙◌}
use Rattle.std.specs.Prelude.{OnErr, Result, Ok, Err}
use Rattle.clr_rows.specs.declared.cells.CellId.{CellId}
use Rattle.clr_rows.specs.declared.rows.Row.{Row}
use Rattle.clr_rows.specs.Contents.{over}
use Rattle.clr_rows.specs.Sheets.{named_cells, cells_without_rows, with_none, with_placeholders}
use Rattle.clr_rows.proofs.WriteLemmas.{nothing_taken}
use Rattle.clr_rows.proofs.sheets.writes.prepare.Goals as goal

on_err : {A E P : Type 0} (r : Result A E) → P → OnErr r P
on_err (Ok x) p = tt
on_err (Err e) p = p

pub returns-in_err-make_room-clause-err : goal.returns-in_err-make_room-clause-err
returns-in_err-make_room-clause-err c =
    on_err _ (
    c.in_err-make_room.ensures.err
    ∙ ap (λ (cells : List CellId). over c.args.sheet.now (with_none cells)) (c.as_slice-4.ensures.value ∙ c.in_ok-fresh.ensures)
    ∙ nothing_taken c.args.sheet.now c.as_slice-3.result.now
    )

pub returns-clause-cleared : goal.returns-clause-cleared
returns-clause-cleared c =
    c.in_ok-cleared.ensures ∙ ap (cells_without_rows c.in_ok-last.last) (c.as_slice-2.ensures.value ∙ c.in_ok-named.ensures
    ∙ ap (λ (cells : List (CellId × Option Row)). named_cells cells) c.as_slice.ensures.value)

pub returns-clause-room : goal.returns-clause-room
returns-clause-room c =
    c.in_ok-make_room.ensures.ok
    ∙ ap (λ (cells : List CellId). over c.args.sheet.now (with_placeholders cells)) (c.as_slice-4.ensures.value ∙ c.in_ok-fresh.ensures)
    ∙ ap (λ (cells : List CellId). over c.args.sheet.now (with_placeholders (cells_without_rows c.args.sheet.now cells))) (c.as_slice-3.ensures.value
    ∙ c.in_ok-named.ensures ∙ ap (λ (cells : List (CellId × Option Row)). named_cells cells) c.as_slice.ensures.value)
