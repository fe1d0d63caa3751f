use Rattle.std.proofs.Common.{List, Some, sym, ◌∙◌, ap, get_or, pos}
use Rattle.std.specs.FinMap as finite
use Rattle.clr_rows.specs.declared.cells.CellId.{CellId}
use Rattle.clr_rows.specs.declared.places.Shape.TheVariants.{Bare}
use Rattle.clr_rows.specs.declared.rows.Row.{Row}
use Rattle.clr_rows.specs.declared.rows.Value.{Value}
use Rattle.clr_rows.specs.Contents.{Content, over}
use Rattle.clr_rows.specs.Sheets.{placeholder, with_none}
use Rattle.clr_rows.proofs.WriteLemmas.{over-none, over_more, undone}
use Rattle.clr_rows.proofs.sheets.writes.make_room.Goals as goal

pub loop-cell-init : goal.loop-cell-init
loop-cell-init c = sym (over-none c.args.sheet.now)

pub loop-cell-preserved : goal.loop-cell-preserved
loop-cell-preserved c =
    let origin : CellId = record { table = 0; key = pos 0 } in
    let cell = get_or c.args.cells.now c.loop-cell.cell-index origin in
    let with_values = λ (values : List Value). let row : Row = record { values = values; shape = Bare } in row in
    c.in_default.ensures.ok
    ∙ ap (λ (values : List Value). finite.insert c.loop-cell.sheet cell (with_values values)) (c.new-in-loop-cell.ensures ∙ c.new.ensures.items)
    ∙ ap (λ (m : Content). finite.insert m cell placeholder) c.loop-cell.invariant
    ∙ sym (over_more c.args.sheet.now (Some placeholder) c.args.cells.now c.loop-cell.cell-index origin c.loop-cell-test.true)

pub returns-in-Err-clause-err : goal.returns-in-Err-clause-err
returns-in-Err-clause-err c =
    c.take_all.ensures
    ∙ ap (λ (m : Content). over m (with_none c.args.cells.now)) (c.in-Err.ensures.err ∙ c.loop-cell.invariant)
    ∙ undone c.args.sheet.now c.args.cells.now c.loop-cell.cell-index
