use Rattle.std.proofs.Common.{List, Some, is_some, sym, ap, ◌∙◌}
use Rattle.std.specs.FinMap as finite
use Rattle.std.proofs.lemmas.Map.Iter.{rest_more, rest_all}
use Rattle.clr_rows.specs.declared.cells.CellId.{CellId}
use Rattle.clr_rows.specs.declared.rows.Row.{Row}
use Rattle.clr_rows.specs.Cells.{cell_cmp}
use Rattle.clr_rows.specs.Contents.{Content, row_at, over}
use Rattle.clr_rows.specs.Sheets.{with_rows}
use Rattle.clr_rows.proofs.WriteLemmas.{over-none, over-first, put_leaves, first_found, later_found}
use Rattle.clr_rows.proofs.sheets.writes.move_rows.Goals as goal

pub loop-cell-init : goal.loop-cell-init
loop-cell-init c =
    let all = c.into_iter-cell-iterator.ensures.into_iter_gives ∙ c.into_rows-cell-items.ensures.rest in
    record {
      so_far = ap (λ (es : List (CellId × Row)). over c.args.sheet.now (with_rows es)) all;
      present = λ cell there. c.requires cell (ap is_some (finite.get-entries c.args.rows cell)
          ∙ sym (ap (λ (es : List (CellId × Row)). is_some (finite.find cell_cmp cell es)) all) ∙ there);
    }

pub replace-requires : goal.replace-requires
replace-requires c =
    let e : CellId × Row = (c.in-Some.cell, c.in-Some.row) in
    let rest = rest_more (λ (p : CellId × Row). p) c.loop-cell.cell-iterator c.next.new.self c.next.result e c.in-Some.is c.next.ensures.steps in
    c.loop-cell.invariant.present c.in-Some.cell (ap (λ (es : List (CellId × Row)). is_some (finite.find cell_cmp c.in-Some.cell es)) rest
    ∙ first_found e c.next.new.self)

pub loop-cell-preserved : goal.loop-cell-preserved
loop-cell-preserved c =
    let e : CellId × Row = (c.in-Some.cell, c.in-Some.row) in
    let left = c.next.new.self in
    let rest = rest_more (λ (p : CellId × Row). p) c.loop-cell.cell-iterator left c.next.result e c.in-Some.is c.next.ensures.steps in
    record {
      so_far =
          ap (λ (m : Content). over m (with_rows left)) c.replace.ensures ∙ sym (over-first c.loop-cell.sheet (e.0, Some e.1) (with_rows left))
          ∙ ap (λ (es : List (CellId × Row)). over c.loop-cell.sheet (with_rows es)) (sym rest) ∙ c.loop-cell.invariant.so_far;
      present = λ cell there.
          ap (λ (m : Content). is_some (row_at m cell)) c.replace.ensures
          ∙ put_leaves c.loop-cell.sheet e.0 cell e.1
          (c.loop-cell.invariant.present cell (ap (λ (es : List (CellId × Row)). is_some (finite.find cell_cmp cell es)) rest ∙ later_found cell e left there));
    }

pub returns : goal.returns
returns c =
    let none = rest_all (λ (p : CellId × Row). p) c.loop-cell.cell-iterator c.next.new.self c.next.result c.in-None.is c.next.ensures.steps in
    sym (over-none c.loop-cell.sheet) ∙ ap (λ (es : List (CellId × Row)). over c.loop-cell.sheet (with_rows es)) (sym none) ∙ c.loop-cell.invariant.so_far
