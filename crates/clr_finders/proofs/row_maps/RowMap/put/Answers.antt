use Rattle.std.proofs.Common.{◌≡◌, ◌∙◌, List, Some, None, true, ap, is_some, refl, subst, sym}
use Rattle.std.specs.BTreeMap.{is_at}
use Rattle.clr_rows.specs.declared.cells.CellId.{CellId}
use Rattle.clr_rows.specs.Cells.{cell_cmp}
use Rattle.clr_finders.specs.RowMaps.{RowOrNone, FiledRows, with_settled_row}
use Rattle.clr_finders.proofs.MapLemmas.{at_cell, lean_put, one_settled, rows_alike, still_some}
use Rattle.clr_finders.proofs.row_maps.RowMap.put.Goals as goal

pub returns-clause-ok : goal.returns-clause-ok
returns-clause-ok c =
    rows_alike _ _ _ _ (one_settled c.self.inside.settled.entries c.insert.new.self.entries c.args.cell (Some (Some c.args.row))
    c.in_ok-insert.ensures.updates.0) refl
    ∙ ap (λ (r : FiledRows). with_settled_row r c.args.cell c.args.row) c.self.view_is

pub invariant_of-self : goal.invariant_of-self
invariant_of-self c = record {
  room = λ q some. subst (λ (es : List (CellId × RowOrNone)). is_some (at_cell es q) ≡ true) (sym c.in_err-insert.ensures.err) (c.self.invariant.room q some);
  lean = λ q e. c.self.invariant.lean q (subst (λ (es : List (CellId × RowOrNone)). at_cell es q ≡ Some None) c.in_err-insert.ensures.err e);
}

pub invariant_of-self-2 : goal.invariant_of-self-2
invariant_of-self-2 c = record {
  room = λ q some. ap is_some (c.in_ok-insert.ensures.updates.0 q) ∙ still_some (is_at (cell_cmp c.args.cell) q) (Some c.args.row)
      (at_cell c.self.inside.settled.entries q) (c.self.invariant.room q some);
  lean = lean_put c.self.inside.settled.entries c.insert.new.self.entries c.self.inside.pending.entries c.args.cell c.args.row c.in_ok-insert.ensures.updates.0
      c.self.invariant.lean;
}
