use Rattle.std.proofs.Common.{◌≡◌, ◌++◌, ◌∷◌, ℕ, Bool, true, false, cond, List, filter, map, refl, sym, ap, ◌∙◌}
use Rattle.std.specs.Map.Iter.{deref_pair}
use Rattle.std.proofs.lemmas.Bool.{eqb-true}
use Rattle.std.proofs.lemmas.Map.Iter.{rest_more}
use Rattle.clr_rows.specs.declared.cells.CellId.{CellId}
use Rattle.clr_rows.specs.declared.cells.Change.{Change}
use Rattle.clr_rows.specs.Sheets.{with_none}
use Rattle.clr_layer_changes.specs.LayerEdits.{is_change_in}
use Rattle.clr_layer_changes.proofs.layer_edits.without_changes.Goals as goal

passed : (table : ℕ) (e : CellId × Change) (left all : List (CellId × Change)) → all ≡ e ∷ left → (e.0.table ≡ table → ⊥) → filter (is_change_in table) left
    ≡ filter (is_change_in table) all
passed table e left all rest other = by (is_change_in table e) refl
  where
    by : (b : Bool) → is_change_in table e ≡ b → filter (is_change_in table) left ≡ filter (is_change_in table) all
    by true t = absurd (other (eqb-true e.0.table table t))
    by false t = sym (ap (filter (is_change_in table)) rest ∙ ap (λ b. cond b (e ∷ filter (is_change_in table) left) (filter (is_change_in table) left)) t)

pub loop-cell-preserved : goal.loop-cell-preserved
loop-cell-preserved c =
    let left = c.next.new.self in
    let rest = rest_more deref_pair c.loop-cell.cell-iterator left c.next.result (c.in-Some.cell, c.in-Some.field-0-1) c.in-Some.is c.next.ensures.steps in
    ap (λ (es : List (CellId × Change)). c.loop-cell.cells.items ++ with_none (map (λ e. e.0) es))
    (passed c.args.table (c.in-Some.cell.now, c.in-Some.field-0-1.now) left c.loop-cell.cell-iterator rest c.if-cell-table.false)
    ∙ c.loop-cell.invariant
