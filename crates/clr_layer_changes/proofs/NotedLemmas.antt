-- Changes from a base content to one in which the rows of a table go and others stand.
use Rattle.std.proofs.Common.{◌≡◌, ℕ, ◌==◌, ◌++◌, Bool, true, false, cond, List, [], ◌∷◌, Option, Some, None, is_some, map, filter, refl, sym, ap, ◌∙◌}
use Rattle.std.proofs.Common.{Result, Ok, Err}
use Rattle.std.specs.FinMap as finite
use Rattle.std.specs.FinMap.Entries.{find}
use Rattle.std.specs.Ordering.{eq_by_cmp}
use Rattle.clr_rows.specs.declared.cells.CellId.{CellId}
use Rattle.clr_rows.specs.declared.cells.Change.{Change}
use Rattle.clr_rows.specs.declared.rows.Row.{Row}
use Rattle.clr_rows.specs.Cells.{cell_cmp}
use Rattle.clr_rows.specs.Contents.{Changes, Content, changes, over, row_at, set_cell}
use Rattle.clr_rows.specs.Same.{same}
use Rattle.clr_rows.specs.Sheets.{with_none, with_rows}
use Rattle.clr_rows.proofs.ChangeLemmas.{get-changes, row-set_cell, same_content}
use Rattle.clr_rows.proofs.RowLemmas.{tied_cells}
use Rattle.clr_change.specs.ChangeSets.{change_from}
use Rattle.clr_change.specs.declared.edits.Edit.{Edit}
use Rattle.clr_readings.specs.Readings.{◌>>=◌}
use Rattle.clr_layer_changes.specs.Changes.{edits_between}
use Rattle.clr_layer_changes.specs.declared.faults.FaultyLayer.{FaultyLayer}
use Rattle.clr_layer_changes.specs.LayerEdits.{changed_cells_in}
use Rattle.clr_layer_changes.specs.Wanted.{replaced, table_cells_in}
use Rattle.clr_layer_changes.proofs.LayersAgain.{over_both}

-- whether a cell is among some
unfoldable pub among : CellId → List CellId → Bool
among q [] = false
among q (cell ∷ cells) = cond (eq_by_cmp cell_cmp q cell) true (among q cells)

-- where rows go, none stands at their cells
row_without : (content : Content) (cells : List CellId) (q : CellId) → row_at (over content (with_none cells)) q
    ≡ cond (among q cells) None (row_at content q)
unfolding over among
row_without content [] q = refl
row_without content (cell ∷ cells) q =
    row_without (set_cell content cell None) cells q ∙ ap (cond (among q cells) None) (row-set_cell content cell None q)
    ∙ both (eq_by_cmp cell_cmp q cell) (among q cells) (row_at content q)
  where
    both : (here later : Bool) (row : Option Row) → cond later None (cond here None row) ≡ cond (cond here true later) None row
    both true true row = refl
    both true false row = refl
    both false later row = refl

-- a cell is among those of a table where it is of the table and has something
module _ {X : Type 0} (table : ℕ) (q : CellId) where
  pub among_table : (es : List (CellId × X)) → among q (map (λ e. e.0) (filter (λ e. e.0.table == table) es))
      ≡ cond (q.table == table) (is_some (find cell_cmp q es)) false
  unfolding among
  among_table [] = by (q.table == table)
    where
      by : (b : Bool) → false ≡ cond b false false
      by true = refl
      by false = refl
  among_table (e ∷ es) = by (e.0.table == table) (eq_by_cmp cell_cmp q e.0) refl refl (among_table es)
    where
      others : List (CellId × X)
      others = filter (λ e. e.0.table == table) es

      same_table : eq_by_cmp cell_cmp q e.0 ≡ true → (q.table == table) ≡ (e.0.table == table)
      same_table tie = ap (λ (cell : CellId). cell.table == table) (tied_cells q e.0 tie)

      by : (b t : Bool) → (e.0.table == table) ≡ b → eq_by_cmp cell_cmp q e.0 ≡ t
          → among q (map (λ e. e.0) others) ≡ cond (q.table == table) (is_some (find cell_cmp q es)) false
          → among q (map (λ e. e.0) (cond b (e ∷ others) others)) ≡ cond (q.table == table) (is_some (cond t (Some e.1) (find cell_cmp q es))) false
      by true true is tie rest =
          ap (λ u. cond u true (among q (map (λ e. e.0) others))) tie ∙ sym (ap (λ u. cond u true false) (same_table tie ∙ is))
      by true false is tie rest = ap (λ u. cond u true (among q (map (λ e. e.0) others))) tie ∙ rest
      by false true is tie rest =
          rest ∙ ap (λ u. cond u (is_some (find cell_cmp q es)) false) (same_table tie ∙ is) ∙ sym (ap (λ u. cond u true false) (same_table tie ∙ is))
      by false false is tie rest = rest

-- whatever changed at a cell of a table, nothing is left there but what stands
gone : (base current : Option Row) → cond (is_some base) None (cond (is_some (change_from base current)) None current) ≡ cond (is_some current) None current
unfolding same
gone None None = refl
gone None (Some row) = refl
gone (Some old) None = refl
gone (Some old) (Some row) = refl

module _ (base content : Content) (set : Changes) (table : ℕ) (is : set ≡ changes base content) where
  -- the rows of a table go, with those that changed there
  same_without : over (over content (with_none (changed_cells_in set table))) (with_none (table_cells_in base table))
      ≡ over content (with_none (table_cells_in content table))
  same_without = same_content _ _ (λ q.
      row_without (over content (with_none (changed_cells_in set table))) (table_cells_in base table) q
      ∙ ap (cond (among q (table_cells_in base table)) None) (row_without content (changed_cells_in set table) q)
      ∙ ap (λ b. cond b None (cond (among q (changed_cells_in set table)) None (row_at content q))) (stood base q)
      ∙ ap (λ b. cond (cond (q.table == table) (is_some (row_at base q)) false) None (cond b None (row_at content q))) (changed q)
      ∙ by (q.table == table) q
      ∙ sym (row_without content (table_cells_in content table) q ∙ ap (λ b. cond b None (row_at content q)) (stood content q)))
    where
      stood : (m : Content) (q : CellId) → among q (table_cells_in m table) ≡ cond (q.table == table) (is_some (row_at m q)) false
      stood m q =
          among_table table q (finite.entries m) ∙ ap (λ (found : Option Row). cond (q.table == table) (is_some found) false) (sym (finite.get-entries m q))

      changed : (q : CellId) → among q (changed_cells_in set table) ≡ cond (q.table == table) (is_some (change_from (row_at base q) (row_at content q))) false
      changed q =
          among_table table q (finite.entries set)
          ∙ ap (λ (found : Option Change). cond (q.table == table) (is_some found) false)
          (sym (finite.get-entries set q) ∙ ap (λ (s : Changes). finite.get s q) is ∙ get-changes base content q)

      by : (b : Bool) (q : CellId) → cond (cond b (is_some (row_at base q)) false) None
          (cond (cond b (is_some (change_from (row_at base q) (row_at content q))) false) None (row_at content q))
          ≡ cond (cond b (is_some (row_at content q)) false) None (row_at content q)
      by true q = gone (row_at base q) (row_at content q)
      by false q = refl

  -- and others stand
  pub replaced_is : (rows : Content) → over (over (over content (with_none (changed_cells_in set table))) (with_none (table_cells_in base table)))
      (with_rows (finite.entries rows)) ≡ replaced content table rows
  unfolding replaced
  replaced_is rows =
      ap (λ (m : Content). over m (with_rows (finite.entries rows))) same_without
      ∙ sym (over_both content (with_none (table_cells_in content table)) (with_rows (finite.entries rows)))

-- rows put over a content, one after another ---------------------------------------------------

-- one more
pub over_more : (content : Content) (es : List (CellId × Option Row)) (e : CellId × Option Row) → over content (es ++ e ∷ [])
    ≡ set_cell (over content es) e.0 e.1
unfolding over
over_more content [] e = refl
over_more content (first ∷ es) e = over_more (set_cell content first.0 first.1) es e

pub over_nothing : (content : Content) → over content [] ≡ content
unfolding over
over_nothing content = refl

-- the edits that are wanted ---------------------------------------------------------------------

-- they lead to the content that layers ask for
pub edits_wanted : (base : Content) (read : Result Content FaultyLayer) (edits : List Edit) → (read >>= λ content. Ok (edits_between base content)) ≡ Ok edits
    → (content : Content) × (read ≡ Ok content) × (edits ≡ edits_between base content)
edits_wanted base (Ok content) edits e = (content, refl, cc)
edits_wanted base (Err why) edits e = cc

-- or there is its fault
pub fault_wanted : (base : Content) (read : Result Content FaultyLayer) (why : FaultyLayer) → (read >>= λ content. Ok (edits_between base content)) ≡ Err why
    → read ≡ Err why
fault_wanted base (Ok content) why e = cc
fault_wanted base (Err other) why e = cc
