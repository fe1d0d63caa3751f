-- The rows of a table in a content that fits the schema.
use Rattle.std.proofs.Common.{◌≡◌, ℕ, suc, ◌==◌, Bool, true, false, List, [], ◌∷◌, Some, None, refl, subst}
use Rattle.std.specs.FinMap as finite
use Rattle.std.specs.Prelude.{slice_get}
use Rattle.std.specs.List.{AllByRecursion}
use Rattle.std.proofs.lemmas.Bool.{eqb-true}
use Rattle.clr_rows.specs.declared.cells.CellId.{CellId}
use Rattle.clr_rows.specs.declared.rows.Row.{Row}
use Rattle.clr_rows.specs.declared.tables.TableDef.{TableDef}
use Rattle.clr_rows.specs.Contents.{Content}
use Rattle.clr_rows.specs.Schemas.{FitsSchema, row_fault}
use Rattle.clr_rows.proofs.CellOrder.{cell_cmp_exact, cell_cmp_total}
use Rattle.clr_rows.proofs.Fronts.{get_at}
use Rattle.clr_layer_text.specs.declared.rows.LayerRow.{LayerRow}
use Rattle.clr_layer_text.specs.Layers.{cell_of}
use Rattle.clr_layer_text.specs.TableRows.{rows_among, rows_of_table}

abbrev pub FitsAt : List TableDef → ℕ → LayerRow → Type 0
FitsAt tables at r = row_fault tables (cell_of at r.key) r.row ≡ None

fit_among : (tables : List TableDef) (at : ℕ) (es : List (CellId × Row)) → ((i : ℕ) (e : CellId × Row) → slice_get es i ≡ Some e → row_fault tables e.0 e.1
    ≡ None)
    → AllByRecursion (FitsAt tables at) (rows_among at es)
fit_among tables at [] each = tt
fit_among tables at (e ∷ es) each = by (e.0.table == at) refl (fit_among tables at es (λ i f is. each (suc i) f is))
  where
    by : (here : Bool) → (e.0.table == at) ≡ here → AllByRecursion (FitsAt tables at) (rows_among at es)
        → AllByRecursion (FitsAt tables at) (rows_among at (e ∷ es))
    by true is rest =
        let same : e.0.table ≡ at = eqb-true e.0.table at is in
        let fits : row_fault tables (cell_of at (Some e.0.key)) e.1 ≡ None = subst (λ n. row_fault tables (cell_of n (Some e.0.key)) e.1 ≡ None) same
        (each 0 e refl) in
        rw is (fits, rest)
    by false is rest = rw is rest

-- each row of a table fits it
pub table_fits : (tables : List TableDef) (at : ℕ) (content : Content) → FitsSchema tables content
    → AllByRecursion (FitsAt tables at) (rows_of_table content at)
table_fits tables at content fits = fit_among tables at (finite.entries content) (λ i e is. fits e.0 e.1 (get_at cell_cmp_total cell_cmp_exact content i e is))
