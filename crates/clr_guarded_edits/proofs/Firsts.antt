-- The first of a list that is not as it has to be.
use Rattle.std.proofs.Common.{◌≡◌, ◌<◌, ◌+◌, ◌∙◌, ℕ, suc, true, false, cond, List, [], ◌∷◌, Some, None, length, drop, get_or, ap, sym, refl, add-one}
use Rattle.std.proofs.Math.Seq.{drop-cons}
use Rattle.clr_rows.specs.declared.cells.CellId.{CellId}
use Rattle.clr_rows.specs.declared.rows.Row.{Row}
use Rattle.clr_rows.specs.declared.tables.TableDef.{TableDef}
use Rattle.clr_layer_text.specs.Layers.{can_be_layer}
use Rattle.clr_sql.specs.Values.{is_sayable}
use Rattle.clr_guarded_edits.specs.Fits.{first_unsayable, first_wkt_column}

module _ (tables : List TableDef) (at : ℕ) (table : TableDef) (within : at < length tables) (is : table ≡ get_or tables at table) where
  from_here : drop at tables ≡ table ∷ drop (suc at) tables
  from_here = drop-cons tables at table within ∙ ap (λ (t : TableDef). t ∷ drop (suc at) tables) (sym is)

  pub table_here : can_be_layer table ≡ false → first_wkt_column at (drop at tables) ≡ Some at
  unfolding first_wkt_column
  table_here e = ap (first_wkt_column at) from_here ∙ ap (λ t. cond t (first_wkt_column (suc at) (drop (suc at) tables)) (Some at)) e

  pub tables_behind : can_be_layer table ≡ true → first_wkt_column at (drop at tables) ≡ first_wkt_column (at + 1) (drop (at + 1) tables)
  unfolding first_wkt_column
  tables_behind e =
      ap (first_wkt_column at) from_here ∙ ap (λ t. cond t (first_wkt_column (suc at) (drop (suc at) tables)) (Some at)) e
      ∙ ap (λ k. first_wkt_column k (drop k tables)) (sym (add-one at))

pub no_table : (at : ℕ) → first_wkt_column at [] ≡ None
unfolding first_wkt_column
no_table at = refl

module _ (es left : List (CellId × Row)) (e : CellId × Row) (is : es ≡ e ∷ left) where
  pub row_here : is_sayable e.1 ≡ false → first_unsayable es ≡ Some e.0
  unfolding first_unsayable
  row_here unsayable = ap first_unsayable is ∙ ap (λ t. cond t (first_unsayable left) (Some e.0)) unsayable

  pub rows_behind : is_sayable e.1 ≡ true → first_unsayable es ≡ first_unsayable left
  unfolding first_unsayable
  rows_behind sayable = ap first_unsayable is ∙ ap (λ t. cond t (first_unsayable left) (Some e.0)) sayable

pub no_row : first_unsayable [] ≡ None
unfolding first_unsayable
no_row = refl
