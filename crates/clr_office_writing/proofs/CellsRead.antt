-- The rows of LIVE and the cells of differences that are written are read back, and put at their cells again.
use Rattle.std.proofs.Common.{◌≡◌, ℕ, ℤ, Bool, true, T, List, [], ◌∷◌, map, Option, Some, None, Ok, refl, ap, ◌∙◌}
use Rattle.std.specs.Prelude.{slice_get}
use Rattle.std.specs.FinMap as finite
use Rattle.std.specs.FinMap.Entries.{is_sorted}
use Rattle.std.specs.List.{AllByRecursion, list_all}
use Rattle.std.proofs.lemmas.Bool.{and_parts, and_from}
use Rattle.serde_json.specs.View.{items_of}
use Rattle.clr_rows.specs.declared.cells.CellId.{CellId}
use Rattle.clr_rows.specs.declared.places.Place.{Place}
use Rattle.clr_rows.specs.declared.places.Shape.{Shape}
use Rattle.clr_rows.specs.declared.places.Shape.TheVariants.{Bare, At, Line, Chain}
use Rattle.clr_rows.specs.declared.rows.Row.{Row}
use Rattle.clr_rows.specs.declared.tables.Form.{Form}
use Rattle.clr_rows.specs.declared.tables.Form.TheVariants as form
use Rattle.clr_rows.specs.declared.tables.TableDef.{TableDef}
use Rattle.clr_rows.specs.Cells.{cell_cmp}
use Rattle.clr_rows.specs.Contents.{Content}
use Rattle.clr_rows.specs.Numbers.{is_i64}
use Rattle.clr_rows.specs.Parts.{vertices_of}
use Rattle.clr_rows.specs.Ranges.{is_place_within}
use Rattle.clr_rows.specs.Schemas.{FitsSchema, is_number, has_coordinates, is_coordinate, is_of_form, is_place, row_fault, schema_fault, table_named}
use Rattle.clr_rows.specs.Schemas.{name_of_table}
use Rattle.clr_rows.proofs.SchemaLemmas.{cell_parts, fits_table, table_of_name}
use Rattle.clr_deltas.specs.Differences.{Differences}
use Rattle.clr_office_reading.specs.declared.cells.NamedRow.{NamedRow}
use Rattle.clr_office_reading.specs.declared.named_cells.NamedCell.{NamedCell}
use Rattle.clr_office_reading.specs.Cells.{
  cell_of,
  has_paths,
  is_path_form,
  named_row_of,
  place_of,
  places_of,
  row_of,
  shape_of,
  shape_with,
  values_of,
  with_named_row,
}
use Rattle.clr_office_reading.specs.Cells.{with_named_rows}
use Rattle.clr_rule_text.specs.Values.{value_of}
use Rattle.clr_rule_text.specs.Fields.{each}
use Rattle.clr_office_reading.specs.Fits.{FitsDifferences}
use Rattle.clr_office_reading.specs.Patches.{named_cell_of, put_fault, with_cell, with_named_cells}
use Rattle.clr_office_writing.specs.CellData.{coordinates_of, named_cell, named_cell_data, cells_with_names, named_row, named_row_data, named_rows, row_data}
use Rattle.clr_office_writing.specs.CellData.{row_or_gone_data}
use Rattle.clr_office_writing.specs.Values.{number_data, value_data}
use Rattle.clr_office_writing.proofs.ListsRead.{all_mapped, all_pass, each_read, number_read, value_read}
use Rattle.clr_rows.proofs.SchemaLemmas.{coordinate_within, key_within}
use Rattle.clr_rows.proofs.Tests.{first, second}
use Rattle.clr_office_writing.proofs.PutAgain.{AreFree, all_pairs, all_put, all_put_again, free_after, free_at_first}

-- rows ---------------------------------------------------------------------------------------

places_read : (ps : List Place) → list_all is_place_within ps ≡ true → places_of (items_of (map number_data (coordinates_of ps))) ≡ Ok ps
unfolding places_of place_of
places_read [] h = refl
places_read (p ∷ ps) h =
    let a = and_parts (is_place_within p) (list_all is_place_within ps) h in
    let b = and_parts (is_i64 p.x) (is_i64 p.y) a.0 in
    rw (number_read p.x b.0, number_read p.y b.1, places_read ps a.1) refl

places_within : (ps : List Place) → list_all is_place ps ≡ true → list_all is_place_within ps ≡ true
places_within [] h = refl
places_within (p ∷ ps) h =
    let a = and_parts (is_place p) (list_all is_place ps) h in
    let b = and_parts (is_coordinate p.x) (is_coordinate p.y) a.0 in
    and_from _ _ (and_from _ _ (coordinate_within p.x b.0) (coordinate_within p.y b.1)) (places_within ps a.1)

vertices_in_range : (s : Shape) → has_coordinates s ≡ true → list_all is_place (vertices_of s) ≡ true
vertices_in_range Bare h = refl
vertices_in_range (At p) h = and_from _ _ h refl
vertices_in_range (Line p q) h = let a = and_parts (is_place p) (is_place q) h in and_from _ _ a.0 (and_from _ _ a.1 refl)
vertices_in_range (Chain ps) h = h

-- a shape of a form has the vertices that are read in its table
formed : (f : Form) (s : Shape) → is_of_form f s ≡ true → shape_with (is_path_form f) (vertices_of s) ≡ Ok s
formed form.Bare Bare h = refl
formed form.Point (At p) h = refl
formed form.Segment (Line p q) h = refl
formed form.Path (Chain ps) h = refl
formed form.Bare (At p) h = cc
formed form.Bare (Line p q) h = cc
formed form.Bare (Chain ps) h = cc
formed form.Point Bare h = cc
formed form.Point (Line p q) h = cc
formed form.Point (Chain ps) h = cc
formed form.Segment Bare h = cc
formed form.Segment (At p) h = cc
formed form.Segment (Chain ps) h = cc
formed form.Path Bare h = cc
formed form.Path (At p) h = cc
formed form.Path (Line p q) h = cc

-- what is asked of a row so that it is read in a table of paths, or in another
pub record IsReadable (is_path : Bool) (key : ℤ) (row : Row) : Type 0 where
  pub named : is_i64 key ≡ true
  pub values : list_all is_number row.values ≡ true
  pub places : list_all is_place_within (vertices_of row.shape) ≡ true
  pub shape : shape_with is_path (vertices_of row.shape) ≡ Ok row.shape

row_read : (is_path : Bool) (table : List ℕ) (key : ℤ) (row : Row) → IsReadable is_path key row → row_of is_path (row_data table key row) ≡ Ok row
unfolding row_of values_of shape_of
row_read is_path table key row h =
    rw (
      each_read (λ v. is_number v ≡ true) value_of value_data value_read row.values (all_pass is_number row.values h.values),
      places_read
          (vertices_of row.shape) h.places,
      h.shape,
    ) refl

named_row_read : (tables : List TableDef) (named : NamedRow) → IsReadable (has_paths tables named.table) named.key named.row
    → named_row_of tables (named_row_data named) ≡ Ok named
unfolding named_row_of
named_row_read tables named h = rw (number_read named.key h.named, row_read (has_paths tables named.table) named.table named.key named.row h) refl

-- a cell's key and its row, or that the row is gone, can be read again
abbrev pub IsReadableOrGone : Bool → ℤ → Option Row → Type 0
IsReadableOrGone is_path key None = is_i64 key ≡ true
IsReadableOrGone is_path key (Some row) = IsReadable is_path key row

row_or_gone_read : (tables : List TableDef) (table : List ℕ) (key : ℤ) (row : Option Row) → IsReadableOrGone (has_paths tables table) key row
    → named_cell_of tables (row_or_gone_data table key row) ≡ Ok (record { table = table; key = key; row = row })
unfolding named_cell_of
row_or_gone_read tables table key None h = rw (number_read key h) refl
row_or_gone_read tables table key (Some row) h = rw (number_read key h.named, row_read (has_paths tables table) table key row h) refl

named_cell_read : (tables : List TableDef) (named : NamedCell) → IsReadableOrGone (has_paths tables named.table) named.key named.row
    → named_cell_of tables (named_cell_data named) ≡ Ok named
named_cell_read tables named h = row_or_gone_read tables named.table named.key named.row h

module _ (tables : List TableDef) (schema : schema_fault tables ≡ None) where
  -- tables by name ---------------------------------------------------------------------------

  name_found : (n : ℕ) (table : TableDef) → slice_get tables n ≡ Some table → table_named tables (name_of_table tables n) ≡ Some n
  name_found n table is = rw is (table_of_name tables n table schema is)

  paths_found : (n : ℕ) (table : TableDef) → slice_get tables n ≡ Some table → has_paths tables (name_of_table tables n) ≡ is_path_form table.shape
  paths_found n table is = rw (name_found n table is, is) refl

  -- cells with names -------------------------------------------------------------------------

  row_readable : (cell : CellId) (row : Row) → row_fault tables cell row ≡ None → IsReadable (has_paths tables (name_of_table tables cell.table)) cell.key row
  row_readable cell row fit =
      let t = fits_table tables cell row fit in
      rw (paths_found cell.table t.0 t.1) (record {
        named = key_within cell.key t.2.key;
        values = t.2.numbers;
        places = places_within (vertices_of row.shape) (vertices_in_range row.shape t.2.coordinates);
        shape = formed t.0.shape row.shape t.2.form;
      })

  cell_readable : (cell : CellId) (row : Option Row) → put_fault tables cell row ≡ None
      → IsReadableOrGone (has_paths tables (name_of_table tables cell.table)) cell.key row
  cell_readable cell None fit = key_within cell.key (cell_parts tables cell fit).2
  cell_readable cell (Some row) fit = row_readable cell row fit

  pub rows_readable : (content : Content) → FitsSchema tables content → AllByRecursion (λ n. IsReadable (has_paths tables n.table) n.key n.row)
      (named_rows tables content)
  rows_readable content fits =
      all_mapped (λ e. row_fault tables e.0 e.1 ≡ None) _ (named_row tables) (λ e fit. row_readable e.0 e.1 fit) (finite.entries content)
      (all_pairs (λ q row. row_fault tables q row ≡ None) content fits)

  pub cells_readable : (d : Differences) → FitsDifferences tables d → AllByRecursion (λ n. IsReadableOrGone (has_paths tables n.table) n.key n.row)
      (cells_with_names tables d)
  cells_readable d fits =
      all_mapped (λ e. put_fault tables e.0 e.1 ≡ None) _ (named_cell tables) (λ e fit. cell_readable e.0 e.1 fit) (finite.entries d)
      (all_pairs (λ q row. put_fault tables q row ≡ None) d fits)

  pub rows_read : (content : Content) → FitsSchema tables content → each (named_row_of tables) (items_of (map named_row_data (named_rows tables content)))
      ≡ Ok (named_rows tables content)
  rows_read content fits =
      each_read (λ n. IsReadable (has_paths tables n.table) n.key n.row) (named_row_of tables) named_row_data (named_row_read tables)
      (named_rows tables content)
      (rows_readable content fits)

  pub cells_read : (d : Differences) → FitsDifferences tables d → each (named_cell_of tables) (items_of (map named_cell_data (cells_with_names tables d)))
      ≡ Ok (cells_with_names tables d)
  cells_read d fits =
      each_read (λ n. IsReadableOrGone (has_paths tables n.table) n.key n.row) (named_cell_of tables) named_cell_data (named_cell_read tables)
      (cells_with_names tables d)
      (cells_readable d fits)

  -- at their cells ---------------------------------------------------------------------------

  -- the table of a cell is known
  abbrev IsKnown : CellId → Type 0
  IsKnown cell = (table : TableDef) × (slice_get tables cell.table ≡ Some table)

  cell_found : (cell : CellId) → IsKnown cell → cell_of tables (name_of_table tables cell.table) cell.key ≡ Ok cell
  unfolding cell_of
  cell_found cell known = rw (name_found cell.table known.0 known.1) refl

  row_put : (content : Content) (e : CellId × Row) → row_fault tables e.0 e.1 ≡ None → finite.get content e.0 ≡ None
      → with_named_row tables content (named_row tables e) ≡ Ok (finite.insert content e.0 e.1)
  unfolding with_named_row
  row_put content e fit free = let t = fits_table tables e.0 e.1 fit in rw (cell_found e.0 (t.0, t.1), fit, free) refl

  rows_put : (content : Content) (es : List (CellId × Row)) → T (is_sorted cell_cmp es) → AllByRecursion (λ e. row_fault tables e.0 e.1 ≡ None) es
      → AreFree content es → with_named_rows tables content (map (named_row tables) es) ≡ Ok (all_put content es)
  unfolding with_named_rows
  rows_put content [] sorted fits free = refl
  rows_put content (e ∷ es) sorted fits free =
      rw (row_put content e fits.0 free.0) (rows_put (finite.insert content e.0 e.1) es (second _ _ sorted) fits.1
      (free_after content e.0 e.1 es (first _ _ sorted) free.1))

  pub rows_again : (content : Content) → FitsSchema tables content → with_named_rows tables finite.empty (named_rows tables content) ≡ Ok content
  rows_again content fits =
      rows_put finite.empty (finite.entries content) (finite.entries_sorted content) (all_pairs (λ q row. row_fault tables q row ≡ None) content fits)
      (free_at_first (finite.entries content))
      ∙ ap (λ m. Ok m) (all_put_again content)

  known_cell : (cell : CellId) (row : Option Row) → put_fault tables cell row ≡ None → IsKnown cell
  known_cell cell None fit = let t = cell_parts tables cell fit in (t.0, t.1)
  known_cell cell (Some row) fit = let t = fits_table tables cell row fit in (t.0, t.1)

  cell_put : (d : Differences) (e : CellId × Option Row) → put_fault tables e.0 e.1 ≡ None → finite.get d e.0 ≡ None → with_cell tables d (named_cell tables e)
      ≡ Ok (finite.insert d e.0 e.1)
  unfolding with_cell
  cell_put d e fit free = rw (cell_found e.0 (known_cell e.0 e.1 fit), fit, free) refl

  cells_put : (d : Differences) (es : List (CellId × Option Row)) → T (is_sorted cell_cmp es) → AllByRecursion (λ e. put_fault tables e.0 e.1 ≡ None) es
      → AreFree d es → with_named_cells tables d (map (named_cell tables) es) ≡ Ok (all_put d es)
  unfolding with_named_cells
  cells_put d [] sorted fits free = refl
  cells_put d (e ∷ es) sorted fits free =
      rw (cell_put d e fits.0 free.0) (cells_put (finite.insert d e.0 e.1) es (second _ _ sorted) fits.1 (free_after d e.0 e.1 es (first _ _ sorted) free.1))

  pub cells_again : (d : Differences) → FitsDifferences tables d → with_named_cells tables finite.empty (cells_with_names tables d) ≡ Ok d
  cells_again d fits =
      cells_put finite.empty (finite.entries d) (finite.entries_sorted d) (all_pairs (λ q row. put_fault tables q row ≡ None) d fits)
      (free_at_first (finite.entries d))
      ∙ ap (λ m. Ok m) (all_put_again d)
