-- The content that layers ask for fits the schema, if LIVE's content does.
use Rattle.std.proofs.Common.{◌≡◌, ℕ, ℤ, pos, ◌+◌, ◌-◌, ◌<◌, ◌≤◌, ◌==◌, ◌&&◌, ◌++◌, Bool, true, false, cond, List, [], ◌∷◌, Option, Some, None, is_none, nat_le}
use Rattle.std.proofs.Common.{nat_lt, Result, Ok, Err, unsigned_abs, refl, ap, subst, length, arith, zero, suc, take, is_some}
use Rattle.std.specs.FinMap as finite
use Rattle.std.specs.Prelude.{slice_get}
use Rattle.std.specs.List.{AllByRecursion, find, range_with_len}
use Rattle.std.proofs.lemmas.Bool.{and_from, and_parts, le-leb, ltb-true}
use Rattle.std.proofs.lemmas.Option.{none-some, same_Some}
use Rattle.clr_rows.specs.declared.cells.CellId.{CellId}
use Rattle.clr_rows.specs.declared.faults.RowFault.{RowFault}
use Rattle.clr_rows.specs.declared.limits.TheConstants.{GREATEST_KEY}
use Rattle.clr_rows.specs.declared.rows.Row.{Row}
use Rattle.clr_rows.specs.declared.tables.TableDef.{TableDef}
use Rattle.clr_rows.specs.Contents.{Content, no_rows, over, row_at, set_cell}
use Rattle.clr_rows.specs.Schemas.{FitsSchema, fault_at, is_key, row_fault}
use Rattle.clr_rows.specs.Sheets.{with_none, with_rows}
use Rattle.clr_rows.proofs.CellOrder.{cell_cmp_exact, cell_cmp_total}
use Rattle.clr_rows.proofs.FitLemmas.{none_fit, put_keeps, take_keeps}
use Rattle.clr_rows.proofs.Fronts.{get_at}
use Rattle.clr_readings.specs.Readings.{◌>>=◌, or_fault}
use Rattle.clr_records.specs.Records.{at_record, field_of, in_turn, records_in}
use Rattle.clr_layer_text.specs.Layers.{
  Fields,
  cell_of,
  fields_of_table,
  if_fits,
  key_in_field,
  layer_in_text,
  layer_rows_of,
  row_of,
  shape_in,
  values_of,
  whole_row_of,
}
use Rattle.clr_layer_text.specs.declared.faults.LayerFault.{LayerFault}
use Rattle.clr_layer_text.specs.declared.faults.LayerFault.TheVariants.{FieldCount}
use Rattle.clr_layer_text.specs.declared.rows.LayerRow.{LayerRow}
use Rattle.clr_layer_text.proofs.TableLemmas.{FitsAt}
use Rattle.clr_layer_changes.specs.declared.faults.LayersFault.{LayersFault}
use Rattle.clr_layer_changes.specs.declared.limits.TheConstants.{FIRST_RECORD}
use Rattle.clr_layer_changes.specs.declared.options.GivenLayer.{GivenLayer}
use Rattle.clr_layer_changes.specs.declared.options.LayerOptions.{LayerOptions}
use Rattle.clr_layer_changes.specs.Keys as keys
use Rattle.clr_layer_changes.specs.Keys.{is_free, keys_from, least_free}
use Rattle.clr_layer_changes.specs.LayerRows.{all_rows, layer_rows, at_number, of_text, own_rows, put_new, rows_at_keys, with_given, with_own}
use Rattle.clr_layer_changes.specs.Turns.{after_each}
use Rattle.clr_layer_changes.specs.Wanted.{at_layer, table_cells_in, replaced, table_of, wanted_over, with_layer, with_layer_at}

-- one reading after another ------------------------------------------------------------------

ok_is : {A E : Type 0} (a b : A) → ◌≡◌ {A = Result A E} (Ok a) (Ok b) → a ≡ b
ok_is a b e = cc

-- where the second reading succeeds, so did the first
both_read : {A B E : Type 0} (r : Result A E) (f : A → Result B E) (x : B) → (r >>= f) ≡ Ok x → (a : A) × (r ≡ Ok a) × (f a ≡ Ok x)
both_read (Ok a) f x e = (a, refl, e)
both_read (Err why) f x e = cc

found_of : {A E : Type 0} (why : E) (found : Option A) (x : A) → or_fault why found ≡ Ok x → found ≡ Some x
found_of why None x e = cc
found_of why (Some y) x e = ap Some (ok_is y x e)

recorded : {A E : Type 0} (n : ℕ) (r : Result A E) (x : A) → at_record n r ≡ Ok x → r ≡ Ok x
recorded n (Ok a) x e = ap Ok (ok_is a x e)
recorded n (Err why) x e = cc

module _ {X A E : Type 0} (P : A → Type 0) (f : ℕ → X → Result A E) (good : (n : ℕ) (x : X) (a : A) → f n x ≡ Ok a → P a) where
  each_read : (n : ℕ) (xs : List X) (read : List A) → in_turn f n xs ≡ Ok read → AllByRecursion P read
  unfolding in_turn
  each_read n [] read e = subst (AllByRecursion P) (ok_is [] read e) tt
  each_read n (x ∷ xs) read e =
      let first = both_read (f n x) _ read e in
      let others = both_read (in_turn f (n + 1) xs) _ read first.2 in
      subst (AllByRecursion P) (ok_is (first.0 ∷ others.0) read others.2) (good n x first.0 first.1, each_read (n + 1) xs others.0 others.1)

module _ {X S E : Type 0} (P : S → Type 0) (Q : X → Type 0) (f : ℕ → S → X → Result S E)
    (keeps : (n : ℕ) (s : S) (x : X) (next : S) → P s → Q x → f n s x ≡ Ok next → P next) where
  each_keeps : (n : ℕ) (s : S) (xs : List X) (last : S) → P s → AllByRecursion Q xs → after_each f n s xs ≡ Ok last → P last
  unfolding after_each
  each_keeps n s [] last holds all e = subst P (ok_is s last e) holds
  each_keeps n s (x ∷ xs) last holds all e =
      let one = both_read (f n s x) _ last e in
      each_keeps (n + 1) one.0 xs last (keeps n s x one.0 holds all.0 one.1) all.1 one.2

-- keys that are free -------------------------------------------------------------------------

found_within : (p : ℕ → Bool) (a n k : ℕ) → find p (range_with_len a n) ≡ Some k → (p k ≡ true) × (a ≤ k) × (k < a + n)
found_within p a zero k e = absurd (none-some k e)
found_within p a (suc n) k e = by (p a) refl e (λ h. found_within p (a + 1) n k h)
  where
    by : (b : Bool) → p a ≡ b → cond b (Some a) (find p (range_with_len (a + 1) n)) ≡ Some k
        → (find p (range_with_len (a + 1) n) ≡ Some k → (p k ≡ true) × (a + 1 ≤ k) × (k < a + 1 + n)) → (p k ≡ true) × (a ≤ k) × (k < a + suc n)
    by true t h rest = let same = same_Some a k h in (subst (λ m. p m ≡ true) same t, omega (arith, same), omega (arith, same))
    by false t h rest = let later = rest h in (later.0, omega (arith, later.1), omega (arith, later.2))

free_is_key : (live rows : Content) (table first key : ℕ) → least_free live rows table first ≡ Some key → is_key (pos key) ≡ true
unfolding keys_from
free_is_key live rows table first key e =
    let found = found_within (is_free live rows table) first (unsigned_abs GREATEST_KEY + 1 - first) key e in
    let at = keys.cell_of table key in
    let some = ltb-true 0 key (and_parts (nat_lt 0 key) (is_none (row_at live at))
    (and_parts (nat_lt 0 key && is_none (row_at live at)) (is_none (row_at rows at)) found.0).0).0 in
    let low : 1 ≤ key = omega (arith, some) in
    let high : key ≤ unsigned_abs GREATEST_KEY = omega (arith, found.1, found.2) in
    and_from (nat_le 1 key) (nat_le key (unsigned_abs GREATEST_KEY)) (le-leb 1 key low) (le-leb key (unsigned_abs GREATEST_KEY) high)

-- whatever the key is, a row fits where it fits at key 1
fits_at_key : (tables : List TableDef) (table key : ℕ) (row : Row) → is_key (pos key) ≡ true → row_fault tables (cell_of table None) row ≡ None
    → row_fault tables (keys.cell_of table key) row ≡ None
unfolding row_fault
fits_at_key tables table key row good fits = by (slice_get tables table) fits
  where
    by : (found : Option TableDef) → fault_at found (cell_of table None) row ≡ None → fault_at found (keys.cell_of table key) row ≡ None
    by None h = h
    by (Some t) h = rw good h

module _ (tables : List TableDef) where
  put_one : (rows : Content) (cell : CellId) (row : Row) → FitsSchema tables rows → row_fault tables cell row ≡ None
      → FitsSchema tables (finite.insert rows cell row)
  put_one rows cell row fits one = put_keeps (λ c r. row_fault tables c r ≡ None) rows cell row fits one

  -- rows of a text ---------------------------------------------------------------------------

  fitted : (table : ℕ) (why : Option RowFault) (r read : LayerRow) → row_fault tables (cell_of table r.key) r.row ≡ why → if_fits why r ≡ Ok read
      → FitsAt tables table read
  fitted table None r read is e = subst (FitsAt tables table) (ok_is r read e) is
  fitted table (Some why) r read is e = cc

  row_fits : (table : ℕ) (rounded : Bool) (at : Fields) (fields : List (List ℕ)) (read : LayerRow) → row_of tables table rounded at fields ≡ Ok read
      → FitsAt tables table read
  unfolding whole_row_of
  row_fits table rounded at fields read e = by (length fields == at.width) e
    where
      whole : whole_row_of tables table rounded at fields ≡ Ok read → FitsAt tables table read
      whole h =
          let key = both_read (key_in_field (field_of fields at.key)) _ read h in
          let values = both_read (values_of at.columns fields) _ read key.2 in
          let shape = both_read (shape_in rounded at.shape fields) _ read values.2 in
          let r : LayerRow = record { key = key.0; row = record { values = values.0; shape = shape.0 } } in
          fitted table (row_fault tables (cell_of table r.key) r.row) r read refl shape.2

      by : (b : Bool) → cond b (whole_row_of tables table rounded at fields) (Err FieldCount) ≡ Ok read → FitsAt tables table read
      by true h = whole h
      by false h = cc

  text_fits : (table : ℕ) (rounded : Bool) (text : List ℕ) (rows : List LayerRow) → layer_in_text tables table rounded text ≡ Ok rows
      → AllByRecursion (FitsAt tables table) rows
  text_fits table rounded text rows e =
      let records = both_read (or_fault _ (records_in text)) _ rows e in
      by records.0 records.2
    where
      by : (records : List (List (List ℕ))) → layer_rows_of tables table rounded records ≡ Ok rows → AllByRecursion (FitsAt tables table) rows
      by [] h = cc
      by (names ∷ records) h =
          let at = both_read (at_record 1 (fields_of_table names (slice_get tables table))) _ rows h in
          each_read (FitsAt tables table) (λ m fields. at_record m (row_of tables table rounded at.0 fields))
          (λ n fields r is. row_fits table rounded at.0 fields r (recorded n (row_of tables table rounded at.0 fields) r is)) 2 records rows at.2

  -- rows at their cells ----------------------------------------------------------------------

  new_fits : (number : ℕ) (rows : Content) (cell : CellId) (row : Row) (next : Content) → FitsSchema tables rows → row_fault tables cell row ≡ None
      → put_new number rows cell row ≡ Ok next → FitsSchema tables next
  new_fits number rows cell row next fits one e = by (is_some (row_at rows cell)) e
    where
      by : (b : Bool) → cond b (Err number) (Ok (finite.insert rows cell row)) ≡ Ok next → FitsSchema tables next
      by true h = cc
      by false h = subst (FitsSchema tables) (ok_is (finite.insert rows cell row) next h) (put_one rows cell row fits one)

  own_fits : (table number : ℕ) (rows : Content) (key : Option ℤ) (row : Row) (next : Content) → FitsSchema tables rows
      → row_fault tables (cell_of table key) row ≡ None
      → with_own table number rows (record { key = key; row = row }) ≡ Ok next → FitsSchema tables next
  own_fits table number rows None row next fits one e = subst (FitsSchema tables) (ok_is rows next e) fits
  own_fits table number rows (Some key) row next fits one e = new_fits number rows (record { table = table; key = key }) row next fits one e

  given_fits : (live : Content) (table first number : ℕ) (rows : Content) (key : Option ℤ) (row : Row) (next : Content) → FitsSchema tables rows
      → row_fault tables (cell_of table key) row ≡ None
      → with_given live table first number rows (record { key = key; row = row }) ≡ Ok next → FitsSchema tables next
  given_fits live table first number rows (Some key) row next fits one e = subst (FitsSchema tables) (ok_is rows next e) fits
  given_fits live table first number rows None row next fits one e =
      let key = both_read (or_fault number (least_free live rows table first)) _ next e in
      let good = free_is_key live rows table first key.0 (found_of number (least_free live rows table first) key.0 key.1) in
      subst (FitsSchema tables) (ok_is (finite.insert rows (keys.cell_of table key.0) row) next key.2)
      (put_one rows (keys.cell_of table key.0) row fits (fits_at_key tables table key.0 row good one))

  unnumbered : {A : Type 0} (fault : LayersFault) (r : Result A ℕ) (x : A) → at_number fault r ≡ Ok x → r ≡ Ok x
  unnumbered fault (Ok a) x e = ap Ok (ok_is a x e)
  unnumbered fault (Err number) x e = cc

  keyed_fit : (live : Content) (options : LayerOptions) (table : ℕ) (rows : List LayerRow) (all : Content) → AllByRecursion (FitsAt tables table) rows
      → rows_at_keys live options table rows ≡ Ok all → FitsSchema tables all
  keyed_fit live options table rows all fit e =
      let own = both_read (at_number _ (own_rows table rows)) _ all e in
      let own_fit = each_keeps (FitsSchema tables) (FitsAt tables table) (with_own table)
      (λ n s r next holds one is. own_fits table n s r.key r.row next holds one is) FIRST_RECORD no_rows rows own.0
      (none_fit tables) fit (unnumbered _ (own_rows table rows) own.0 own.1) in
      each_keeps (FitsSchema tables) (FitsAt tables table) (with_given live table options.first_key)
      (λ n s r next holds one is. given_fits live table options.first_key n s r.key r.row next holds one is)
      FIRST_RECORD own.0 rows all own_fit fit (unnumbered _ (all_rows live table options.first_key own.0 rows) all own.2)

  of_text_is : {A : Type 0} (r : Result A (ℕ × LayerFault)) (x : A) → of_text r ≡ Ok x → r ≡ Ok x
  of_text_is (Ok a) x e = ap Ok (ok_is a x e)
  of_text_is (Err why) x e = cc

  layer_fits : (live : Content) (options : LayerOptions) (table : ℕ) (text : List ℕ) (all : Content) → layer_rows tables live options table text ≡ Ok all
      → FitsSchema tables all
  unfolding layer_rows
  layer_fits live options table text all e =
      let rows = both_read (of_text (layer_in_text tables table options.rounded text)) _ all e in
      keyed_fit live options table rows.0 all (text_fits table options.rounded text rows.0 (of_text_is (layer_in_text tables table options.rounded text) rows.0
      rows.1)) rows.2

  -- one content in place of another ------------------------------------------------------------

  -- a row that is put at a cell could stand there
  abbrev CanStand : CellId × Option Row → Type 0
  CanStand e = (row : Row) → e.1 ≡ Some row → row_fault tables e.0 row ≡ None

  set_fits : (content : Content) (cell : CellId) (row : Option Row) → CanStand (cell, row) → FitsSchema tables content
      → FitsSchema tables (set_cell content cell row)
  set_fits content cell None one fits = take_keeps (λ c r. row_fault tables c r ≡ None) content cell fits
  set_fits content cell (Some row) one fits = put_one content cell row fits (one row refl)

  over_fits : (content : Content) (es : List (CellId × Option Row)) → AllByRecursion CanStand es → FitsSchema tables content
      → FitsSchema tables (over content es)
  unfolding over
  over_fits content [] all fits = fits
  over_fits content (e ∷ es) all fits = over_fits (set_cell content e.0 e.1) es all.1 (set_fits content e.0 e.1 all.0 fits)

  rows_stand : (es : List (CellId × Row)) → ((i : ℕ) (e : CellId × Row) → slice_get es i ≡ Some e → row_fault tables e.0 e.1 ≡ None)
      → AllByRecursion CanStand (with_rows es)
  rows_stand [] each = tt
  rows_stand (e ∷ es) each = (
    λ row is. subst (λ r. row_fault tables e.0 r ≡ None) (same_Some e.1 row is) (each 0 e refl),
    rows_stand es
        (λ i f is. each (suc i) f is),
  )

  none_stand : (cells : List CellId) (es : List (CellId × Option Row)) → AllByRecursion CanStand es → AllByRecursion CanStand (with_none cells ++ es)
  none_stand [] es all = all
  none_stand (cell ∷ cells) es all = (λ row is. absurd (none-some row is), none_stand cells es all)

  replaced_fits : (content : Content) (table : ℕ) (rows : Content) → FitsSchema tables content → FitsSchema tables rows
      → FitsSchema tables (replaced content table rows)
  unfolding replaced
  replaced_fits content table rows fits rows_fit =
      over_fits content _ (none_stand (table_cells_in content table) _
      (rows_stand (finite.entries rows) (λ i e is. rows_fit e.0 e.1 (get_at cell_cmp_total cell_cmp_exact rows i e is)))) fits

  with_layer_fits : (live : Content) (options : LayerOptions) (earlier : List GivenLayer) (content : Content) (layer : GivenLayer) (next : Content)
      → FitsSchema tables content → with_layer tables live options earlier content layer ≡ Ok next → FitsSchema tables next
  unfolding with_layer
  with_layer_fits live options earlier content layer next fits e =
      let table = both_read (table_of tables earlier layer) _ next e in
      let rows = both_read (layer_rows tables live options table.0 layer.text.items) _ next table.2 in
      subst (FitsSchema tables) (ok_is (replaced content table.0 rows.0) next rows.2)
      (replaced_fits content table.0 rows.0 fits (layer_fits live options table.0 layer.text.items rows.0 rows.1))

  at_layer_is : {A : Type 0} (n : ℕ) (r : Result A (ℕ × LayersFault)) (x : A) → at_layer n r ≡ Ok x → r ≡ Ok x
  at_layer_is n (Ok a) x e = ap Ok (ok_is a x e)
  at_layer_is n (Err why) x e = cc

  all_given : (layers : List GivenLayer) → AllByRecursion (λ layer. Unit {0}) layers
  all_given [] = tt
  all_given (layer ∷ layers) = (tt, all_given layers)

  pub wanted_fits : (base taken : Content) (options : LayerOptions) (layers : List GivenLayer) (content : Content) → FitsSchema tables base
      → wanted_over tables base taken options layers ≡ Ok content → FitsSchema tables content
  unfolding wanted_over
  wanted_fits base taken options layers content fits e =
      each_keeps (FitsSchema tables) (λ layer. Unit {0}) (with_layer_at tables taken options layers)
      (λ n s layer next holds given is. with_layer_fits taken options (take n layers) s layer next holds
      (at_layer_is n (with_layer tables taken options (take n layers) s layer) next is))
      0 base layers content fits (all_given layers) e
