-- Layers of LIVE ask for LIVE's own content.
use Rattle.std.proofs.Common.{◌≡◌, ℕ, ◌+◌, ◌<◌, ◌==◌, ◌++◌, Bool, true, false, cond, T, List, [], ◌∷◌, Option, Some, None, is_some, unwrap_or, suc}
use Rattle.std.proofs.Common.{Result, Ok, Err, map, filter, take, refl, sym, ap, subst, ◌∙◌, arith}
use Rattle.std.specs.FinMap as finite
use Rattle.std.specs.FinMap.Entries.{find, is_sorted, below_all}
use Rattle.std.specs.List.{All, AllByRecursion, list_any}
use Rattle.std.specs.Prelude.{slice_get}
use Rattle.std.specs.Option.{option_map}
use Rattle.std.specs.Ordering.{eq_by_cmp, is_eq}
use Rattle.std.specs.Cmp.{eq_by_cmp_equiv}
use Rattle.std.proofs.lemmas.Bool.{eqb-true, false_from_ne_true}
use Rattle.std.proofs.lemmas.List.{get_or-take, length-take-le}
use Rattle.std.proofs.lemmas.List.Folds.{list_any_none}
use Rattle.std.proofs.lemmas.Option.{get_or_from_slice_get, none-some, slice_get_within}
use Rattle.std.proofs.lemmas.Slice.Eq.{bytes_eq-Decides}
use Rattle.clr_rows.specs.declared.cells.CellId.{CellId}
use Rattle.clr_rows.specs.declared.rows.Row.{Row}
use Rattle.clr_rows.specs.declared.tables.TableDef.{TableDef}
use Rattle.clr_rows.specs.Cells.{cell_cmp}
use Rattle.clr_rows.specs.Contents.{Changes, Content, no_rows, over, row_at, set_cell}
use Rattle.clr_rows.specs.Schemas.{table_named}
use Rattle.clr_rows.specs.Sheets.{with_none, with_rows}
use Rattle.clr_rows.proofs.CellOrder.{cell_cmp_exact, cell_cmp_total}
use Rattle.clr_rows.proofs.ChangeLemmas.{apart_from_sorted, changes-self, find-map, find_below, row-over, same_content, sorted-filter, sorted-map}
use Rattle.clr_rows.proofs.RowLemmas.{tied_cells}
use Rattle.clr_rows.proofs.SortedMaps.{from_sorted-empty}
use Rattle.clr_rows.proofs.Tests.{first, second, less}
use Rattle.clr_readings.specs.Readings.{◌>>=◌, or_fault}
use Rattle.clr_layer_text.specs.Layers.{layer_in_text}
use Rattle.clr_layer_text.specs.TableRows.{rows_among, rows_of_table}
use Rattle.clr_layer_text.specs.declared.faults.LayerFault.{LayerFault}
use Rattle.clr_layer_text.specs.declared.rows.LayerRow.{LayerRow}
use Rattle.clr_layer_changes.specs.declared.faults.LayersFault.{LayersFault}
use Rattle.clr_layer_changes.specs.declared.faults.LayersFault.TheVariants.{KeyTwice, NoKey, NoTable, TableTwice}
use Rattle.clr_layer_changes.specs.declared.limits.TheConstants.{FIRST_RECORD}
use Rattle.clr_layer_changes.specs.declared.options.GivenLayer.{GivenLayer}
use Rattle.clr_layer_changes.specs.declared.options.LayerOptions.{LayerOptions}
use Rattle.clr_layer_changes.specs.Changes.{edit_of, edits_between}
use Rattle.clr_layer_changes.specs.LayerRows.{all_rows, at_number, layer_rows, of_text, own_rows, put_new, rows_at_keys, with_given, with_own}
use Rattle.clr_layer_changes.specs.ReadBack.{AreOfOtherTables, IsLayerOf, LayersOfLiveLaw}
use Rattle.clr_layer_changes.specs.Turns.{after_each}
use Rattle.clr_layer_changes.specs.Wanted.{at_layer, is_in, is_layer_of_table, replaced, table_cells_in, table_of, wanted, wanted_over, with_layer, with_layer_at}

-- the rows of a table, each at its cell ---------------------------------------------------------

-- none of some cells has a row
abbrev AreFree : Content → List (CellId × Row) → Type 0
AreFree rows es = AllByRecursion (λ e. row_at rows e.0 ≡ None) es

free_still : (rows : Content) (cell : CellId) (row : Row) (es : List (CellId × Row)) → AreFree rows es → T (below_all cell_cmp cell es)
    → AreFree (finite.insert rows cell row) es
free_still rows cell row [] free below = tt
free_still rows cell row (e ∷ es) free below =
    let other : eq_by_cmp cell_cmp e.0 cell ≡ false =
    (eq_by_cmp_equiv cell_cmp_total).symm e.0 cell ∙ ap is_eq (less _ (first _ _ below)) in (
      finite.get-insert cell_cmp_total rows cell row e.0 ∙ ap (λ b. cond b (Some row) (row_at rows e.0)) other ∙ free.0,
      free_still rows cell row es free.1 (second _ _ below),
    )

all_free : (es : List (CellId × Row)) → AreFree no_rows es
all_free [] = tt
all_free (e ∷ es) = (finite.get-empty cell_cmp e.0, all_free es)

-- a row is put at its cell, where there is none
put_there : (at n : ℕ) (rows : Content) (e : CellId × Row) → (e.0.table == at) ≡ true → row_at rows e.0 ≡ None
    → with_own at n rows (record { key = Some e.0.key; row = e.1 }) ≡ Ok (finite.insert rows e.0 e.1)
put_there at n rows e is free =
    let table : e.0.table ≡ at = eqb-true e.0.table at is in
    let cell = ap (λ (t : ℕ). let c : CellId = record { table = t; key = e.0.key } in c) (sym table) in
    ap (λ (c : CellId). put_new n rows c e.1) cell
    ∙ ap (λ (r : Option Row). cond (is_some r) (Err n) (Ok (finite.insert rows e.0 e.1))) free

own_again : (at n : ℕ) (rows : Content) (es : List (CellId × Row)) → T (is_sorted cell_cmp es) → AreFree rows es
    → after_each (with_own at) n rows (rows_among at es) ≡ Ok (over rows (with_rows (filter (is_in at) es)))
unfolding after_each over
own_again at n rows [] sorted free = refl
own_again at n rows (e ∷ es) sorted free =
    let here = own_again at n rows es (second _ _ sorted) free.1 in
    let behind = own_again at (n + 1) (finite.insert rows e.0 e.1) es (second _ _ sorted) (free_still rows e.0 e.1 es free.1 (first _ _ sorted)) in
    by (e.0.table == at) refl here behind
  where
    by : (b : Bool) → (e.0.table == at) ≡ b
        → after_each (with_own at) n rows (rows_among at es) ≡ Ok (over rows (with_rows (filter (is_in at) es)))
        → after_each (with_own at) (n + 1) (finite.insert rows e.0 e.1) (rows_among at es)
        ≡ Ok (over (finite.insert rows e.0 e.1) (with_rows (filter (is_in at) es)))
        → after_each (with_own at) n rows (cond b (record { key = Some e.0.key; row = e.1 } ∷ rows_among at es) (rows_among at es))
        ≡ Ok (over rows (with_rows (cond b (e ∷ filter (is_in at) es) (filter (is_in at) es))))
    by true is here behind =
        ap (λ (r : Result Content ℕ). r >>= λ next. after_each (with_own at) (n + 1) next (rows_among at es)) (put_there at n rows e is free.0) ∙ behind
    by false is here behind = here

-- each row has a key of its own
given_again : (live : Content) (at least n : ℕ) (own : Content) (es : List (CellId × Row))
    → after_each (with_given live at least) n own (rows_among at es) ≡ Ok own
unfolding after_each
given_again live at least n own [] = refl
given_again live at least n own (e ∷ es) =
    let here = given_again live at least n own es in
    let behind = given_again live at least (n + 1) own es in
    elim (e.0.table == at) as (λ b. after_each (with_given live at least) n own
    (cond b (record { key = Some e.0.key; row = e.1 } ∷ rows_among at es) (rows_among at es)) ≡ Ok own) [ true ↦ behind | false ↦ here ]

-- the rows that a content has in a table
abbrev of_table : Content → ℕ → Content
of_table content at = over no_rows (with_rows (filter (is_in at) (finite.entries content)))

module _ (tables : List TableDef) (live : Content) (options : LayerOptions) where
  keys_again : (at : ℕ) → rows_at_keys live options at (rows_of_table live at) ≡ Ok (of_table live at)
  keys_again at =
      let es = finite.entries live in
      let own : own_rows at (rows_of_table live at) ≡ Ok (of_table live at) =
      own_again at FIRST_RECORD no_rows es (finite.entries_sorted live) (all_free es) in
      let all : all_rows live at options.first_key (of_table live at) (rows_of_table live at) ≡ Ok (of_table live at) =
      given_again live at options.first_key FIRST_RECORD (of_table live at) es in
      ap (λ (r : Result Content ℕ). at_number KeyTwice r >>= λ own. at_number NoKey (all_rows live at options.first_key own (rows_of_table live at))) own
      ∙ ap (λ (r : Result Content ℕ). at_number NoKey r) all

  rows_again : (at : ℕ) (text : List ℕ) → layer_in_text tables at options.rounded text ≡ Ok (rows_of_table live at)
      → layer_rows tables live options at text ≡ Ok (of_table live at)
  unfolding layer_rows
  rows_again at text read =
      ap (λ (r : Result (List LayerRow) (ℕ × LayerFault)). of_text r >>= λ rows. rows_at_keys live options at rows) read ∙ keys_again at

-- one content in place of another ---------------------------------------------------------------

pub over_both : (content : Content) (es fs : List (CellId × Option Row)) → over content (es ++ fs) ≡ over (over content es) fs
unfolding over
over_both content [] fs = refl
over_both content (e ∷ es) fs = over_both (set_cell content e.0 e.1) es fs

no_row : Row → Option Row
no_row row = None

none_at : (es : List (CellId × Row)) → with_none (map (λ e. e.0) es) ≡ map (λ e. (e.0, no_row e.1)) es
unfolding no_row
none_at [] = refl
none_at (e ∷ es) = ap (λ (fs : List (CellId × Option Row)). (e.0, None) ∷ fs) (none_at es)

-- what some rows of a content have at a cell, the content has there
module _ (p : CellId × Row → Bool) (q : CellId) (row : Row) where
  find_still : (es : List (CellId × Row)) → T (is_sorted cell_cmp es) → find cell_cmp q (filter p es) ≡ Some row → find cell_cmp q es ≡ Some row
  find_still [] sorted is = is
  find_still (e ∷ es) sorted is = by (p e) (eq_by_cmp cell_cmp q e.0) refl (find_still es (second _ _ sorted)) is
    where
      nowhere : eq_by_cmp cell_cmp q e.0 ≡ true → find cell_cmp q es ≡ None
      nowhere t = ap (λ c. find cell_cmp c es) (tied_cells q e.0 t) ∙ find_below e.0 es (first _ _ sorted)

      turned : (t : Bool) → eq_by_cmp cell_cmp q e.0 ≡ t → cond (eq_by_cmp cell_cmp q e.0) (Some e.1) (find cell_cmp q (filter p es)) ≡ Some row
          → cond t (Some e.1) (find cell_cmp q (filter p es)) ≡ Some row
      turned t tied h = ap (λ u. cond u (Some e.1) (find cell_cmp q (filter p es))) (sym tied) ∙ h

      by : (b t : Bool) → eq_by_cmp cell_cmp q e.0 ≡ t → (find cell_cmp q (filter p es) ≡ Some row → find cell_cmp q es ≡ Some row)
          → find cell_cmp q (cond b (e ∷ filter p es) (filter p es)) ≡ Some row → cond t (Some e.1) (find cell_cmp q es) ≡ Some row
      by true true tied rest h = turned true tied h
      by true false tied rest h = rest (turned false tied h)
      by false true tied rest h = absurd (none-some row (sym (nowhere tied) ∙ rest h))
      by false false tied rest h = rest h

-- the rows of a table in place of themselves
module _ (live : Content) (at : ℕ) (q : CellId) where
  abbrev mine : List (CellId × Row)
  mine = filter (is_in at) (finite.entries live)

  abbrev without : Content
  without = over live (with_none (table_cells_in live at))

  mine_sorted : T (is_sorted cell_cmp mine)
  mine_sorted = sorted-filter (is_in at) (finite.entries live) (finite.entries_sorted live)

  row_put : (rows : Content) → row_at (over without (with_rows (finite.entries rows))) q
      ≡ unwrap_or (option_map Some (row_at rows q)) (row_at without q)
  row_put rows =
      row-over without (with_rows (finite.entries rows)) q (apart_from_sorted _ (sorted-map Some (finite.entries rows) (finite.entries_sorted rows)))
      ∙ ap (λ (found : Option (Option Row)). unwrap_or found (row_at without q)) (find-map Some (finite.entries rows) q
      ∙ ap (option_map Some) (sym (finite.get-entries rows q)))

  row_taken : row_at without q ≡ unwrap_or (option_map no_row (find cell_cmp q mine)) (row_at live q)
  row_taken =
      ap (λ (es : List (CellId × Option Row)). row_at (over live es) q) (none_at mine)
      ∙ row-over live (map (λ e. (e.0, no_row e.1)) mine) q (apart_from_sorted _ (sorted-map no_row mine mine_sorted))
      ∙ ap (λ (found : Option (Option Row)). unwrap_or found (row_at live q)) (find-map no_row mine q)

  itself : (found : Option Row) → unwrap_or (option_map Some found) None ≡ found
  itself None = refl
  itself (Some row) = refl

  row_kept : row_at (of_table live at) q ≡ find cell_cmp q mine
  row_kept =
      row-over no_rows (with_rows mine) q (apart_from_sorted _ (sorted-map Some mine mine_sorted))
      ∙ ap (λ (found : Option (Option Row)). unwrap_or found (row_at no_rows q)) (find-map Some mine q)
      ∙ ap (unwrap_or (option_map Some (find cell_cmp q mine))) (finite.get-empty {X = Row} cell_cmp q) ∙ itself (find cell_cmp q mine)

  whole : (found : Option Row) → find cell_cmp q mine ≡ found → unwrap_or (option_map Some found) (unwrap_or (option_map no_row found) (row_at live q))
      ≡ row_at live q
  whole None is = refl
  whole (Some row) is = sym (finite.get-entries live q ∙ find_still (is_in at) q row (finite.entries live) (finite.entries_sorted live) is)

  row_again : row_at (over live (with_none (table_cells_in live at) ++ with_rows (finite.entries (of_table live at)))) q ≡ row_at live q
  row_again =
      ap (λ (content : Content). row_at content q) (over_both live (with_none (table_cells_in live at)) (with_rows (finite.entries (of_table live at))))
      ∙ row_put (of_table live at) ∙ ap (unwrap_or (option_map Some (row_at (of_table live at) q))) row_taken
      ∙ ap (λ (kept : Option Row). unwrap_or (option_map Some kept) (unwrap_or (option_map no_row (find cell_cmp q mine)) (row_at live q))) row_kept
      ∙ whole (find cell_cmp q mine) refl

replaced_again : (live : Content) (at : ℕ) → replaced live at (of_table live at) ≡ live
unfolding replaced
replaced_again live at = same_content _ _ (row_again live at)

-- layers, one after another -----------------------------------------------------------------------

-- what none of some items changes
unchanged : {X S E : Type 0} (f : ℕ → S → X → Result S E) (s : S) (n : ℕ) (xs : List X)
    → ((i : ℕ) (x : X) → slice_get xs i ≡ Some x → f (n + i) s x ≡ Ok s) → after_each f n s xs ≡ Ok s
unfolding after_each
unchanged f s n [] each = refl
unchanged {S = S} {E = E} f s n (x ∷ xs) each =
    let here : n + 0 ≡ n = omega arith in
    let one : f n s x ≡ Ok s = subst (λ (m : ℕ). f m s x ≡ Ok s) here (each 0 x refl) in
    ap (λ (r : Result S E). r >>= λ next. after_each f (n + 1) next xs) one
    ∙ unchanged f s (n + 1) xs (λ i y is. let behind : n + suc i ≡ n + 1 + i = omega arith in subst (λ (m : ℕ). f m s y ≡ Ok s) behind (each (suc i) y is))

-- no layer before one is of its table
none_before : (layers : List GivenLayer) (n : ℕ) (layer : GivenLayer) → AreOfOtherTables layers → slice_get layers n ≡ Some layer
    → list_any (is_layer_of_table layer.table) (take n layers) ≡ false
none_before layers n layer others is =
    list_any_none (is_layer_of_table layer.table) (take n layers) (λ k d lt.
    let within = slice_get_within layers n layer is in
    let count = length-take-le n layers (omega (arith, within)) in
    let before : k < n = omega (arith, lt, count) in
    let other = get_or_from_slice_get layers n layer d is in
    subst (λ (x : GivenLayer). is_layer_of_table layer.table x ≡ false) (sym (get_or-take n layers k d before))
    (false_from_ne_true _ (λ same. others k n d before within ((bytes_eq-Decides _ _).0 same ∙ ap (λ (x : GivenLayer). x.table) (sym other)))))

module _ (tables : List TableDef) (live : Content) (options : LayerOptions) where
  layer_changes_nothing : (earlier : List GivenLayer) (layer : GivenLayer) → IsLayerOf tables live layer
      → list_any (is_layer_of_table layer.table) earlier ≡ false → with_layer tables live options earlier live layer ≡ Ok live
  unfolding with_layer
  layer_changes_nothing earlier layer given none =
      let at = given.0 in
      let text = layer.text.items in
      let named : table_of tables earlier layer ≡ Ok at =
      ap (λ (b : Bool). cond b (Err (0, TableTwice)) (or_fault (0, NoTable) (table_named tables layer.table))) none
      ∙ ap (λ (found : Option ℕ). or_fault (0, NoTable) found) given.1 in
      let rows : layer_rows tables live options at text ≡ Ok (of_table live at) = rows_again tables live options at text (given.2.1.again options.rounded) in
      ap (λ (r : Result ℕ (ℕ × LayersFault)). r >>= λ table. layer_rows tables live options table text >>= λ found. Ok (replaced live table found)) named
      ∙ ap (λ (r : Result Content (ℕ × LayersFault)). r >>= λ found. Ok (replaced live at found)) rows
      ∙ ap Ok (replaced_again live at)

  all_change_nothing : (layers : List GivenLayer) → All (IsLayerOf tables live) layers → AreOfOtherTables layers → wanted tables live options layers ≡ Ok live
  unfolding wanted_over
  all_change_nothing layers given others =
      unchanged (with_layer_at tables live options layers) live 0 layers (λ i layer is.
      let within = slice_get_within layers i layer is in
      let one = subst (IsLayerOf tables live) (get_or_from_slice_get layers i layer layer is) (given i layer within) in
      let here : 0 + i ≡ i = omega arith in
      subst (λ (m : ℕ). with_layer_at tables live options layers m live layer ≡ Ok live) (sym here)
      (ap (at_layer i) (layer_changes_nothing (take i layers) layer one (none_before layers i layer others is))))

no_edits : (live : Content) → edits_between live live ≡ []
no_edits live =
    let none = changes-self live ∙ sym (from_sorted-empty cell_cmp_total cell_cmp_exact) in
    ap (λ (changed : Changes). map edit_of (finite.entries changed)) none ∙ ap (map edit_of) (finite.entries-from_sorted cell_cmp [] tt)

pub layers_of_live : LayersOfLiveLaw
layers_of_live tables live options layers given others = (all_change_nothing tables live options layers given others, no_edits live)
