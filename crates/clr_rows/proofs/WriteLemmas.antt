-- Rows put over a content at some cells: those that are given last stand.
use Rattle.std.proofs.Common.{◌≡◌, ℕ, zero, suc, ◌+◌, ◌<◌, Bool, true, false, cond, not, ◌&&◌, ◌||◌, List, [], ◌∷◌, ◌++◌, length, map, filter, take, get_or}
use Rattle.std.proofs.Common.{is_some, unwrap_or, Option, Some, None, refl, sym, ap, ◌∙◌}
use Rattle.std.specs.FinMap as finite
use Rattle.std.specs.List.{list_any}
use Rattle.std.specs.Option.{option_map}
use Rattle.std.specs.Ordering.{eq_by_cmp}
use Rattle.std.proofs.lemmas.Bool.{false≢true, or_parts}
use Rattle.std.proofs.lemmas.List.{take_more, map-append}
use Rattle.clr_rows.specs.declared.cells.CellId.{CellId}
use Rattle.clr_rows.specs.declared.rows.Row.{Row}
use Rattle.clr_rows.specs.Cells.{cell_cmp}
use Rattle.clr_rows.specs.Contents.{Content, no_rows, row_at, set_cell, over}
use Rattle.clr_rows.specs.Sheets.{placeholder, named_cells, cells_without_rows, with_none, with_placeholders, with_rows}
use Rattle.clr_rows.proofs.ChangeLemmas.{same_content, row-set_cell, row-over, apart_from_sorted, sorted-map, find-map, tied_self}
use Rattle.clr_rows.proofs.RowLemmas.{tied_cells}

-- one row after another ------------------------------------------------------------------------

pub over-none : (m : Content) → over m [] ≡ m
unfolding over
over-none m = refl

pub over-first : (m : Content) (e : CellId × Option Row) (es : List (CellId × Option Row)) → over m (e ∷ es) ≡ over (set_cell m e.0 e.1) es
unfolding over
over-first m e es = refl

over-last : (m : Content) (es : List (CellId × Option Row)) (e : CellId × Option Row) → over m (es ++ e ∷ []) ≡ set_cell (over m es) e.0 e.1
unfolding over
over-last m [] e = refl
over-last m (f ∷ es) e = over-last (set_cell m f.0 f.1) es e

-- one row, or none, at each of some cells
abbrev everywhere : Option Row → List CellId → List (CellId × Option Row)
everywhere row cells = map (λ cell. (cell, row)) cells

pub over_more : (m : Content) (row : Option Row) (cells : List CellId) (i : ℕ) (d : CellId) → i < length cells → over m (everywhere row (take (i + 1) cells))
    ≡ set_cell (over m (everywhere row (take i cells))) (get_or cells i d) row
over_more m row cells i d less =
    ap (λ cs. over m (everywhere row cs)) (take_more cells i d less)
    ∙ ap (over m) (map-append (λ cell. (cell, row)) (take i cells) (get_or cells i d ∷ []))
    ∙ over-last m (everywhere row (take i cells)) (get_or cells i d, row)

-- cell by cell ---------------------------------------------------------------------------------

abbrev pub is_among : CellId → List CellId → Bool
is_among q cells = list_any (eq_by_cmp cell_cmp q) cells

at_either : (t b : Bool) (row old : Option Row) → cond b row (cond t row old) ≡ cond (t || b) row old
at_either true true row old = refl
at_either true false row old = refl
at_either false b row old = refl

row-everywhere : (m : Content) (row : Option Row) (cells : List CellId) (q : CellId) → row_at (over m (everywhere row cells)) q
    ≡ cond (is_among q cells) row (row_at m q)
row-everywhere m row [] q = ap (λ (n : Content). row_at n q) (over-none m)
row-everywhere m row (c ∷ cs) q =
    ap (λ (n : Content). row_at n q) (over-first m (c, row) (everywhere row cs))
    ∙ row-everywhere (set_cell m c row) row cs q
    ∙ ap (cond (is_among q cs) row) (row-set_cell m c row q)
    ∙ at_either (eq_by_cmp cell_cmp q c) (is_among q cs) row (row_at m q)

module _ (p : CellId → Bool) where
  -- a cell is among those that pass a test where it is among them all and passes
  among_passing : (cells : List CellId) (q : CellId) → is_among q (filter p cells) ≡ (p q && is_among q cells)
  among_passing [] q = elim (p q) as (λ b. false ≡ (b && false)) [ true ↦ refl | false ↦ refl ]
  among_passing (c ∷ cs) q = by (among_passing cs q) (eq_by_cmp cell_cmp q c) (p c) (p q) refl refl refl
    where
      by : is_among q (filter p cs) ≡ (p q && is_among q cs) → (t b r : Bool) → eq_by_cmp cell_cmp q c ≡ t → p c ≡ b → p q ≡ r
          → is_among q (cond b (c ∷ filter p cs) (filter p cs)) ≡ (r && (t || is_among q cs))
      by rest true true true tie e f = ap (λ t. t || is_among q (filter p cs)) tie
      by rest true true false tie e f = absurd (false≢true (sym f ∙ ap p (tied_cells q c tie) ∙ e))
      by rest true false true tie e f = absurd (false≢true (sym e ∙ ap p (sym (tied_cells q c tie)) ∙ f))
      by rest true false false tie e f = rest ∙ ap (λ r. r && is_among q cs) f
      by rest false true r tie e f = ap (λ t. t || is_among q (filter p cs)) tie ∙ rest ∙ ap (λ r. r && is_among q cs) f
      by rest false false r tie e f = rest ∙ ap (λ r. r && is_among q cs) f

none_before : (q : CellId) (cells : List CellId) (i : ℕ) → is_among q cells ≡ false → is_among q (take i cells) ≡ false
none_before q [] zero none = refl
none_before q [] (suc i) none = refl
none_before q (c ∷ cs) zero none = refl
none_before q (c ∷ cs) (suc i) none =
    let parts = or_parts (eq_by_cmp cell_cmp q c) (is_among q cs) none in
    ap (λ t. t || is_among q (take i cs)) parts.0 ∙ none_before q cs i parts.1

-- rows taken away again ------------------------------------------------------------------------

-- rows put at the first of some cells, and then taken at them all
pub undone : (m : Content) (cells : List CellId) (i : ℕ) → over (over m (with_placeholders (take i cells))) (with_none cells) ≡ over m (with_none cells)
undone m cells i = same_content _ _ (λ q.
    row-everywhere (over m (with_placeholders (take i cells))) None cells q
    ∙ ap (cond (is_among q cells) None) (row-everywhere m (Some placeholder) (take i cells) q)
    ∙ by q (is_among q cells) refl
    ∙ sym (row-everywhere m None cells q))
  where
    by : (q : CellId) (t : Bool) → is_among q cells ≡ t → cond t None (cond (is_among q (take i cells)) (Some placeholder) (row_at m q))
        ≡ cond t None (row_at m q)
    by q true e = refl
    by q false e = ap (λ b. cond b (Some placeholder) (row_at m q)) (none_before q cells i e)

is_missing : (row : Option Row) (t : Bool) → cond (not (is_some row) && t) None row ≡ row
is_missing None true = refl
is_missing None false = refl
is_missing (Some r) t = refl

-- nothing is taken at cells that have no row
pub nothing_taken : (m : Content) (cells : List CellId) → over m (with_none (cells_without_rows m cells)) ≡ m
nothing_taken m cells = same_content _ _ (λ q.
    row-everywhere m None (cells_without_rows m cells) q
    ∙ ap (λ t. cond t None (row_at m q)) (among_passing (λ c. not (is_some (row_at m c))) cells q)
    ∙ is_missing (row_at m q) (is_among q cells))

-- the rows that are given last -----------------------------------------------------------------

agreed : (m n : Content) (es : List (CellId × Option Row)) (q : CellId) → row_at m q ≡ row_at n q → row_at (over m es) q ≡ row_at (over n es) q
unfolding over
agreed m n [] q same = same
agreed m n (e ∷ es) q same =
    agreed (set_cell m e.0 e.1) (set_cell n e.0 e.1) es q
    (row-set_cell m e.0 e.1 q ∙ ap (cond (eq_by_cmp cell_cmp q e.0) e.1) same ∙ sym (row-set_cell n e.0 e.1 q))

-- what stands at a cell that is named doesn't depend on what stood
named_row : (m n : Content) (es : List (CellId × Option Row)) (q : CellId) → is_among q (map (λ e. e.0) es) ≡ true → row_at (over m es) q ≡ row_at (over n es) q
unfolding over
named_row m n [] q named = absurd (false≢true named)
named_row m n (e ∷ es) q named = by (named_row (set_cell m e.0 e.1) (set_cell n e.0 e.1) es q) (eq_by_cmp cell_cmp q e.0) refl
  where
    by : (is_among q (map (λ e. e.0) es) ≡ true → row_at (over (set_cell m e.0 e.1) es) q ≡ row_at (over (set_cell n e.0 e.1) es) q) → (t : Bool)
        → eq_by_cmp cell_cmp q e.0 ≡ t → row_at (over (set_cell m e.0 e.1) es) q ≡ row_at (over (set_cell n e.0 e.1) es) q
    by rest true tie =
        agreed (set_cell m e.0 e.1) (set_cell n e.0 e.1) es q
        (row-set_cell m e.0 e.1 q ∙ ap (λ t. cond t e.1 (row_at m q)) tie ∙ sym (row-set_cell n e.0 e.1 q ∙ ap (λ t. cond t e.1 (row_at n q)) tie))
    by rest false tie = rest (sym (ap (λ t. t || is_among q (map (λ e. e.0) es)) tie) ∙ named)

-- what stood at a cell that isn't named stays
other_row : (m : Content) (es : List (CellId × Option Row)) (q : CellId) → is_among q (map (λ e. e.0) es) ≡ false → row_at (over m es) q ≡ row_at m q
unfolding over
other_row m [] q other = refl
other_row m (e ∷ es) q other =
    let parts = or_parts (eq_by_cmp cell_cmp q e.0) (is_among q (map (λ e. e.0) es)) other in
    other_row (set_cell m e.0 e.1) es q parts.1 ∙ row-set_cell m e.0 e.1 q ∙ ap (λ t. cond t e.1 (row_at m q)) parts.0

row-with_rows : (m rows : Content) (q : CellId) → row_at (over m (with_rows (finite.entries rows))) q ≡ unwrap_or (option_map Some (row_at rows q)) (row_at m q)
row-with_rows m rows q =
    row-over m (with_rows (finite.entries rows)) q (apart_from_sorted _ (sorted-map Some (finite.entries rows) (finite.entries_sorted rows)))
    ∙ ap (λ found. unwrap_or found (row_at m q)) (find-map Some (finite.entries rows) q ∙ ap (option_map Some) (sym (finite.get-entries rows q)))

module _ (m : Content) (es : List (CellId × Option Row)) where
  abbrev named : List CellId
  named = named_cells es

  abbrev last : Content
  last = over no_rows es

  -- a row at each cell that is named, and none where none is given last
  abbrev ready : Content
  ready = over (over m (with_placeholders (cells_without_rows m named))) (with_none (cells_without_rows last named))

  row-ready : (q : CellId) → row_at ready q ≡ cond (not (is_some (row_at last q)) && is_among q named) None (cond (not (is_some (row_at m q))
      && is_among q named) (Some placeholder) (row_at m q))
  row-ready q =
      row-everywhere (over m (with_placeholders (cells_without_rows m named))) None (cells_without_rows last named) q
      ∙ (λ i. cond (among_passing (λ c. not (is_some (row_at last c))) named q i) None (row-everywhere m (Some placeholder) (cells_without_rows m named) q i))
      ∙ ap (λ t. cond (not (is_some (row_at last q)) && is_among q named) None (cond t (Some placeholder) (row_at m q)))
      (among_passing (λ c. not (is_some (row_at m c))) named q)

  none_last : (q : CellId) → is_among q named ≡ false → row_at last q ≡ None
  none_last q other = other_row no_rows es q other ∙ finite.get-empty cell_cmp q

  filled : (row old : Option Row) → is_some row ≡ true
      → is_some (cond (not (is_some row) && true) None (cond (not (is_some old) && true) (Some placeholder) old)) ≡ true
  filled None old h = absurd (false≢true h)
  filled (Some r) None h = refl
  filled (Some r) (Some s) h = refl

  -- where a row is given last there is one
  pub has_place : (q : CellId) → is_some (row_at last q) ≡ true → is_some (row_at ready q) ≡ true
  has_place q there = by (is_among q named) refl
    where
      by : (t : Bool) → is_among q named ≡ t → is_some (row_at ready q) ≡ true
      by true e = ap is_some (row-ready q
          ∙ ap (λ t. cond (not (is_some (row_at last q)) && t) None (cond (not (is_some (row_at m q)) && t) (Some placeholder) (row_at m q))) e)
          ∙ filled (row_at last q) (row_at m q) there
      by false e = absurd (false≢true (sym (ap is_some (none_last q e)) ∙ there))

  at_named : (row old : Option Row) → unwrap_or (option_map Some row) (cond (not (is_some row) && true) None old) ≡ row
  at_named None old = refl
  at_named (Some r) old = refl

  at_other : (row old : Option Row) → row ≡ None
      → unwrap_or (option_map Some row) (cond (not (is_some row) && false) None (cond (not (is_some old) && false) (Some placeholder) old)) ≡ old
  at_other None None none = refl
  at_other None (Some s) none = refl
  at_other (Some r) old none = cc

  -- the rows that are given last moved to their places are all that was to be put
  pub all_written : over ready (with_rows (finite.entries last)) ≡ over m es
  all_written = same_content _ _ (λ q. row-with_rows ready last q ∙ ap (unwrap_or (option_map Some (row_at last q))) (row-ready q)
      ∙ by q (is_among q named) refl)
    where
      by : (q : CellId) (t : Bool) → is_among q named ≡ t → unwrap_or (option_map Some (row_at last q)) (cond (not (is_some (row_at last q))
          && is_among q named) None (cond (not (is_some (row_at m q)) && is_among q named) (Some placeholder) (row_at m q))) ≡ row_at (over m es) q
      by q true e =
          ap (λ t. unwrap_or (option_map Some (row_at last q)) (cond (not (is_some (row_at last q)) && t) None (cond (not (is_some (row_at m q))
          && t) (Some placeholder) (row_at m q)))) e
          ∙ at_named (row_at last q) _ ∙ sym (named_row m no_rows es q e)
      by q false e =
          ap (λ t. unwrap_or (option_map Some (row_at last q)) (cond (not (is_some (row_at last q)) && t) None (cond (not (is_some (row_at m q))
          && t) (Some placeholder) (row_at m q)))) e
          ∙ at_other (row_at last q) (row_at m q) (none_last q e) ∙ sym (other_row m es q e)

  module _ (rows : Content) (cleared : List CellId) (room taken : Content) (rows_are : rows ≡ last) (cleared_are : cleared ≡ cells_without_rows rows named)
      (room_is : room ≡ over m (with_placeholders (cells_without_rows m named))) (taken_is : taken ≡ over room (with_none cleared)) where
    taken-ready : taken ≡ ready
    taken-ready = taken_is ∙ (λ i. over (room_is i) (with_none (cleared_are i)))
        ∙ ap (λ (n : Content). over (over m (with_placeholders (cells_without_rows m named))) (with_none (cells_without_rows n named))) rows_are

    pub rows_have_places : (q : CellId) → is_some (row_at rows q) ≡ true → is_some (row_at taken q) ≡ true
    rows_have_places q there = ap (λ (n : Content). is_some (row_at n q)) taken-ready ∙ has_place q (sym (ap (λ (n : Content). is_some (row_at n q)) rows_are)
        ∙ there)

    pub moved_is : over taken (with_rows (finite.entries rows)) ≡ over m es
    moved_is = (λ i. over (taken-ready i) (with_rows (finite.entries (rows_are i)))) ∙ all_written

-- rows moved one by one ------------------------------------------------------------------------

replaced : (old new : Option Row) (t : Bool) → is_some new ≡ true → is_some old ≡ true → is_some (cond t new old) ≡ true
replaced old new true n o = n
replaced old new false n o = o

-- a cell that has a row has one when a row is put at another
pub put_leaves : (m : Content) (cell q : CellId) (row : Row) → is_some (row_at m q) ≡ true → is_some (row_at (finite.insert m cell row) q) ≡ true
put_leaves m cell q row there = ap is_some (row-set_cell m cell (Some row) q) ∙ replaced (row_at m q) (Some row) (eq_by_cmp cell_cmp q cell) refl there

-- the first of the rows is among them
pub first_found : (e : CellId × Row) (es : List (CellId × Row)) → is_some (finite.find cell_cmp e.0 (e ∷ es)) ≡ true
first_found e es = ap (λ t. is_some (cond t (Some e.1) (finite.find cell_cmp e.0 es))) (tied_self e.0)

-- a row that is among the later ones is among them all
pub later_found : (q : CellId) (e : CellId × Row) (es : List (CellId × Row)) → is_some (finite.find cell_cmp q es) ≡ true
    → is_some (finite.find cell_cmp q (e ∷ es)) ≡ true
later_found q e es there = replaced (finite.find cell_cmp q es) (Some e.1) (eq_by_cmp cell_cmp q e.0) refl there
