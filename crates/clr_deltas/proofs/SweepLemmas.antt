-- The differences that are left are the changed cells.
use Rattle.std.proofs.Common.{◌≡◌, ℕ, ◌+◌, ◌<◌, Bool, true, false, cond, not, T, suc, List, [], ◌∷◌, ◌++◌, length, get_or, take, map, filter, Some, None}
use Rattle.std.proofs.Common.{unwrap_or, refl, ap, sym, subst, ◌∙◌}
use Rattle.std.proofs.lemmas.Bool.{false≢true}
use Rattle.std.proofs.lemmas.Grind.{take_at_read}
use Rattle.std.specs.declared.option.Option.{Option}
use Rattle.std.specs.FinMap as finite
use Rattle.std.specs.FinMap.Entries.{find, is_sorted}
use Rattle.std.specs.Map.Calls.{RetainsPairs}
use Rattle.std.specs.Option.{option_map}
use Rattle.std.specs.Ordering.{eq_by_cmp}
use Rattle.clr_rows.specs.declared.cells.CellId.{CellId}
use Rattle.clr_rows.specs.declared.rows.Row.{Row}
use Rattle.clr_rows.specs.declared.cells.Change.{Change}
use Rattle.clr_rows.specs.Cells.{cell_cmp}
use Rattle.clr_rows.specs.Contents.{Content, Changes, row_at, is_changed, change_at, change_of, changes, rows_after}
use Rattle.clr_rows.specs.Same.{same}
use Rattle.clr_rows.proofs.CellOrder.{cell_cmp_total, cell_cmp_exact}
use Rattle.clr_rows.proofs.ChangeLemmas.{same_content, get-changes, find_below, sorted-filter, sorted-map, find-map, after_of}
use Rattle.clr_rows.proofs.SortedMaps.{keys-from_sorted}
use Rattle.clr_rows.proofs.RowLemmas.{tied_cells}
use Rattle.clr_rows.proofs.SameLemmas.{same_is, same_itself}
use Rattle.clr_rows.proofs.Tests.{first, second}
use Rattle.clr_deltas.specs.Differences.{Differences, RowsByCell, differences_from, seen_over, is_own, without_neutral, is_among, is_neutral_over}
use Rattle.clr_deltas.specs.Differences.{swept_cell, swept_at, IsOwnOver}
use Rattle.clr_deltas.proofs.DifferenceLemmas.{row-seen_over, neutral_taken}

-- what `retain` leaves, where the test keeps no state and changes no value
pub filtered_from_retain : {K X F : Type 0} (T : F → K → X → Bool → X → F → Type 0) (p : K × X → Bool) (f : F) → ((k : K) (v : X) (b : Bool) (w : X) (g : F)
    → T f k v b w g → (b ≡ p (k, v)) × (w ≡ v) × (g ≡ f))
    → (es kept : List (K × X)) → RetainsPairs T f es kept → kept ≡ filter p es
filtered_from_retain T p f says [] kept h = h
filtered_from_retain T p f says (e ∷ es) kept h =
    let s = says e.0 e.1 h.0 h.1 h.2 h.4 in
    let rest = filtered_from_retain T p f says es h.3 (subst (λ u. RetainsPairs T u es h.3) s.2 h.5) in
    h.6 ∙ (λ j. cond (s.0 j) ((e.0, s.1 j) ∷ rest j) (rest j))

pub swept_differences : (below : Content) (es kept : RowsByCell) → T (is_sorted cell_cmp es) → kept ≡ filter (is_own below) es → finite.from_sorted kept
    ≡ without_neutral below (finite.from_sorted es)
unfolding without_neutral
swept_differences below es kept sorted e = ap (λ (es : RowsByCell). finite.from_sorted es) (e
    ∙ ap (filter (is_own below)) (sym (finite.entries-from_sorted cell_cmp es sorted)))

-- what a filter leaves of a cell
abbrev kept_of : Content → CellId → Option (Option Row) → Option (Option Row)
kept_of below q None = None
kept_of below q (Some row) = cond (is_own below (q, row)) (Some row) None

find_own : (below : Content) (es : RowsByCell) (q : CellId) → T (is_sorted cell_cmp es) → find cell_cmp q (filter (is_own below) es)
    ≡ kept_of below q (find cell_cmp q es)
find_own below [] q sorted = refl
find_own below (e ∷ es) q sorted =
    let rest = find_own below es q (second _ _ sorted) in
    elim (eq_by_cmp cell_cmp q e.0) as (λ t. eq_by_cmp cell_cmp q e.0 ≡ t → find cell_cmp q (filter (is_own below) (e ∷ es))
    ≡ kept_of below q (cond t (Some e.1) (find cell_cmp q es))) [
      | true ↦ λ t. let none : find cell_cmp q es ≡ None = ap (λ c. find cell_cmp c es) (tied_cells q e.0 t) ∙ find_below e.0 es (first _ _ sorted) in
          ap (λ (c : CellId). find cell_cmp q (cond (not (same (row_at below c) e.1)) (e ∷ filter (is_own below) es) (filter (is_own below) es)))
          (sym (tied_cells q e.0 t))
          ∙ elim (not (same (row_at below q) e.1)) as (λ r. find cell_cmp q (cond r (e ∷ filter (is_own below) es) (filter (is_own below) es))
          ≡ cond r (Some e.1) None) [
            | true ↦ ap (λ b. cond b (Some e.1) (find cell_cmp q (filter (is_own below) es))) t
            | false ↦ rest ∙ ap (kept_of below q) none
          ]
      | false ↦ λ t.
          elim (is_own below e) as (λ r. find cell_cmp q (cond r (e ∷ filter (is_own below) es) (filter (is_own below) es))
          ≡ find cell_cmp q (filter (is_own below) es)) [
            | true ↦ ap (λ b. cond b (Some e.1) (find cell_cmp q (filter (is_own below) es))) t
            | false ↦ refl
          ] ∙ rest
    ] refl

-- a difference is left at just the changed cells
pub get-swept : (below : Content) (d : Differences) (q : CellId) → finite.get (without_neutral below d) q ≡ change_at below (seen_over below d) q
unfolding without_neutral
get-swept below d q =
    finite.get-from_sorted cell_cmp _ q (sorted-filter (is_own below) (finite.entries d) (finite.entries_sorted d))
    ∙ find_own below (finite.entries d) q (finite.entries_sorted d)
    ∙ ap (kept_of below q) (sym (finite.get-entries d q))
    ∙ by (finite.get d q)
    ∙ ap (λ (row : Option Row). cond (not (same (row_at below q) row)) (Some row) None) (sym (row-seen_over below d q))
  where
    none : (row : Option Row) → None ≡ cond (not (same row row)) (Some row) None
    none row = sym (ap (λ b. cond (not b) (Some row) None) (same_itself row))

    by : (o : Option (Option Row)) → kept_of below q o ≡ cond (not (same (row_at below q) (unwrap_or o (row_at below q)))) (Some (unwrap_or o (row_at below q)))
        None
    by None = none (row_at below q)
    by (Some row) = refl

pub seen-swept : (below : Content) (d : Differences) → seen_over below (without_neutral below d) ≡ seen_over below d
seen-swept below d = same_content _ _ (λ q.
    row-seen_over below (without_neutral below d) q ∙ ap (λ o. unwrap_or o (row_at below q)) (get-swept below d q)
    ∙ by (row_at below q) (row_at (seen_over below d) q) (same (row_at below q) (row_at (seen_over below d) q)) refl)
  where
    by : (a b : Option Row) (t : Bool) → same a b ≡ t → unwrap_or (cond (not t) (Some b) None) a ≡ b
    by a b true e = same_is a b e
    by a b false e = refl

pub after_sorted : (changed : Changes) → T (is_sorted cell_cmp (rows_after changed))
after_sorted changed = sorted-map after_of (finite.entries changed) (finite.entries_sorted changed)

-- the differences of a content from another, in order, are the rows after the changes
pub listed-differences : (below content : Content) → finite.entries (differences_from below content) ≡ rows_after (changes below content)
listed-differences below content = finite.entries-from_sorted cell_cmp (rows_after (changes below content)) (after_sorted (changes below content))

cells_after : (es : List (CellId × Change)) → length (map (λ (e : CellId × Option Row). e.0) (map (λ (e : CellId × Change). (e.0, e.1.after)) es))
    ≡ length (map (λ (e : CellId × Change). e.0) es)
cells_after [] = refl
cells_after (e ∷ es) = ap suc (cells_after es)

-- where none is neutral, differences are what the content that is seen differs in
pub swept-differences : (below : Content) (d : Differences) → differences_from below (seen_over below d) ≡ without_neutral below d
swept-differences below d =
    let changed = changes below (seen_over below d) in
    finite.same_map cell_cmp_total cell_cmp_exact _ _ (λ q.
    finite.get-from_sorted cell_cmp _ q (after_sorted changed) ∙ find-map after_of (finite.entries changed) q
    ∙ ap (option_map after_of) (sym (finite.get-entries changed q) ∙ get-changes below (seen_over below d) q)
    ∙ by q (is_changed below (seen_over below d) q) ∙ sym (get-swept below d q))
  where
    by : (q : CellId) (b : Bool) → option_map after_of (cond b (Some (change_of below (seen_over below d) q)) None)
        ≡ cond b (Some (row_at (seen_over below d) q)) None
    by q true = refl
    by q false = refl

pub count-swept : (below : Content) (d : Differences) → length (finite.keys (without_neutral below d))
    ≡ length (finite.keys (changes below (seen_over below d)))
count-swept below d =
    let changed = changes below (seen_over below d) in
    sym (ap length (keys-from_sorted (rows_after changed) (without_neutral below d) (after_sorted changed) (swept-differences below d)))
    ∙ cells_after (finite.entries changed) ∙ keys_are changed
  where
    keys_are : (changed : Changes) → length (map (λ (e : CellId × Change). e.0) (finite.entries changed)) ≡ length (finite.keys changed)
    keys_are changed = refl

-- differences taken away at some cells -------------------------------------------------------------------

-- what is neutral at the cell goes, and nothing else
get-swept_cell : (below : Content) (d : Differences) (cell q : CellId) → finite.get (swept_cell below d cell) q
    ≡ cond (is_neutral_over (row_at below cell) (finite.get d cell)) (cond (eq_by_cmp cell_cmp q cell) None (finite.get d q)) (finite.get d q)
unfolding swept_cell
get-swept_cell below d cell q = by (is_neutral_over (row_at below cell) (finite.get d cell))
  where
    by : (b : Bool) → finite.get (cond b (finite.remove d cell) d) q ≡ cond b (cond (eq_by_cmp cell_cmp q cell) None (finite.get d q)) (finite.get d q)
    by true = finite.get-remove cell_cmp_total d cell q
    by false = refl

seen-swept_cell : (below : Content) (d : Differences) (cell : CellId) → seen_over below (swept_cell below d cell) ≡ seen_over below d
unfolding swept_cell
seen-swept_cell below d cell = by (finite.get d cell) refl
  where
    at : (row : Option Row) (b : Bool) → same (row_at below cell) row ≡ b → finite.get d cell ≡ Some row → seen_over below (cond b (finite.remove d cell) d)
        ≡ seen_over below d
    at row true e is = neutral_taken below d cell (is ∙ ap (λ (r : Option Row). Some r) (sym (same_is (row_at below cell) row e)))
    at row false e is = refl

    by : (o : Option (Option Row)) → finite.get d cell ≡ o → seen_over below (cond (is_neutral_over (row_at below cell) o) (finite.remove d cell) d)
        ≡ seen_over below d
    by None is = refl
    by (Some row) is = at row (same (row_at below cell) row) refl is

pub seen-swept_at : (below : Content) (cells : List CellId) (d : Differences) → seen_over below (swept_at below cells d) ≡ seen_over below d
unfolding swept_at
seen-swept_at below [] d = refl
seen-swept_at below (cell ∷ cells) d = seen-swept_at below cells (swept_cell below d cell) ∙ seen-swept_cell below d cell

-- what isn't neutral over any row stays so
own_cell : (below : Content) (d : Differences) (cell q : CellId) (row : Option Row) → IsOwnOver row (finite.get d q)
    → IsOwnOver row (finite.get (swept_cell below d cell) q)
own_cell below d cell q row own =
    subst (IsOwnOver row) (sym (get-swept_cell below d cell q)) (by (is_neutral_over (row_at below cell) (finite.get d cell)) (eq_by_cmp cell_cmp q cell))
  where
    by : (b c : Bool) → IsOwnOver row (cond b (cond c None (finite.get d q)) (finite.get d q))
    by true true = refl
    by true false = own
    by false c = own

pub own_stays : (below : Content) (cells : List CellId) (d : Differences) (q : CellId) (row : Option Row) → IsOwnOver row (finite.get d q)
    → IsOwnOver row (finite.get (swept_at below cells d) q)
unfolding swept_at
own_stays below [] d q row own = own
own_stays below (cell ∷ cells) d q row own = own_stays below cells (swept_cell below d cell) q row (own_cell below d cell q row own)

-- nothing neutral is left at the cells
own_here : (below : Content) (d : Differences) (cell q : CellId) → eq_by_cmp cell_cmp q cell ≡ true
    → IsOwnOver (row_at below q) (finite.get (swept_cell below d cell) q)
own_here below d cell q tied =
    subst (IsOwnOver (row_at below q)) (sym (get-swept_cell below d cell q
    ∙ ap (λ c. cond (is_neutral_over (row_at below cell) (finite.get d cell)) (cond c None (finite.get d q)) (finite.get d q)) tied))
    (by (is_neutral_over (row_at below cell) (finite.get d cell)) (ap (λ (c : CellId). is_neutral_over (row_at below c) (finite.get d c))
    (tied_cells q cell tied)))
  where
    by : (b : Bool) → is_neutral_over (row_at below q) (finite.get d q) ≡ b → IsOwnOver (row_at below q) (cond b None (finite.get d q))
    by true e = refl
    by false e = e

pub own_made : (below : Content) (cells : List CellId) (d : Differences) (q : CellId) → is_among cells q ≡ true
    → IsOwnOver (row_at below q) (finite.get (swept_at below cells d) q)
unfolding swept_at
own_made below [] d q among = absurd (false≢true among)
own_made below (cell ∷ cells) d q among = by (eq_by_cmp cell_cmp q cell) refl among (own_made below cells (swept_cell below d cell) q)
  where
    by : (b : Bool) → eq_by_cmp cell_cmp q cell ≡ b → cond b true (is_among cells q) ≡ true
        → (is_among cells q ≡ true → IsOwnOver (row_at below q) (finite.get (swept_at below cells (swept_cell below d cell)) q))
        → IsOwnOver (row_at below q) (finite.get (swept_at below cells (swept_cell below d cell)) q)
    by true e h rest = own_stays below cells (swept_cell below d cell) q (row_at below q) (own_here below d cell q e)
    by false e h rest = rest h

-- one cell more
swept_at-push : (below : Content) (cells : List CellId) (cell : CellId) (d : Differences) → swept_at below (cells ++ cell ∷ []) d
    ≡ swept_cell below (swept_at below cells d) cell
unfolding swept_at
swept_at-push below [] cell d = refl
swept_at-push below (c ∷ cells) cell d = swept_at-push below cells cell (swept_cell below d c)

pub swept_at-next : (below : Content) (cells : List CellId) (i : ℕ) (c : CellId) (d e f : Differences) → i < length cells → e ≡ swept_at below (take i cells) d
    → f ≡ swept_cell below e (get_or cells i c) → f ≡ swept_at below (take (i + 1) cells) d
swept_at-next below cells i c d e f lt so_far is =
    is ∙ ap (λ (x : Differences). swept_cell below x (get_or cells i c)) so_far
    ∙ sym (ap (λ (qs : List CellId). swept_at below qs d) (take_at_read cells i c lt).1 ∙ swept_at-push below (take i cells) (get_or cells i c) d)

-- where nothing is neutral a sweep takes nothing away, and a sweep leaves nothing neutral -----------------

pub own_swept : (below : Content) (d : Differences) (q : CellId) → IsOwnOver (row_at below q) (finite.get (without_neutral below d) q)
own_swept below d q = subst (IsOwnOver (row_at below q)) (sym (get-swept below d q)) (by (same (row_at below q) (row_at (seen_over below d) q)) refl)
  where
    by : (b : Bool) → same (row_at below q) (row_at (seen_over below d) q) ≡ b
        → IsOwnOver (row_at below q) (cond (not b) (Some (row_at (seen_over below d) q)) None)
    by true e = refl
    by false e = e

pub swept_own : (below : Content) (d : Differences) → ((q : CellId) → IsOwnOver (row_at below q) (finite.get d q)) → without_neutral below d ≡ d
swept_own below d own = finite.same_map cell_cmp_total cell_cmp_exact _ _ (λ q.
    get-swept below d q ∙ ap (λ (r : Option Row). cond (not (same (row_at below q) r)) (Some r) None) (row-seen_over below d q) ∙ by q (finite.get d q) (own q))
  where
    by : (q : CellId) (o : Option (Option Row)) → IsOwnOver (row_at below q) o
        → cond (not (same (row_at below q) (unwrap_or o (row_at below q)))) (Some (unwrap_or o (row_at below q))) None ≡ o
    by q None e = ap (λ b. cond (not b) (Some (row_at below q)) None) (same_itself (row_at below q))
    by q (Some row) e = ap (λ b. cond (not b) (Some row) None) e

-- the law of differences of which none is neutral: they are what the content that is seen differs in
pub own_differences : (below : Content) (d : Differences) → ((q : CellId) → IsOwnOver (row_at below q) (finite.get d q)) → d
    ≡ differences_from below (seen_over below d)
own_differences below d own = sym (swept_own below d own) ∙ sym (swept-differences below d)
