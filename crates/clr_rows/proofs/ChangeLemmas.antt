-- What changes between two contents, a content taken over by changes, and conflicts, cell by cell.
use Rattle.std.proofs.Common.{◌≡◌, Bool, true, false, cond, not, ◌&&◌, ◌||◌, T, List, [], ◌∷◌, ◌++◌, map, filter, Option, Some, None, is_some, unwrap_or}
use Rattle.std.proofs.Common.{if◌then◌else◌, refl, sym, ap, ◌∙◌}
use Rattle.std.specs.FinMap as finite
use Rattle.std.specs.FinMap.Entries.{find, is_sorted, below_all}
use Rattle.std.specs.List.{list_any, AllByRecursion}
use Rattle.std.specs.List.Sorted.{IsStrictlySortedBy}
use Rattle.std.specs.Option.{option_map}
use Rattle.std.specs.Ordering.{eq_by_cmp, is_eq}
use Rattle.std.specs.Cmp.{tied_itself}
use Rattle.std.specs.declared.cmp.Ordering.TheVariants.{Less}
use Rattle.std.proofs.lemmas.Bool.{false≢true, not-false}
use Rattle.std.proofs.lemmas.List.Folds.{list_any-append}
use Rattle.clr_rows.specs.declared.cells.CellId.{CellId}
use Rattle.clr_rows.specs.declared.rows.Row.{Row}
use Rattle.clr_rows.specs.declared.cells.Change.{Change}
use Rattle.clr_rows.specs.Cells.{cell_cmp}
use Rattle.clr_rows.specs.Same.{same}
use Rattle.clr_rows.specs.Contents.{Content, Changes, row_at, cells_of, set_cell, over, is_changed, change_at, change_of, changes, rows_after, taken_over}
use Rattle.clr_rows.specs.Contents.{is_conflict, conflicts}
use Rattle.clr_rows.proofs.CellOrder.{cell_cmp_total, cell_cmp_exact}
use Rattle.clr_rows.proofs.RowLemmas.{tied_cells}
use Rattle.clr_rows.proofs.SameLemmas.{same_is, same_itself}
use Rattle.clr_rows.proofs.Tests.{first, second, both, less}

pub same_content : (m n : Content) → ((q : CellId) → row_at m q ≡ row_at n q) → m ≡ n
same_content = finite.same_map cell_cmp_total cell_cmp_exact

pub same_changes : (m n : Changes) → ((q : CellId) → finite.get m q ≡ finite.get n q) → m ≡ n
same_changes = finite.same_map cell_cmp_total cell_cmp_exact

pub tied_self : (q : CellId) → eq_by_cmp cell_cmp q q ≡ true
tied_self q = ap is_eq (tied_itself cell_cmp_total q)

-- changes between two contents ---------------------------------------------------------------

module _ {X : Type 0} (p : CellId → Bool) (v : CellId → X) where
  abbrev chosen : List CellId → List (CellId × X)
  chosen ks = map (λ k. (k, v k)) (filter p ks)

  find_chosen_first : (k : CellId) (ks : List CellId) (q : CellId) → find cell_cmp q (chosen (k ∷ ks))
      ≡ cond (p k && eq_by_cmp cell_cmp q k) (Some (v k)) (find cell_cmp q (chosen ks))
  find_chosen_first k ks q =
      elim (p k) as (λ b. find cell_cmp q (map (λ k. (k, v k)) (cond b (k ∷ filter p ks) (filter p ks)))
      ≡ cond (b && eq_by_cmp cell_cmp q k) (Some (v k)) (find cell_cmp q (chosen ks))) [ true ↦ refl | false ↦ refl ]

  repeated : (b r : Bool) (x : X) → cond (b && true) (Some x) (cond (b && r) (Some x) None) ≡ cond (b && true) (Some x) None
  repeated true r x = refl
  repeated false r x = refl

  not_here : (b : Bool) (x : X) (r : Option X) → cond (b && false) (Some x) r ≡ r
  not_here true x r = refl
  not_here false x r = refl

  nowhere : (b : Bool) (x : X) → None ≡ cond (b && false) (Some x) None
  nowhere true x = refl
  nowhere false x = refl

  -- what the chosen keys, each with its value, have at a key
  find_chosen : (ks : List CellId) (q : CellId) → find cell_cmp q (chosen ks) ≡ cond (p q && list_any (eq_by_cmp cell_cmp q) ks) (Some (v q)) None
  find_chosen [] q = nowhere (p q) (v q)
  find_chosen (k ∷ ks) q =
      let rest = find_chosen ks q in
      find_chosen_first k ks q
      ∙ elim (eq_by_cmp cell_cmp q k) as (λ t. eq_by_cmp cell_cmp q k ≡ t → cond (p k && t) (Some (v k)) (find cell_cmp q (chosen ks))
      ≡ cond (p q && (t || list_any (eq_by_cmp cell_cmp q) ks)) (Some (v q)) None) [
        | true ↦ λ e. ap (λ c. cond (p c && true) (Some (v c)) (find cell_cmp q (chosen ks))) (sym (tied_cells q k e))
            ∙ ap (λ r. cond (p q && true) (Some (v q)) r) rest ∙ repeated (p q) _ (v q)
        | false ↦ λ e. not_here (p k) (v k) _ ∙ rest
      ] refl

-- rows that differ aren't both missing
one_is_there : (a b : Option Row) → (not (same a b) && (is_some a || is_some b)) ≡ not (same a b)
unfolding same
one_is_there None None = refl
one_is_there None (Some b) = refl
one_is_there (Some a) None = refl
one_is_there (Some a) (Some b) = elim (not (same (Some a) (Some b))) as (λ x. (x && true) ≡ x) [ true ↦ refl | false ↦ refl ]

-- a changed cell has a row in one of the contents
changed_cell : (base current : Content) (q : CellId) → (is_changed base current q && list_any (eq_by_cmp cell_cmp q) (cells_of base ++ cells_of current))
    ≡ is_changed base current q
changed_cell base current q =
    ap (λ b. is_changed base current q && b) (list_any-append (eq_by_cmp cell_cmp q) (cells_of base) (cells_of current)
    ∙ (λ i. sym (finite.contains_key-keys base q) i || sym (finite.contains_key-keys current q) i))
    ∙ one_is_there (row_at base q) (row_at current q)

pub get-changes : (base current : Content) (q : CellId) → finite.get (changes base current) q
    ≡ (if is_changed base current q then Some (change_of base current q) else None)
unfolding changes
get-changes base current q =
    finite.get-from_entries cell_cmp_total _ q ∙ find_chosen (is_changed base current) (change_of base current) (cells_of base ++ cells_of current) q
    ∙ ap (λ b. cond b (Some (change_of base current q)) None) (changed_cell base current q)

-- a content compared with itself has no changes
pub changes-self : (content : Content) → changes content content ≡ finite.empty
changes-self content = same_changes _ _ (λ q. get-changes content content q
    ∙ ap (λ b. cond (not b) (Some (change_of content content q)) None) (same_itself (row_at content q)) ∙ sym (finite.get-empty cell_cmp q))

-- rows put over a content --------------------------------------------------------------------

-- no cell stands twice
abbrev pub AreApart : List (CellId × Option Row) → Type 0
AreApart [] = Unit {0}
AreApart (e ∷ es) = (find cell_cmp e.0 es ≡ None) × AreApart es

pub row-set_cell : (content : Content) (cell : CellId) (row : Option Row) (q : CellId) → row_at (set_cell content cell row) q
    ≡ (if eq_by_cmp cell_cmp q cell then row else row_at content q)
row-set_cell content cell None q = finite.get-remove cell_cmp_total content cell q
row-set_cell content cell (Some row) q = finite.get-insert cell_cmp_total content cell row q

pub row-over : (content : Content) (es : List (CellId × Option Row)) (q : CellId) → AreApart es → row_at (over content es) q
    ≡ unwrap_or (find cell_cmp q es) (row_at content q)
unfolding over
row-over content [] q apart = refl
row-over content (e ∷ es) q apart =
    row-over (set_cell content e.0 e.1) es q apart.1 ∙ ap (unwrap_or (find cell_cmp q es)) (row-set_cell content e.0 e.1 q)
    ∙ elim (eq_by_cmp cell_cmp q e.0) as (λ t. eq_by_cmp cell_cmp q e.0 ≡ t → unwrap_or (find cell_cmp q es) (cond t e.1 (row_at content q))
    ≡ unwrap_or (cond t (Some e.1) (find cell_cmp q es)) (row_at content q)) [
      | true ↦ λ t. ap (λ (found : Option (Option Row)). unwrap_or found e.1) (ap (λ c. find cell_cmp c es) (tied_cells q e.0 t) ∙ apart.0)
      | false ↦ λ t. refl
    ] refl

module _ {X : Type 0} where
  -- a cell below all others isn't among them
  pub find_below : (cell : CellId) (es : List (CellId × X)) → T (below_all cell_cmp cell es) → find cell_cmp cell es ≡ None
  find_below cell [] below = refl
  find_below cell (e ∷ es) below =
      ap (λ r. cond (is_eq r) (Some e.1) (find cell_cmp cell es)) (less _ (first _ _ below)) ∙ find_below cell es (second _ _ below)

  module _ (p : CellId × X → Bool) where
    below-filter : (cell : CellId) (es : List (CellId × X)) → T (below_all cell_cmp cell es) → T (below_all cell_cmp cell (filter p es))
    below-filter cell [] below = tt
    below-filter cell (e ∷ es) below =
        let rest = below-filter cell es (second _ _ below) in
        elim (p e) as (λ b. T (below_all cell_cmp cell (cond b (e ∷ filter p es) (filter p es)))) [ true ↦ both _ _ (first _ _ below) rest | false ↦ rest ]

    pub sorted-filter : (es : List (CellId × X)) → T (is_sorted cell_cmp es) → T (is_sorted cell_cmp (filter p es))
    sorted-filter [] sorted = tt
    sorted-filter (e ∷ es) sorted =
        let rest = sorted-filter es (second _ _ sorted) in
        elim (p e) as (λ b. T (is_sorted cell_cmp (cond b (e ∷ filter p es) (filter p es)))) [
          | true ↦ both _ _ (below-filter e.0 es (first _ _ sorted)) rest
          | false ↦ rest
        ]

  module _ {Y : Type 0} (f : X → Y) where
    below-map : (cell : CellId) (es : List (CellId × X)) → T (below_all cell_cmp cell es) → T (below_all cell_cmp cell (map (λ e. (e.0, f e.1)) es))
    below-map cell [] below = tt
    below-map cell (e ∷ es) below = both _ _ (first _ _ below) (below-map cell es (second _ _ below))

    pub sorted-map : (es : List (CellId × X)) → T (is_sorted cell_cmp es) → T (is_sorted cell_cmp (map (λ e. (e.0, f e.1)) es))
    sorted-map [] sorted = tt
    sorted-map (e ∷ es) sorted = both _ _ (below-map e.0 es (first _ _ sorted)) (sorted-map es (second _ _ sorted))

    pub find-map : (es : List (CellId × X)) (q : CellId) → find cell_cmp q (map (λ e. (e.0, f e.1)) es) ≡ option_map f (find cell_cmp q es)
    find-map [] q = refl
    find-map (e ∷ es) q =
        ap (cond (eq_by_cmp cell_cmp q e.0) (Some (f e.1))) (find-map es q)
        ∙ elim (eq_by_cmp cell_cmp q e.0) as (λ b. cond b (Some (f e.1)) (option_map f (find cell_cmp q es))
        ≡ option_map f (cond b (Some e.1) (find cell_cmp q es))) [ true ↦ refl | false ↦ refl ]

-- pairs in order are apart
pub apart_from_sorted : (es : List (CellId × Option Row)) → T (is_sorted cell_cmp es) → AreApart es
apart_from_sorted [] sorted = tt
apart_from_sorted (e ∷ es) sorted = (find_below e.0 es (first _ _ sorted), apart_from_sorted es (second _ _ sorted))

-- the row after a change
abbrev pub after_of : Change → Option Row
after_of change = change.after

pub find-rows_after : (changed : Changes) (q : CellId) → find cell_cmp q (rows_after changed) ≡ option_map after_of (finite.get changed q)
find-rows_after changed q = find-map after_of (finite.entries changed) q ∙ ap (option_map after_of) (sym (finite.get-entries changed q))

pub row-taken_over : (content : Content) (changed : Changes) (q : CellId) → row_at (taken_over content changed) q
    ≡ unwrap_or (option_map after_of (finite.get changed q)) (row_at content q)
row-taken_over content changed q =
    row-over content (rows_after changed) q (apart_from_sorted _ (sorted-map after_of (finite.entries changed) (finite.entries_sorted changed)))
    ∙ ap (λ found. unwrap_or found (row_at content q)) (find-rows_after changed q)

-- a content taken over by what changed between two others
pub row-merged : (target base current : Content) (q : CellId) → row_at (taken_over target (changes base current)) q
    ≡ unwrap_or (change_at base current q) (row_at target q)
row-merged target base current q =
    row-taken_over target (changes base current) q
    ∙ ap (λ found. unwrap_or (option_map after_of found) (row_at target q)) (get-changes base current q)
    ∙ elim (is_changed base current q) as (λ b. unwrap_or (option_map after_of (cond b (Some (change_of base current q)) None)) (row_at target q)
    ≡ unwrap_or (cond b (Some (row_at current q)) None) (row_at target q)) [ true ↦ refl | false ↦ refl ]

-- the changes put over the base give the content that they came from
pub taken_over-own : (base current : Content) → taken_over base (changes base current) ≡ current
taken_over-own base current = same_content _ _ (λ q. row-merged base base current q ∙ go q (same (row_at base q) (row_at current q)) refl)
  where
    go : (q : CellId) (b : Bool) → same (row_at base q) (row_at current q) ≡ b → unwrap_or (cond (not b) (Some (row_at current q)) None) (row_at base q)
        ≡ row_at current q
    go q true e = same_is _ _ e
    go q false e = refl

-- conflicts ----------------------------------------------------------------------------------

-- whether a target is in conflict with a change at a cell, if there is one
abbrev pub has_conflict : Content → CellId → Option Change → Bool
has_conflict target cell None = false
has_conflict target cell (Some change) = is_conflict target (cell, change)

find_conflict : (target : Content) (es : List (CellId × Change)) (q : CellId) → T (is_sorted cell_cmp es)
    → list_any (eq_by_cmp cell_cmp q) (map (λ e. e.0) (filter (is_conflict target) es)) ≡ has_conflict target q (find cell_cmp q es)
find_conflict target [] q sorted = refl
find_conflict target (e ∷ es) q sorted =
    let rest = find_conflict target es q (second _ _ sorted) in
    elim (eq_by_cmp cell_cmp q e.0) as (λ t. eq_by_cmp cell_cmp q e.0 ≡ t
    → list_any (eq_by_cmp cell_cmp q) (map (λ e. e.0) (filter (is_conflict target) (e ∷ es)))
    ≡ has_conflict target q (cond t (Some e.1) (find cell_cmp q es))) [
      | true ↦ λ t. let none : find cell_cmp q es ≡ None = ap (λ c. find cell_cmp c es) (tied_cells q e.0 t) ∙ find_below e.0 es (first _ _ sorted) in
          ap (λ (r : Bool). list_any (eq_by_cmp cell_cmp q) (map (λ e. e.0) (cond r (e ∷ filter (is_conflict target) es) (filter (is_conflict target) es))))
          (ap (λ c. not (same (row_at target c) e.1.before)) (sym (tied_cells q e.0 t)))
          ∙ elim (not (same (row_at target q) e.1.before)) as
          (λ r. list_any (eq_by_cmp cell_cmp q) (map (λ e. e.0) (cond r (e ∷ filter (is_conflict target) es) (filter (is_conflict target) es))) ≡ r) [
            | true ↦ ap (λ b. b || list_any (eq_by_cmp cell_cmp q) (map (λ e. e.0) (filter (is_conflict target) es))) t
            | false ↦ rest ∙ ap (has_conflict target q) none
          ]
      | false ↦ λ t.
          elim (is_conflict target e) as (λ r. list_any (eq_by_cmp cell_cmp q)
          (map (λ e. e.0) (cond r (e ∷ filter (is_conflict target) es) (filter (is_conflict target) es)))
          ≡ list_any (eq_by_cmp cell_cmp q) (map (λ e. e.0) (filter (is_conflict target) es))) [
            | true ↦ ap (λ b. b || list_any (eq_by_cmp cell_cmp q) (map (λ e. e.0) (filter (is_conflict target) es))) t
            | false ↦ refl
          ] ∙ rest
    ] refl

-- the cells in conflict are just the changed cells where the target's row isn't the row before
pub any-conflicts : (target : Content) (changed : Changes) (q : CellId) → list_any (eq_by_cmp cell_cmp q) (conflicts target changed)
    ≡ has_conflict target q (finite.get changed q)
unfolding conflicts
any-conflicts target changed q = find_conflict target (finite.entries changed) q (finite.entries_sorted changed)
    ∙ ap (has_conflict target q) (sym (finite.get-entries changed q))

-- the target has the row before each change
abbrev pub IsUntouched : Content → Changes → Type 0
IsUntouched target changed = (q : CellId) (change : Change) → finite.get changed q ≡ Some change → row_at target q ≡ change.before

pub untouched_from_none : (target : Content) (changed : Changes) → conflicts target changed ≡ [] → IsUntouched target changed
untouched_from_none target changed none q change is =
    same_is _ _ (not-false _ (sym (ap (has_conflict target q) is) ∙ sym (any-conflicts target changed q) ∙ ap (list_any (eq_by_cmp cell_cmp q)) none))

pub none_from_untouched : (target : Content) (changed : Changes) → IsUntouched target changed → conflicts target changed ≡ []
none_from_untouched target changed agree = nil (conflicts target changed) (λ q. any-conflicts target changed q ∙ none q (finite.get changed q) refl)
  where
    none : (q : CellId) (found : Option Change) → finite.get changed q ≡ found → has_conflict target q found ≡ false
    none q None is = refl
    none q (Some change) is = ap (λ r. not (same r change.before)) (agree q change is) ∙ ap not (same_itself change.before)

    nil : (cs : List CellId) → ((q : CellId) → list_any (eq_by_cmp cell_cmp q) cs ≡ false) → cs ≡ []
    nil [] h = refl
    nil (c ∷ cs) h = absurd (false≢true (sym (h c) ∙ ap (λ b. b || list_any (eq_by_cmp cell_cmp c) cs) (tied_self c)))
