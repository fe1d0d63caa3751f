-- Changes from one content to another are found at the cells in which the two can differ.
use Rattle.std.proofs.Common.{◌≡◌, ℕ, ◌+◌, ◌<◌, Bool, true, false, cond, List, [], ◌∷◌, ◌++◌, Some, None, length, map, take, get_or, unwrap_or, refl, ap}
use Rattle.std.proofs.Common.{sym, ◌∙◌}
use Rattle.std.specs.declared.option.Option.{Option}
use Rattle.std.specs.Option.{option_map}
use Rattle.std.specs.FinMap as finite
use Rattle.std.specs.FinMap.Entries.{find}
use Rattle.std.specs.Ordering.{eq_by_cmp}
use Rattle.clr_rows.specs.declared.cells.CellId.{CellId}
use Rattle.clr_rows.specs.declared.rows.Row.{Row}
use Rattle.clr_rows.specs.declared.cells.Change.{Change}
use Rattle.clr_rows.specs.Cells.{cell_cmp}
use Rattle.clr_rows.specs.Contents.{Content, Changes, row_at, changes, taken_over}
use Rattle.clr_rows.proofs.ChangeLemmas.{same_changes, get-changes, after_of, row-taken_over, taken_over-own}
use Rattle.clr_rows.proofs.RowLemmas.{tied_cells}
use Rattle.clr_change.specs.ChangeSets.{set_change, change_from}
use Rattle.clr_change.proofs.SetLemmas.{get-set_change}
use Rattle.clr_deltas.specs.Differences.{Differences, is_among}
use Rattle.clr_deltas.proofs.DifferenceLemmas.{not_among}
use Rattle.std.proofs.lemmas.Grind.{take_at_read}
use Rattle.clr_contents.specs.Comparing.{set_at}
use Rattle.clr_contents.proofs.ChangeLemmas.{no_change}

get-set_at : (before after : Content) (cells : List CellId) (changed : Changes) (q : CellId)
    → finite.get (set_at before after changed cells) q ≡ cond (is_among cells q) (change_from (row_at before q) (row_at after q)) (finite.get changed q)
unfolding set_at
get-set_at before after [] changed q = refl
get-set_at before after (cell ∷ cells) changed q =
    get-set_at before after cells (set_change changed cell (row_at before cell) (row_at after cell)) q
    ∙ ap (cond (is_among cells q) (change_from (row_at before q) (row_at after q))) (get-set_change changed cell (row_at before cell) (row_at after cell) q)
    ∙ by (eq_by_cmp cell_cmp q cell) (is_among cells q) refl
  where
    by : (tie among : Bool) → eq_by_cmp cell_cmp q cell ≡ tie
        → cond among (change_from (row_at before q) (row_at after q)) (cond tie (change_from (row_at before cell) (row_at after cell)) (finite.get changed q))
        ≡ cond (cond tie true among) (change_from (row_at before q) (row_at after q)) (finite.get changed q)
    by true true t = refl
    by true false t = ap (λ c. change_from (row_at before c) (row_at after c)) (sym (tied_cells q cell t))
    by false true t = refl
    by false false t = refl

set_at-push : (before after : Content) (cells : List CellId) (cell : CellId) (changed : Changes)
    → set_at before after changed (cells ++ cell ∷ []) ≡ set_change (set_at before after changed cells) cell (row_at before cell) (row_at after cell)
unfolding set_at
set_at-push before after [] cell changed = refl
set_at-push before after (c ∷ cells) cell changed = set_at-push before after cells cell (set_change changed c (row_at before c) (row_at after c))

-- one more cell is set
pub set_at-next : (before after : Content) (cells : List CellId) (i : ℕ) (c : CellId) (changed so_far next : Changes) (r s : Option Row) → i < length cells
    → so_far ≡ set_at before after changed (take i cells)
    → next ≡ set_change so_far (get_or cells i c) r s → r ≡ row_at before (get_or cells i c) → s ≡ row_at after (get_or cells i c)
    → next ≡ set_at before after changed (take (i + 1) cells)
set_at-next before after cells i c changed so_far next r s lt is_so is old new =
    let cell = get_or cells i c in
    is ∙ (λ k. set_change (is_so k) cell (old k) (new k))
    ∙ sym (ap (set_at before after changed) (take_at_read cells i c lt).1 ∙ set_at-push before after (take i cells) cell changed)

-- where two contents agree at all other cells, what is set at these is all that changes
pub all_set : (before after : Content) (cells : List CellId) → ((q : CellId) → is_among cells q ≡ false → row_at before q ≡ row_at after q)
    → set_at before after finite.empty cells ≡ changes before after
all_set before after cells agree = same_changes _ _ (λ q.
    get-set_at before after cells finite.empty q
    ∙ ap (cond (is_among cells q) (change_from (row_at before q) (row_at after q))) (finite.get-empty {X = Change} cell_cmp q)
    ∙ by q (is_among cells q) refl
    ∙ sym (get-changes before after q))
  where
    by : (q : CellId) (among : Bool) → is_among cells q ≡ among
        → cond among (change_from (row_at before q) (row_at after q)) None ≡ change_from (row_at before q) (row_at after q)
    by q true e = refl
    by q false e = no_change (row_at before q) ∙ ap (change_from (row_at before q)) (agree q e)

-- differences ----------------------------------------------------------------------------------

none_found : (es : List (CellId × Option Row)) (q : CellId) → is_among (map (λ e. e.0) es) q ≡ false → find cell_cmp q es ≡ None
none_found [] q e = refl
none_found (one ∷ es) q e =
    let parts = not_among one.0 (map (λ e. e.0) es) q e in
    ap (λ tie. cond tie (Some one.1) (find cell_cmp q es)) parts.0 ∙ none_found es q parts.1

pub no_difference : (d : Differences) (q : CellId) → is_among (finite.keys d) q ≡ false → finite.get d q ≡ None
no_difference d q e = finite.get-entries d q ∙ none_found (finite.entries d) q e

pub among_neither : (cells others : List CellId) (q : CellId) → is_among (cells ++ others) q ≡ false → (is_among cells q ≡ false) × (is_among others q ≡ false)
among_neither [] others q e = (refl, e)
among_neither (cell ∷ cells) others q e =
    let parts = not_among cell (cells ++ others) q e in
    let rest = among_neither cells others q parts.1 in
    (ap (λ tie. cond tie true (is_among cells q)) parts.0 ∙ rest.0, rest.1)

-- a content that differs from another only where a third one changes -----------------------------

-- the own changes of a content over one that has the row of its base at a cell give the content's own row there
pub own_row : (base current above : Content) (q : CellId) → row_at base q ≡ row_at above q → row_at current q
    ≡ row_at (taken_over above (changes base current)) q
own_row base current above q same = sym (
    row-taken_over above (changes base current) q
    ∙ ap (λ (o : Option Row). unwrap_or (option_map after_of (finite.get (changes base current) q)) o) (sym same)
    ∙ sym (row-taken_over base (changes base current) q)
    ∙ ap (λ (m : Content). row_at m q) (taken_over-own base current))
