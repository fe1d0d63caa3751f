-- Differences over a content, cell by cell, and the cells at which there are some.
use Rattle.std.proofs.Common.{◌≡◌, ℕ, ◌+◌, ◌<◌, Bool, true, false, cond, List, [], ◌∷◌, ◌++◌, length, get_or, take, Some, None, is_some, unwrap_or, Bor, refl}
use Rattle.std.proofs.Common.{ap, sym, subst, ◌∙◌}
use Rattle.std.specs.declared.option.Option.{Option}
use Rattle.std.proofs.lemmas.Bool.{false≢true}
use Rattle.std.proofs.lemmas.Grind.{take_at_read}
use Rattle.std.specs.Option.{option_copied}
use Rattle.std.specs.Ordering.{eq_by_cmp}
use Rattle.std.specs.FinMap as finite
use Rattle.clr_rows.specs.declared.cells.CellId.{CellId}
use Rattle.clr_rows.specs.declared.rows.Row.{Row}
use Rattle.clr_rows.specs.Cells.{cell_cmp}
use Rattle.clr_rows.specs.Contents.{Content, row_at, set_cell, over}
use Rattle.clr_rows.proofs.CellOrder.{cell_cmp_total}
use Rattle.clr_rows.proofs.ChangeLemmas.{same_content, tied_self, row-set_cell, row-over, apart_from_sorted}
use Rattle.clr_rows.proofs.RowLemmas.{tied_cells}
use Rattle.clr_deltas.specs.Differences.{Differences, RowsByCell, cells_in, no_differences, seen_over, put_each, is_among, HasDifference, HasDifferences}

-- what is seen ---------------------------------------------------------------------------------

pub row-seen_over : (m : Content) (d : Differences) (q : CellId) → row_at (seen_over m d) q ≡ unwrap_or (finite.get d q) (row_at m q)
unfolding seen_over
row-seen_over m d q = row-over m (finite.entries d) q (apart_from_sorted _ (finite.entries_sorted d))
    ∙ ap (λ o. unwrap_or o (row_at m q)) (sym (finite.get-entries d q))

pub seen_over-none : (m : Content) → seen_over m no_differences ≡ m
seen_over-none m = same_content _ _ (λ q. row-seen_over m no_differences q ∙ ap (λ o. unwrap_or o (row_at m q)) (finite.get-empty cell_cmp q))

-- a difference put is a cell set
pub seen_over-insert : (m : Content) (d : Differences) (k : CellId) (v : Option Row) → seen_over m (finite.insert d k v) ≡ set_cell (seen_over m d) k v
seen_over-insert m d k v = same_content _ _ (λ q.
    row-seen_over m (finite.insert d k v) q ∙ ap (λ o. unwrap_or o (row_at m q)) (finite.get-insert cell_cmp_total d k v q)
    ∙ by (eq_by_cmp cell_cmp q k) (finite.get d q) (row_at m q)
    ∙ sym (row-set_cell (seen_over m d) k v q ∙ ap (cond (eq_by_cmp cell_cmp q k) v) (row-seen_over m d q)))
  where
    by : (b : Bool) (o : Option (Option Row)) (r : Option Row) → unwrap_or (cond b (Some v) o) r ≡ cond b v (unwrap_or o r)
    by true o r = refl
    by false o r = refl

pub seen_over-put_each : (m : Content) (es : RowsByCell) (d : Differences) → seen_over m (put_each d es) ≡ over (seen_over m d) es
unfolding put_each over
seen_over-put_each m [] d = refl
seen_over-put_each m (e ∷ es) d = seen_over-put_each m es (finite.insert d e.0 e.1) ∙ ap (λ x. over x es) (seen_over-insert m d e.0 e.1)

-- rows put into no differences
pub seen_over-fresh : (m : Content) (es : RowsByCell) → seen_over m (put_each no_differences es) ≡ over m es
seen_over-fresh m es = seen_over-put_each m es no_differences ∙ ap (λ x. over x es) (seen_over-none m)

-- a cell set to the row that stands there
pub set_cell-same : (m : Content) (k : CellId) (v : Option Row) → v ≡ row_at m k → set_cell m k v ≡ m
set_cell-same m k v is = same_content _ _ (λ q. row-set_cell m k v q ∙ ap (λ w. cond (eq_by_cmp cell_cmp q k) w (row_at m q)) is
    ∙ by q (eq_by_cmp cell_cmp q k) refl)
  where
    by : (q : CellId) (b : Bool) → eq_by_cmp cell_cmp q k ≡ b → cond b (row_at m k) (row_at m q) ≡ row_at m q
    by q true h = ap (row_at m) (sym (tied_cells q k h))
    by q false h = refl

-- NEUTRAL DIFFERENCES: what is seen stays

pub neutral : (m : Content) (d : Differences) (k : CellId) (v : Option Row) → v ≡ row_at (seen_over m d) k → seen_over m (finite.insert d k v) ≡ seen_over m d
neutral m d k v is = seen_over-insert m d k v ∙ set_cell-same (seen_over m d) k v is

-- where there was no difference the row is that of the content below
pub neutral_new : (m : Content) (d : Differences) (k : CellId) (v : Option Row) → finite.get d k ≡ None → v ≡ row_at m k → seen_over m (finite.insert d k v)
    ≡ seen_over m d
neutral_new m d k v none is = neutral m d k v (is ∙ sym (row-seen_over m d k ∙ ap (λ o. unwrap_or o (row_at m k)) none))

-- a difference with the row below is taken away
pub neutral_taken : (m : Content) (d : Differences) (k : CellId) → finite.get d k ≡ Some (row_at m k) → seen_over m (finite.remove d k) ≡ seen_over m d
neutral_taken m d k is = same_content _ _ (λ q.
    row-seen_over m (finite.remove d k) q ∙ ap (λ o. unwrap_or o (row_at m q)) (finite.get-remove cell_cmp_total d k q) ∙ by q (eq_by_cmp cell_cmp q k) refl
    ∙ sym (row-seen_over m d q))
  where
    by : (q : CellId) (b : Bool) → eq_by_cmp cell_cmp q k ≡ b → unwrap_or (cond b None (finite.get d q)) (row_at m q) ≡ unwrap_or (finite.get d q) (row_at m q)
    by q true h = sym (ap (λ o. unwrap_or o (row_at m q)) (subst (λ j. finite.get d j ≡ Some (row_at m j)) (sym (tied_cells q k h)) is))
    by q false h = refl

-- any difference taken away lets the row below be seen
pub seen_over-remove : (m : Content) (d : Differences) (k : CellId) → seen_over m (finite.remove d k) ≡ set_cell (seen_over m d) k (row_at m k)
seen_over-remove m d k = same_content _ _ (λ q.
    row-seen_over m (finite.remove d k) q ∙ ap (λ o. unwrap_or o (row_at m q)) (finite.get-remove cell_cmp_total d k q) ∙ by q (eq_by_cmp cell_cmp q k) refl
    ∙ sym (row-set_cell (seen_over m d) k (row_at m k) q ∙ ap (cond (eq_by_cmp cell_cmp q k) (row_at m k)) (row-seen_over m d q)))
  where
    by : (q : CellId) (b : Bool) → eq_by_cmp cell_cmp q k ≡ b → unwrap_or (cond b None (finite.get d q)) (row_at m q)
        ≡ cond b (row_at m k) (unwrap_or (finite.get d q) (row_at m q))
    by q true h = ap (row_at m) (tied_cells q k h)
    by q false h = refl

-- HIDDEN CHANGES: two contents that agree where there is no difference

abbrev pub AgreeOutside : Differences → Content → Content → Type 0
AgreeOutside d m n = (q : CellId) → finite.get d q ≡ None → row_at n q ≡ row_at m q

pub hidden : (m n : Content) (d : Differences) → AgreeOutside d m n → seen_over n d ≡ seen_over m d
hidden m n d agree = same_content _ _ (λ q. row-seen_over n d q ∙ by (finite.get d q) (agree q) ∙ sym (row-seen_over m d q))
  where
    by : {x y : Option Row} (o : Option (Option Row)) → (o ≡ None → x ≡ y) → unwrap_or o x ≡ unwrap_or o y
    by None h = h refl
    by (Some z) h = refl

-- a cell set where there is a difference
pub set_outside : (d : Differences) (m : Content) (k : CellId) (v : Option Row) → HasDifference d k → AgreeOutside d m (set_cell m k v)
set_outside d m k v is_stored q none = row-set_cell m k v q ∙ by (eq_by_cmp cell_cmp q k) refl
  where
    by : (b : Bool) → eq_by_cmp cell_cmp q k ≡ b → cond b v (row_at m q) ≡ row_at m q
    by true h = absurd (false≢true (sym (ap is_some none) ∙ subst (HasDifference d) (sym (tied_cells q k h)) is_stored))
    by false h = refl

-- rows put where there are differences
pub over_outside : (d : Differences) (es : RowsByCell) (m : Content) → HasDifferences d (cells_in es) → AgreeOutside d m (over m es)
unfolding over
over_outside d [] m is_stored q none = refl
over_outside d (e ∷ es) m is_stored q none = over_outside d es (set_cell m e.0 e.1) is_stored.1 q none ∙ set_outside d m e.0 e.1 is_stored.0 q none

-- differences that lie over a content, where others are at each of their cells
pub seen_outside : (d : Differences) (m : Content) (e : Differences) → HasDifferences d (finite.keys e) → AgreeOutside d m (seen_over m e)
unfolding seen_over
seen_outside d m e is_stored = over_outside d (finite.entries e) m is_stored

-- where there is a difference ------------------------------------------------------------------

pub difference_stays : (d : Differences) (k q : CellId) (v : Option Row) → HasDifference d q → HasDifference (finite.insert d k v) q
difference_stays d k q v is_stored = ap is_some (finite.get-insert cell_cmp_total d k v q) ∙ by (eq_by_cmp cell_cmp q k) (finite.get d q) is_stored
  where
    by : (b : Bool) (o : Option (Option Row)) → is_some o ≡ true → is_some (cond b (Some v) o) ≡ true
    by true o h = refl
    by false o h = h

pub difference_stored : (d : Differences) (k : CellId) (v : Option Row) → HasDifference (finite.insert d k v) k
difference_stored d k v = ap is_some (finite.get-insert cell_cmp_total d k v k ∙ ap (λ b. cond b (Some v) (finite.get d k)) (tied_self k))

pub differences_keep : (d e : Differences) (cells : List CellId) → ((q : CellId) → HasDifference d q → HasDifference e q) → HasDifferences d cells
    → HasDifferences e cells
differences_keep d e [] more is_stored = tt
differences_keep d e (cell ∷ cells) more is_stored = (more cell is_stored.0, differences_keep d e cells more is_stored.1)

pub differences_stay : (cells : List CellId) (d : Differences) (k : CellId) (v : Option Row) → HasDifferences d cells
    → HasDifferences (finite.insert d k v) cells
differences_stay cells d k v is_stored = differences_keep d (finite.insert d k v) cells (λ q. difference_stays d k q v) is_stored

pub put_each_keeps : (es : RowsByCell) (d : Differences) (q : CellId) → HasDifference d q → HasDifference (put_each d es) q
unfolding put_each
put_each_keeps [] d q is_stored = is_stored
put_each_keeps (e ∷ es) d q is_stored = put_each_keeps es (finite.insert d e.0 e.1) q (difference_stays d e.0 q e.1 is_stored)

differences_push : (d : Differences) (cells : List CellId) (cell : CellId) → HasDifferences d cells → HasDifference d cell
    → HasDifferences d (cells ++ cell ∷ [])
differences_push d [] cell is_stored one = (one, tt)
differences_push d (c ∷ cells) cell is_stored one = (is_stored.0, differences_push d cells cell is_stored.1 one)

-- differences at one more of some cells
pub differences_next : (d : Differences) (cells : List CellId) (i : ℕ) (c : CellId) → i < length cells → HasDifferences d (take i cells) →
    HasDifference d (get_or cells i c)
    → HasDifferences d (take (i + 1) cells)
differences_next d cells i c lt is_stored one =
    subst (HasDifferences d) (sym (take_at_read cells i c lt).1) (differences_push d (take i cells) (get_or cells i c) is_stored one)

-- other cells -------------------------------------------------------------------------------------

-- a cell that is none of some is neither the first nor one of the others
pub not_among : (cell : CellId) (cells : List CellId) (q : CellId) → is_among (cell ∷ cells) q ≡ false → (eq_by_cmp cell_cmp q cell ≡ false)
    × (is_among cells q ≡ false)
not_among cell cells q e = by (eq_by_cmp cell_cmp q cell) e
  where
    by : (b : Bool) → cond b true (is_among cells q) ≡ false → (b ≡ false) × (is_among cells q ≡ false)
    by true h = absurd (false≢true (sym h))
    by false h = (refl, h)

pub put_elsewhere : (d : Differences) (k : CellId) (v : Option Row) (q : CellId) → is_among (k ∷ []) q ≡ false → finite.get (finite.insert d k v) q
    ≡ finite.get d q
put_elsewhere d k v q apart = finite.get-insert cell_cmp_total d k v q ∙ ap (λ b. cond b (Some v) (finite.get d q)) (not_among k [] q apart).0

pub taken_elsewhere : (d : Differences) (k q : CellId) → is_among (k ∷ []) q ≡ false → finite.get (finite.remove d k) q ≡ finite.get d q
taken_elsewhere d k q apart = finite.get-remove cell_cmp_total d k q ∙ ap (λ b. cond b None (finite.get d q)) (not_among k [] q apart).0

pub put_each_elsewhere : (es : RowsByCell) (d : Differences) (q : CellId) → is_among (cells_in es) q ≡ false → finite.get (put_each d es) q ≡ finite.get d q
unfolding put_each
put_each_elsewhere [] d q apart = refl
put_each_elsewhere (e ∷ es) d q apart =
    let both = not_among e.0 (cells_in es) q apart in
    put_each_elsewhere es (finite.insert d e.0 e.1) q both.1 ∙ finite.get-insert cell_cmp_total d e.0 e.1 q
    ∙ ap (λ b. cond b (Some e.1) (finite.get d q)) both.0

-- what a look-up says
pub nothing_found : {A : Type 0} (o : Option (Bor A)) → is_some o ≡ false → option_copied o ≡ None
nothing_found None e = refl
nothing_found (Some x) e = absurd (false≢true (sym e))
