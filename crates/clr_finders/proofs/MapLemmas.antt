-- The finite maps that lists by cell make, before and after what a cell has is changed.
use Rattle.std.proofs.Common.{◌≡◌, ◌⊎◌, inl, inr, ℕ, ◌<◌, ◌-◌, arith, ap₂, Bool, true, false, cond, List, [], ◌∷◌, Option, Some, None, is_some, refl, ap, sym}
use Rattle.std.proofs.Common.{subst, ◌∙◌}
use Rattle.clr_rows.proofs.ChangeLemmas.{tied_self}
use Rattle.std.specs.BTreeMap.{is_at}
use Rattle.std.proofs.lemmas.Bool.{true≢false, false≢true, cases_lt}
use Rattle.std.proofs.lemmas.Map.Made.{is_some-lookup}
use Rattle.std.specs.Cmp.{eq_by_cmp_equiv, Equal-is}
use Rattle.std.specs.FinMap as finite
use Rattle.std.specs.FinMap.{find}
use Rattle.std.specs.Map.{lookup, keys_of}
use Rattle.std.specs.Option.{option_flatten}
use Rattle.std.specs.Ordering.{eq_by_cmp}
use Rattle.clr_rows.specs.declared.cells.CellId.{CellId}
use Rattle.clr_rows.specs.Cells.{cell_cmp}
use Rattle.clr_rows.proofs.CellOrder.{cell_cmp_total, cell_cmp_exact}
use Rattle.clr_finders.specs.CellLists.{is_one_of}
use Rattle.clr_finders.specs.RowMaps.{RowOrNone, FiledRows, set_row_at, settled_of, pending_of, with_settled}
use Rattle.clr_finders.specs.Sharing.{Settled, Pending, next_of, next_at}
use Rattle.clr_finders.specs.declared.row_spots.RuleSpots.{RuleSpots}

-- what a tree has at a cell
abbrev pub at_cell : {X : Type 0} → List (CellId × X) → CellId → Option X
at_cell es q = lookup (is_at (cell_cmp q)) es

pub same_tie : (k q : CellId) → is_at (cell_cmp k) q ≡ eq_by_cmp cell_cmp q k
same_tie k q = (eq_by_cmp_equiv cell_cmp_total).symm k q

-- ---- settled rows
pub get_set_at : (m : Settled) (k : CellId) (row : RowOrNone) (q : CellId)
    → finite.get (set_row_at m k row) q ≡ cond (eq_by_cmp cell_cmp q k) row (finite.get m q)
get_set_at m k None q = finite.get-remove cell_cmp_total m k q
get_set_at m k (Some row) q = finite.get-insert cell_cmp_total m k row q

flat_cond : (b : Bool) (row : RowOrNone) (o : Option RowOrNone) → option_flatten (cond b (Some row) o) ≡ cond b row (option_flatten o)
flat_cond true row o = refl
flat_cond false row o = refl

pub get_settled : (es : List (CellId × RowOrNone)) (q : CellId) → finite.get (settled_of es) q ≡ option_flatten (at_cell es q)
get_settled [] q = finite.get-empty cell_cmp q
get_settled (e ∷ es) q =
    get_set_at (settled_of es) e.0 e.1 q ∙ ap (cond (eq_by_cmp cell_cmp q e.0) e.1) (get_settled es q)
    ∙ sym (flat_cond (is_at (cell_cmp q) e.0) e.1 (at_cell es q))

-- lists that have the same rows
pub same_settled : (es fs : List (CellId × RowOrNone)) → ((q : CellId) → option_flatten (at_cell fs q) ≡ option_flatten (at_cell es q)) →
    settled_of fs ≡ settled_of es
same_settled es fs h = finite.same_map cell_cmp_total cell_cmp_exact _ _ (λ q. get_settled fs q ∙ h q ∙ sym (get_settled es q))

flat_chosen : (b : Bool) (w o : Option RowOrNone) → option_flatten (cond b w o) ≡ cond b (option_flatten w) (option_flatten o)
flat_chosen true w o = refl
flat_chosen false w o = refl

-- lists that differ at one cell
pub one_settled : (es fs : List (CellId × RowOrNone)) (k : CellId) (w : Option RowOrNone) →
    ((q : CellId) → at_cell fs q ≡ cond (is_at (cell_cmp k) q) w (at_cell es q)) → settled_of fs ≡ set_row_at (settled_of es) k (option_flatten w)
one_settled es fs k w h = finite.same_map cell_cmp_total cell_cmp_exact _ _ (λ q.
    get_settled fs q ∙ ap option_flatten (h q) ∙ flat_chosen (is_at (cell_cmp k) q) w (at_cell es q)
    ∙ ap (λ b. cond b (option_flatten w) (option_flatten (at_cell es q))) (same_tie k q)
    ∙ ap (cond (eq_by_cmp cell_cmp q k) (option_flatten w)) (sym (get_settled es q)) ∙ sym (get_set_at (settled_of es) k (option_flatten w) q))

-- ---- pending changes
find_at : {X : Type 0} (es : List (CellId × X)) (q : CellId) → find cell_cmp q es ≡ at_cell es q
find_at [] q = refl
find_at (e ∷ es) q = ap (cond (is_at (cell_cmp q) e.0) (Some e.1)) (find_at es q)

pub get_pending : (es : List (CellId × RowOrNone)) (q : CellId) → finite.get (pending_of es) q ≡ at_cell es q
get_pending es q = finite.get-from_entries cell_cmp_total es q ∙ find_at es q

pub one_noted : (es fs : List (CellId × RowOrNone)) (k : CellId) (row : RowOrNone) →
    ((q : CellId) → at_cell fs q ≡ cond (is_at (cell_cmp k) q) (Some row) (at_cell es q)) → pending_of fs ≡ finite.insert (pending_of es) k row
one_noted es fs k row h = finite.same_map cell_cmp_total cell_cmp_exact _ _ (λ q.
    get_pending fs q ∙ h q ∙ ap (λ b. cond b (Some row) (at_cell es q)) (same_tie k q)
    ∙ ap (cond (eq_by_cmp cell_cmp q k) (Some row)) (sym (get_pending es q)) ∙ sym (finite.get-insert cell_cmp_total (pending_of es) k row q))

pub one_taken : (es fs : List (CellId × RowOrNone)) (k : CellId) → ((q : CellId) → at_cell fs q ≡ cond (is_at (cell_cmp k) q) None (at_cell es q)) →
    pending_of fs ≡ finite.remove (pending_of es) k
one_taken es fs k h = finite.same_map cell_cmp_total cell_cmp_exact _ _ (λ q.
    get_pending fs q ∙ h q ∙ ap (λ b. cond b None (at_cell es q)) (same_tie k q)
    ∙ ap (cond (eq_by_cmp cell_cmp q k) None) (sym (get_pending es q)) ∙ sym (finite.get-remove cell_cmp_total (pending_of es) k q))

-- ---- both
pub rows_alike : (s t : Settled) (p r : Pending) → s ≡ t → p ≡ r →
    ◌≡◌ {A = FiledRows} (record { settled = s; pending = p }) (record { settled = t; pending = r })
rows_alike s t p r e f = λ i. record { settled = e i; pending = f i }

-- a pending change that is taken over
pub row_settled : (ses sfs pes pfs : List (CellId × RowOrNone)) (k : CellId) (w : Option RowOrNone) (row : RowOrNone) → option_flatten w ≡ row →
    at_cell pes k ≡ Some row
    → ((q : CellId) → at_cell sfs q ≡ cond (is_at (cell_cmp k) q) w (at_cell ses q))
    → ((q : CellId) → at_cell pfs q ≡ cond (is_at (cell_cmp k) q) None (at_cell pes q))
    → ◌≡◌ {A = FiledRows} (record { settled = settled_of sfs; pending = pending_of pfs })
    (record { settled = set_row_at (settled_of ses) k (option_flatten (finite.get (pending_of pes) k)); pending = finite.remove (pending_of pes) k })
row_settled ses sfs pes pfs k w row is was settled pending =
    rows_alike _ _ _ _ (one_settled ses sfs k w settled ∙ ap (set_row_at (settled_of ses) k) (is ∙ sym (ap option_flatten (get_pending pes k ∙ was))))
    (one_taken pes pfs k pending)

-- what stands at each cell at the end stays, when a change is taken over
pub next_kept : (r : FiledRows) (k : CellId) → is_some (finite.get r.pending k) ≡ true → (q : CellId) →
    next_at (with_settled r k).settled (with_settled r k).pending q ≡ next_at r.settled r.pending q
next_kept r k some q = ap₂ next_of (get_set_at r.settled k (option_flatten (finite.get r.pending k)) q) (finite.get-remove cell_cmp_total r.pending k q)
    ∙ go (eq_by_cmp cell_cmp q k) refl
  where
    here : (o : Option RowOrNone) → is_some o ≡ true → (now : RowOrNone) → option_flatten o ≡ next_of now o
    here None e now = absurd (false≢true e)
    here (Some row) e now = refl

    go : (b : Bool) → eq_by_cmp cell_cmp q k ≡ b → next_of (cond b (option_flatten (finite.get r.pending k)) (finite.get r.settled q))
        (cond b None (finite.get r.pending q)) ≡ next_at r.settled r.pending q
    go true e =
        let same : q ≡ k = cell_cmp_exact q k ((Equal-is (cell_cmp q k)).0 e) in
        here (finite.get r.pending k) some (finite.get r.settled q) ∙ ap (λ c. next_of (finite.get r.settled q) (finite.get r.pending c)) (sym same)
    go false e = refl

fewer : (b : Bool) (n : ℕ) → b ≡ true → 0 < n → cond b (n - 1) n < n
fewer true n e more = omega (arith, more)
fewer false n e more = absurd (false≢true e)

some_left : (m : Pending) (k : CellId) → is_some (finite.get m k) ≡ true → 0 < finite.len m
some_left m k some = elim (cases_lt 0 (finite.len m)) [
  | inl less ↦ less
  | inr none ↦ (let zero_is : finite.len m ≡ 0 = omega (arith, none) in
      absurd (false≢true (ap is_some (sym (finite.get-empty cell_cmp k)) ∙ ap (λ (n : Pending). is_some (finite.get n k)) (sym (finite.empty_of_len m zero_is))
      ∙ some)))
]

-- one pending change less is left
pub fewer_left : (m : Pending) (k : CellId) → is_some (finite.get m k) ≡ true → finite.len (finite.remove m k) < finite.len m
fewer_left m k some = subst (λ n. n < finite.len m) (sym (finite.len-remove cell_cmp_total m k))
    (fewer (finite.contains_key m k) (finite.len m) some (some_left m k some))

-- ---- room
tie_is_same : (k q : CellId) → is_at (cell_cmp k) q ≡ true → k ≡ q
tie_is_same k q e = cell_cmp_exact k q ((Equal-is (cell_cmp k q)).0 e)

flat_none : (o : Option RowOrNone) → is_some o ≡ false → option_flatten o ≡ None
flat_none None e = refl
flat_none (Some row) e = absurd (true≢false e)

-- room for a row changes no row
pub room_made : (es fs : List (CellId × RowOrNone)) (k : CellId) → is_some (at_cell es k) ≡ false →
    ((q : CellId) → at_cell fs q ≡ cond (is_at (cell_cmp k) q) (Some None) (at_cell es q)) → settled_of fs ≡ settled_of es
room_made es fs k none h = same_settled es fs (λ q. ap option_flatten (h q) ∙ go q (is_at (cell_cmp k) q) refl)
  where
    go : (q : CellId) (b : Bool) → is_at (cell_cmp k) q ≡ b → option_flatten (cond b (Some None) (at_cell es q)) ≡ option_flatten (at_cell es q)
    go q true e = sym (flat_none (at_cell es q) (subst (λ c. is_some (at_cell es c) ≡ false) (tie_is_same k q e) none))
    go q false e = refl

pub room_gone : (es fs : List (CellId × RowOrNone)) (k : CellId) → at_cell es k ≡ Some None →
    ((q : CellId) → at_cell fs q ≡ cond (is_at (cell_cmp k) q) None (at_cell es q)) → settled_of fs ≡ settled_of es
room_gone es fs k none h = same_settled es fs (λ q. ap option_flatten (h q) ∙ go q (is_at (cell_cmp k) q) refl)
  where
    go : (q : CellId) (b : Bool) → is_at (cell_cmp k) q ≡ b → option_flatten (cond b None (at_cell es q)) ≡ option_flatten (at_cell es q)
    go q true e = sym (ap option_flatten (subst (λ c. at_cell es c ≡ Some None) (tie_is_same k q e) none))
    go q false e = refl

pub still_some : (b : Bool) (v : RowOrNone) (o : Option RowOrNone) → is_some o ≡ true → is_some (cond b (Some v) o) ≡ true
still_some true v o e = refl
still_some false v o e = e

some_row : (o : Option RowOrNone) → is_some (option_flatten o) ≡ true → is_some o ≡ true
some_row None e = absurd (false≢true e)
some_row (Some row) e = refl

-- each cell with a row is among the keys
pub cell_listed : (es : List (CellId × RowOrNone)) (q : CellId) → is_some (finite.get (settled_of es) q) ≡ true → is_one_of (keys_of es) q ≡ true
cell_listed es q e = sym (is_some-lookup (is_at (cell_cmp q)) es) ∙ some_row (at_cell es q) (sym (ap is_some (get_settled es q)) ∙ e)

pub some_there : (es : List (CellId × RowOrNone)) (q : CellId) → is_some (finite.get (settled_of es) q) ≡ true → is_some (at_cell es q) ≡ true
some_there es q e = some_row (at_cell es q) (sym (ap is_some (get_settled es q)) ∙ e)

-- room without a row is that of pending changes
tie_itself : (k q : CellId) → q ≡ k → is_at (cell_cmp k) q ≡ true
tie_itself k q same = subst (λ c. is_at (cell_cmp k) c ≡ true) (sym same) (tied_self k)

pub only_made : {A : Type 0} (k q : CellId) (w o : Option A) → cond (is_at (cell_cmp k) q) w o ≡ w → (o ≡ w) ⊎ (q ≡ k)
only_made k q w o e = go (is_at (cell_cmp k) q) refl e
  where
    go : (b : Bool) → is_at (cell_cmp k) q ≡ b → cond b w o ≡ w → (o ≡ w) ⊎ (q ≡ k)
    go true t h = inr (sym (tie_is_same k q t))
    go false t h = inl h

-- a change is noted at a cell
module _ (rows new old pending : List (CellId × RowOrNone)) (k : CellId) (row : RowOrNone)
    (h : (q : CellId) → at_cell pending q ≡ cond (is_at (cell_cmp k) q) (Some row) (at_cell old q)) where
  -- where the cell has room, the change has it, and so have the others
  pub room_for : is_some (at_cell new k) ≡ true
      → ((q : CellId) → is_some (at_cell rows q) ≡ true → is_some (at_cell new q) ≡ true)
      → ((q : CellId) → is_some (at_cell old q) ≡ true → is_some (at_cell rows q) ≡ true)
      → (q : CellId) → is_some (at_cell pending q) ≡ true → is_some (at_cell new q) ≡ true
  room_for here kept had q some = go (is_at (cell_cmp k) q) refl (sym (ap is_some (h q)) ∙ some)
    where
      go : (b : Bool) → is_at (cell_cmp k) q ≡ b → is_some (cond b (Some row) (at_cell old q)) ≡ true → is_some (at_cell new q) ≡ true
      go true e f = subst (λ c. is_some (at_cell new c) ≡ true) (tie_is_same k q e) here
      go false e f = kept q (had q f)

  pub lean_for : ((q : CellId) → at_cell new q ≡ Some None → (at_cell rows q ≡ Some None) ⊎ (q ≡ k))
      → ((q : CellId) → at_cell rows q ≡ Some None → is_some (at_cell old q) ≡ true)
      → (q : CellId) → at_cell new q ≡ Some None → is_some (at_cell pending q) ≡ true
  lean_for only had q e = elim (only q e) [
    | inl before ↦ ap is_some (h q) ∙ still_some (is_at (cell_cmp k) q) row (at_cell old q) (had q before)
    | inr same ↦ ap is_some (h q) ∙ ap (λ b. is_some (cond b (Some row) (at_cell old q))) (tie_itself k q same)
  ]

-- the pending change of a cell is gone
module _ (rows new old pending : List (CellId × RowOrNone)) (k : CellId)
    (h : (q : CellId) → at_cell pending q ≡ cond (is_at (cell_cmp k) q) None (at_cell old q)) where
  pub lean_left : ((q : CellId) → is_at (cell_cmp k) q ≡ false → at_cell new q ≡ at_cell rows q)
      → (at_cell new k ≡ Some None → ⊥)
      → ((q : CellId) → at_cell rows q ≡ Some None → is_some (at_cell old q) ≡ true)
      → (q : CellId) → at_cell new q ≡ Some None → is_some (at_cell pending q) ≡ true
  lean_left others gone had q e = go (is_at (cell_cmp k) q) refl
    where
      go : (b : Bool) → is_at (cell_cmp k) q ≡ b → is_some (at_cell pending q) ≡ true
      go true t = absurd (gone (subst (λ c. at_cell new c ≡ Some None) (sym (tie_is_same k q t)) e))
      go false t = ap is_some (h q) ∙ ap (λ b. is_some (cond b None (at_cell old q))) t ∙ had q (sym (others q t) ∙ e)

  -- the others still have their room
  pub room_left : ((q : CellId) → is_at (cell_cmp k) q ≡ false → is_some (at_cell rows q) ≡ true → is_some (at_cell new q) ≡ true)
      → ((q : CellId) → is_some (at_cell old q) ≡ true → is_some (at_cell rows q) ≡ true)
      → (q : CellId) → is_some (at_cell pending q) ≡ true → is_some (at_cell new q) ≡ true
  room_left kept had q some = go (is_at (cell_cmp k) q) refl (sym (ap is_some (h q)) ∙ some)
    where
      go : (b : Bool) → is_at (cell_cmp k) q ≡ b → is_some (cond b None (at_cell old q)) ≡ true → is_some (at_cell new q) ≡ true
      go true e f = absurd (false≢true f)
      go false e f = kept q e (had q f)

-- a row that is put leaves room to the pending changes alone
pub lean_put : (old new pending : List (CellId × RowOrNone)) (k : CellId) (row : List RuleSpots) →
    ((q : CellId) → at_cell new q ≡ cond (is_at (cell_cmp k) q) (Some (Some row)) (at_cell old q))
    → ((q : CellId) → at_cell old q ≡ Some None → is_some (at_cell pending q) ≡ true)
    → (q : CellId) → at_cell new q ≡ Some None → is_some (at_cell pending q) ≡ true
lean_put old new pending k row h had q e = go (is_at (cell_cmp k) q) (sym (h q) ∙ e)
  where
    go : (b : Bool) → cond b (Some (Some row)) (at_cell old q) ≡ Some None → is_some (at_cell pending q) ≡ true
    go true i = absurd (cc)
    go false i = had q i
