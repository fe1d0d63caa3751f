-- Cells filed at the numbers of spots: what stays when one is added or taken away.
use Rattle.std.proofs.Common.{◌≡◌, ◌⊎◌, inl, inr, ◌+◌, ◌<◌, ℕ, zero, suc, arith, Bool, true, false, nat_eq, cond, not, ◌&&◌, ◌||◌, List, [], ◌∷◌, ◌++◌, take}
use Rattle.std.proofs.Common.{get_or, length, Option, Some, None, unwrap_or, refl, ap, sym, subst, ◌∙◌}
use Rattle.std.proofs.lemmas.Bool.{false≢true, true≢false, or_left, or_right, or_cases, and_parts, cases_Bool, eqb-true, not-true, not-false}
use Rattle.std.proofs.lemmas.List.{take_more}
use Rattle.std.proofs.lemmas.List.Folds.{list_any-append}
use Rattle.std.specs.Cmp.{eq_by_cmp_equiv, Equal-is, nat_eq_equiv}
use Rattle.std.specs.FinSet as set
use Rattle.std.specs.HashMap.{get}
use Rattle.std.specs.List.{list_any}
use Rattle.std.specs.Ordering.{eq_by_cmp}
use Rattle.clr_rows.specs.declared.cells.CellId.{CellId}
use Rattle.clr_rows.specs.Cells.{cell_cmp}
use Rattle.clr_rows.proofs.CellOrder.{cell_cmp_total, cell_cmp_exact}
use Rattle.clr_spots.specs.declared.spots.Spot.{Spot}
use Rattle.clr_rows.proofs.ChangeLemmas.{tied_self}
use Rattle.clr_grid.proofs.SetLemmas.{or_group, or_none}
use Rattle.clr_grid.specs.CellSets.{Cells, is_one}
use Rattle.clr_grid.specs.Filing.{Key, Wide, At, has_cell, has_key, has_key_of, without_cell, keeps_number, is_filed, is_looked_at, keeps_wide, stays}
use Rattle.clr_grid.specs.SpotNumbers.{has_number, spot_number_of}
use Rattle.clr_finders.specs.declared.row_spots.RuleSpots.{RuleSpots}
use Rattle.clr_grid.specs.declared.side_index.SideIndex.{SideIndex}

-- ---- sets
pub insert_keeps : (m : Cells) (cell q : CellId) → set.contains m q ≡ true → set.contains (set.insert m cell) q ≡ true
insert_keeps m cell q e = set.contains-insert cell_cmp_total m cell q ∙ or_right (eq_by_cmp cell_cmp q cell) _ e

pub insert_has : (m : Cells) (cell : CellId) → set.contains (set.insert m cell) cell ≡ true
insert_has m cell = set.contains-insert cell_cmp_total m cell cell ∙ or_left (eq_by_cmp cell_cmp cell cell) _ (tied_self cell)

pub remove_keeps : (m : Cells) (cell q : CellId) → is_one cell q ≡ false → set.contains m q ≡ true → set.contains (set.remove m cell) q ≡ true
remove_keeps m cell q apart e = set.contains-remove cell_cmp_total m cell q
    ∙ (λ i. not (((eq_by_cmp_equiv cell_cmp_total).symm q cell ∙ apart) i) && e i)

pub is_not_one : (cell q : CellId) (test : Bool) → (is_one cell q && test) ≡ false → test ≡ true → is_one cell q ≡ false
is_not_one cell q test p t = go (is_one cell q) p
  where
    go : (b : Bool) → (b && test) ≡ false → b ≡ false
    go true e = absurd (true≢false (sym t ∙ e))
    go false e = refl

pub insert_only : (m : Cells) (cell q : CellId) → set.contains (set.insert m cell) q ≡ true → (set.contains m q ≡ true) ⊎ (q ≡ cell)
insert_only m cell q e = elim (or_cases (eq_by_cmp cell_cmp q cell) (set.contains m q) (sym (set.contains-insert cell_cmp_total m cell q) ∙ e)) [
  | inl one ↦ inr (cell_cmp_exact q cell ((Equal-is (cell_cmp q cell)).0 one))
  | inr old ↦ inl old
]

pub remove_fewer : (m : Cells) (cell q : CellId) → set.contains (set.remove m cell) q ≡ true → set.contains m q ≡ true
remove_fewer m cell q e = (and_parts (not (eq_by_cmp cell_cmp q cell)) (set.contains m q) (sym (set.contains-remove cell_cmp_total m cell q) ∙ e)).1

pub remove_gone : (m : Cells) (cell : CellId) → set.contains (set.remove m cell) cell ≡ false
remove_gone m cell = set.contains-remove cell_cmp_total m cell cell ∙ ap (λ b. not b && set.contains m cell) (tied_self cell)

-- ---- numbers of spots
abbrev pub AtNumbers : Type 0
AtNumbers = ℕ → Option Cells

-- what is filed at each spot stays
abbrev pub Keeps : AtNumbers → AtNumbers → Type 0
Keeps f g = (x : ℕ) (q : CellId) → has_cell (f x) q ≡ true → has_cell (g x) q ≡ true

-- each number that is kept holds a cell
abbrev pub Hold : AtNumbers → Type 0
Hold f = (x : ℕ) → f x ≡ Some set.empty → ⊥

pub tied_number : (s x : ℕ) → nat_eq s x ≡ true → s ≡ x
tied_number s x e = eqb-true s x e

pub number_itself : (x : ℕ) → nat_eq x x ≡ true
number_itself x = nat_eq_equiv.refl x

cells_or_none : (o : Option Cells) (q : CellId) → has_cell o q ≡ true → set.contains (unwrap_or o set.empty) q ≡ true
cells_or_none None q e = absurd (false≢true e)
cells_or_none (Some m) q e = e

none_or_cells : (o : Option Cells) (q : CellId) → set.contains (unwrap_or o set.empty) q ≡ true → has_cell o q ≡ true
none_or_cells None q e = absurd (false≢true (sym (set.contains-empty cell_cmp q) ∙ e))
none_or_cells (Some m) q e = e

-- a cell is added to those at a number
abbrev pub IsPut : AtNumbers → AtNumbers → ℕ → CellId → Type 0
IsPut f g s cell = (x : ℕ) → g x ≡ cond (nat_eq s x) (Some (set.insert (unwrap_or (f s) set.empty) cell)) (f x)

module _ (f g : AtNumbers) (s : ℕ) (cell : CellId) (is : IsPut f g s cell) where
  pub put_keeps : Keeps f g
  put_keeps x q e = ap (λ o. has_cell o q) (is x) ∙ go (nat_eq s x) refl
    where
      go : (b : Bool) → nat_eq s x ≡ b → has_cell (cond b (Some (set.insert (unwrap_or (f s) set.empty) cell)) (f x)) q ≡ true
      go true t = insert_keeps (unwrap_or (f s) set.empty) cell q (cells_or_none (f s) q (subst (λ y. has_cell (f y) q ≡ true) (sym (tied_number s x t)) e))
      go false t = e

  -- nothing more is filed than the cell at the number
  pub put_only : (x : ℕ) (q : CellId) → has_cell (g x) q ≡ true → (has_cell (f x) q ≡ true) ⊎ ((q ≡ cell) × (x ≡ s))
  put_only x q e = go (nat_eq s x) refl (sym (ap (λ o. has_cell o q) (is x)) ∙ e)
    where
      go : (b : Bool) → nat_eq s x ≡ b → has_cell (cond b (Some (set.insert (unwrap_or (f s) set.empty) cell)) (f x)) q ≡ true
          → (has_cell (f x) q ≡ true) ⊎ ((q ≡ cell) × (x ≡ s))
      go true t h = elim (insert_only (unwrap_or (f s) set.empty) cell q h) [
        | inl old ↦ inl (subst (λ y. has_cell (f y) q ≡ true) (tied_number s x t) (none_or_cells (f s) q old))
        | inr one ↦ inr (one, sym (tied_number s x t))
      ]
      go false t h = inl h

  pub put_has : has_cell (g s) cell ≡ true
  put_has =
      ap (λ o. has_cell o cell) (is s ∙ ap (λ b. cond b (Some (set.insert (unwrap_or (f s) set.empty) cell)) (f s)) (number_itself s))
      ∙ insert_has (unwrap_or (f s) set.empty) cell

  pub put_hold : Hold f → Hold g
  put_hold hold x e = go (nat_eq s x) (sym (is x) ∙ e)
    where
      go : (b : Bool) → cond b (Some (set.insert (unwrap_or (f s) set.empty) cell)) (f x) ≡ Some set.empty → ⊥
      go true h = let none : set.insert (unwrap_or (f s) set.empty) cell ≡ set.empty = cc in
          true≢false (sym (insert_has (unwrap_or (f s) set.empty) cell) ∙ ap (λ n. set.contains n cell) none ∙ set.contains-empty cell_cmp cell)
      go false h = hold x h

-- what is filed for other cells, or at other spots, stays
abbrev pub KeepsOthers : AtNumbers → AtNumbers → ℕ → CellId → Type 0
KeepsOthers f g s cell = (x : ℕ) (q : CellId) → (is_one cell q && nat_eq s x) ≡ false → has_cell (f x) q ≡ true → has_cell (g x) q ≡ true

-- a cell is taken away from those at a number
abbrev pub IsTaken : AtNumbers → AtNumbers → ℕ → CellId → Type 0
IsTaken f g s cell = (x : ℕ) → g x ≡ cond (nat_eq s x) (without_cell (f s) cell) (f x)

without_keeps : (o : Option Cells) (cell q : CellId) → is_one cell q ≡ false → has_cell o q ≡ true → has_cell (without_cell o cell) q ≡ true
without_keeps None cell q apart e = e
without_keeps (Some m) cell q apart e = remove_keeps m cell q apart e

without_fewer : (o : Option Cells) (cell q : CellId) → has_cell (without_cell o cell) q ≡ true → has_cell o q ≡ true
without_fewer None cell q e = e
without_fewer (Some m) cell q e = remove_fewer m cell q e

without_gone : (o : Option Cells) (cell : CellId) → has_cell (without_cell o cell) cell ≡ false
without_gone None cell = refl
without_gone (Some m) cell = remove_gone m cell

pub some_taken : (f g : AtNumbers) (s : ℕ) (cell : CellId) (m w : Cells) → f s ≡ Some m → w ≡ set.remove m cell
    → ((x : ℕ) → g x ≡ cond (nat_eq s x) (Some w) (f x)) → IsTaken f g s cell
some_taken f g s cell m w at is there x = there x ∙ ap (λ o. cond (nat_eq s x) o (f x)) (ap Some is ∙ sym (ap (λ o. without_cell o cell) at))

module _ (f g : AtNumbers) (s : ℕ) (cell : CellId) (is : IsTaken f g s cell) where
  pub removed_keeps : KeepsOthers f g s cell
  removed_keeps x q p e = ap (λ o. has_cell o q) (is x) ∙ go (nat_eq s x) refl
    where
      go : (b : Bool) → nat_eq s x ≡ b → has_cell (cond b (without_cell (f s) cell) (f x)) q ≡ true
      go true t = without_keeps (f s) cell q (is_not_one cell q (nat_eq s x) p t) (subst (λ y. has_cell (f y) q ≡ true) (sym (tied_number s x t)) e)
      go false t = e

  -- nothing more is filed, and the cell is gone from the number
  pub removed_fewer : Keeps g f
  removed_fewer x q e = go (nat_eq s x) refl (sym (ap (λ o. has_cell o q) (is x)) ∙ e)
    where
      go : (b : Bool) → nat_eq s x ≡ b → has_cell (cond b (without_cell (f s) cell) (f x)) q ≡ true → has_cell (f x) q ≡ true
      go true t h = subst (λ y. has_cell (f y) q ≡ true) (tied_number s x t) (without_fewer (f s) cell q h)
      go false t h = h

  pub removed_gone : has_cell (g s) cell ≡ false
  removed_gone = ap (λ o. has_cell o cell) (is s ∙ ap (λ b. cond b (without_cell (f s) cell) (f s)) (number_itself s)) ∙ without_gone (f s) cell

pub emptied_fewer : (f g : AtNumbers) (s : ℕ) → ((x : ℕ) → g x ≡ cond (nat_eq s x) None (f x)) → Keeps g f
emptied_fewer f g s is x q e = go (nat_eq s x) (sym (ap (λ o. has_cell o q) (is x)) ∙ e)
  where
    go : (b : Bool) → has_cell (cond b None (f x)) q ≡ true → has_cell (f x) q ≡ true
    go true h = absurd (false≢true h)
    go false h = h

pub emptied_gone : (f g : AtNumbers) (s : ℕ) (cell : CellId) → ((x : ℕ) → g x ≡ cond (nat_eq s x) None (f x)) → has_cell (g s) cell ≡ false
emptied_gone f g s cell is = ap (λ o. has_cell o cell) (is s ∙ ap (λ b. cond b None (f s)) (number_itself s))

pub emptied_keeps : (f g : AtNumbers) (s : ℕ) → f s ≡ Some set.empty → ((x : ℕ) → g x ≡ cond (nat_eq s x) None (f x)) → Keeps f g
emptied_keeps f g s empty is x q e = ap (λ o. has_cell o q) (is x) ∙ go (nat_eq s x) refl
  where
    go : (b : Bool) → nat_eq s x ≡ b → has_cell (cond b None (f x)) q ≡ true
    go true t = absurd (false≢true (sym (set.contains-empty cell_cmp q) ∙ sym (ap (λ o. has_cell o q) (ap f (sym (tied_number s x t)) ∙ empty)) ∙ e))
    go false t = e

pub same_hold : (f g : AtNumbers) → ((x : ℕ) → g x ≡ f x) → Hold f → Hold g
same_hold f g is hold x e = hold x (sym (is x) ∙ e)

pub removed_hold : (f g : AtNumbers) (s : ℕ) (w : Option Cells) → ((x : ℕ) → g x ≡ cond (nat_eq s x) w (f x)) → (g s ≡ Some set.empty → ⊥) → Hold f → Hold g
removed_hold f g s w is some hold x e = go (nat_eq s x) refl (sym (is x) ∙ e)
  where
    go : (b : Bool) → nat_eq s x ≡ b → cond b w (f x) ≡ Some set.empty → ⊥
    go true t h = some (subst (λ y. g y ≡ Some set.empty) (sym (tied_number s x t)) e)
    go false t h = hold x h

pub emptied_hold : (f g h : AtNumbers) (s : ℕ) (w : Option Cells) → ((x : ℕ) → g x ≡ cond (nat_eq s x) w (f x)) → ((x : ℕ) → h x ≡ cond (nat_eq s x) None (g x))
    → Hold f → Hold h
emptied_hold f g h s w is then hold x e = go (nat_eq s x) refl (sym (then x) ∙ e)
  where
    go : (b : Bool) → nat_eq s x ≡ b → cond b None (g x) ≡ Some set.empty → ⊥
    go true t i = absurd (cc)
    go false t i = hold x (sym (is x ∙ ap (λ b. cond b w (f x)) t) ∙ i)

-- ---- lists of spots
-- one more spot
pub any_more : (p : Spot → Bool) (xs : List Spot) (k : ℕ) (x : Spot) → k < length xs → x ≡ get_or xs k x →
    list_any p (take (k + 1) xs) ≡ (list_any p (take k xs) || p x)
any_more p xs k x less is =
    ap (list_any p) (take_more xs k x less ∙ ap (λ y. take k xs ++ y ∷ []) (sym is)) ∙ list_any-append p (take k xs) (x ∷ [])
    ∙ ap (λ b. list_any p (take k xs) || b) (sym (or_none (p x)))

pub filed_more : (f g : AtNumbers) (cell : CellId) (xs : List Spot) (k : ℕ) (s : Spot) (n : ℕ) → k < length xs → s ≡ get_or xs k s → n ≡ spot_number_of s
    → Keeps f g
    → has_cell (g n) cell ≡ true
    → ((x : ℕ) → list_any (has_number x) (take k xs) ≡ true → has_cell (f x) cell ≡ true)
    → (x : ℕ) → list_any (has_number x) (take (k + 1) xs) ≡ true → has_cell (g x) cell ≡ true
filed_more f g cell xs k s n less is same keeps here before x e =
    elim (or_cases (list_any (has_number x) (take k xs)) (has_number x s) (sym (any_more (has_number x) xs k s less is) ∙ e)) [
      | inl old ↦ keeps x cell (before x old)
      | inr new ↦ subst (λ y. has_cell (g y) cell ≡ true) (same ∙ sym (tied_number x (spot_number_of s) new)) here
    ]

-- a spot of a list is one of it
pub spot_listed : (xs : List Spot) (k : ℕ) (s : Spot) → k < length xs → s ≡ get_or xs k s → list_any (has_number (spot_number_of s)) xs ≡ true
spot_listed [] k s less is = absurd (omega (arith, less))
spot_listed (y ∷ ys) zero s less is = or_left (has_number (spot_number_of s) y) _ (subst (λ z. has_number (spot_number_of s) z
    ≡ true) is (number_itself (spot_number_of s)))
spot_listed (y ∷ ys) (suc k) s less is = or_right (has_number (spot_number_of s) y) _ (spot_listed ys k s (omega (arith, less)) is)

-- nothing more is filed than the cell at the spots
pub gained_more : (f g h : AtNumbers) (cell : CellId) (xs : List Spot) (k : ℕ) (s : Spot) (n : ℕ) → k < length xs → s ≡ get_or xs k s → n ≡ spot_number_of s
    → ((x : ℕ) (q : CellId) → has_cell (h x) q ≡ true → (has_cell (g x) q ≡ true) ⊎ ((q ≡ cell) × (x ≡ n)))
    → ((x : ℕ) (q : CellId) → has_cell (g x) q ≡ true → (has_cell (f x) q ≡ true) ⊎ ((q ≡ cell) × (list_any (has_number x) xs ≡ true)))
    → (x : ℕ) (q : CellId) → has_cell (h x) q ≡ true → (has_cell (f x) q ≡ true) ⊎ ((q ≡ cell) × (list_any (has_number x) xs ≡ true))
gained_more f g h cell xs k s n less is same one before x q e = elim (one x q e) [
  | inl old ↦ before x q old
  | inr new ↦ inr (new.0, subst (λ y. list_any (has_number y) xs ≡ true) (sym (new.1 ∙ same)) (spot_listed xs k s less is))
]

-- one more spot where the cell is gone, but for a row that keeps it
pub gone_more : (f g : AtNumbers) (cell : CellId) (kept : Option RuleSpots) (xs : List Spot) (k : ℕ) (s : Spot) (n : ℕ) → k < length xs → s ≡ get_or xs k s →
    n ≡ spot_number_of s → Keeps g f
    → (has_cell (g n) cell ≡ true → keeps_number kept n ≡ true)
    → ((x : ℕ) → list_any (has_number x) (take k xs) ≡ true → has_cell (f x) cell ≡ true → keeps_number kept x ≡ true)
    → (x : ℕ) → list_any (has_number x) (take (k + 1) xs) ≡ true → has_cell (g x) cell ≡ true → keeps_number kept x ≡ true
gone_more f g cell kept xs k s n less is number fewer here before x among e =
    elim (or_cases (list_any (has_number x) (take k xs)) (has_number x s) (sym (any_more (has_number x) xs k s less is) ∙ among)) [
      | inl old ↦ before x old (fewer x cell e)
      | inr new ↦ (let same : x ≡ n = tied_number x (spot_number_of s) new ∙ sym number in
          subst (λ y. keeps_number kept y ≡ true) (sym same) (here (subst (λ y. has_cell (g y) cell ≡ true) same e)))
    ]

-- a spot that is taken away isn't one of a row that stays
pub taken_more : (f g h : AtNumbers) (cell : CellId) (kept : Option RuleSpots) (s : ℕ) → keeps_number kept s ≡ false → KeepsOthers g h s cell
    → ((x : ℕ) (q : CellId) → (is_one cell q && not (keeps_number kept x)) ≡ false → has_cell (f x) q ≡ true → has_cell (g x) q ≡ true)
    → (x : ℕ) (q : CellId) → (is_one cell q && not (keeps_number kept x)) ≡ false → has_cell (f x) q ≡ true → has_cell (h x) q ≡ true
taken_more f g h cell kept s hasnt taken before x q p e = taken x q (apart (is_one cell q) p) (before x q p e)
  where
    other : keeps_number kept x ≡ true → nat_eq s x ≡ false
    other has = elim (cases_Bool (nat_eq s x)) [
      | inl same ↦ absurd (false≢true (sym hasnt ∙ ap (keeps_number kept) (tied_number s x same) ∙ has))
      | inr differ ↦ differ
    ]

    apart : (b : Bool) → (b && not (keeps_number kept x)) ≡ false → (b && nat_eq s x) ≡ false
    apart true e = other (not-false (keeps_number kept x) e)
    apart false e = refl

-- ---- an index
pub kept_by : (i j : SideIndex) → ((q : CellId) → set.contains i.wide q ≡ true → set.contains j.wide q ≡ true)
    → ((x : ℕ) (q : CellId) → is_filed i (At x) q ≡ true → is_filed j (At x) q ≡ true) → (k : Key) (q : CellId) → is_filed i k q ≡ true → is_filed j k q ≡ true
kept_by i j wide spots Wide q e = wide q e
kept_by i j wide spots (At x) q e = spots x q e

pub only_by : (i j : SideIndex) (x : RuleSpots) (cell : CellId)
    → ((q : CellId) → set.contains j.wide q ≡ true → (set.contains i.wide q ≡ true) ⊎ ((q ≡ cell) × (x.spots.wide ≡ true)))
    → ((y : ℕ) (q : CellId) → is_filed j (At y) q ≡ true → (is_filed i (At y) q ≡ true) ⊎ ((q ≡ cell) × (list_any (has_number y) x.spots.list ≡ true)))
    → (k : Key) (q : CellId) → is_filed j k q ≡ true → (is_filed i k q ≡ true) ⊎ ((q ≡ cell) × (has_key x k ≡ true))
only_by i j x cell wide spots Wide q e = wide q e
only_by i j x cell wide spots (At y) q e = spots y q e

keeps_all_wide : (kept : Option RuleSpots) → keeps_wide kept ≡ has_key_of kept Wide
keeps_all_wide None = refl
keeps_all_wide (Some y) = refl

keeps_spot : (kept : Option RuleSpots) (x : ℕ) → keeps_number kept x ≡ has_key_of kept (At x)
keeps_spot None x = refl
keeps_spot (Some y) x = refl

kept_if : (b : Bool) (cell : CellId) (m : Cells) → (not b ≡ true → set.contains m cell ≡ false) → set.contains m cell ≡ true → b ≡ true
kept_if true cell m gone e = refl
kept_if false cell m gone e = absurd (false≢true (sym (gone refl) ∙ e))

pub gone_by : (j : SideIndex) (x : RuleSpots) (cell : CellId) (kept : Option RuleSpots)
    → (not (keeps_wide kept) ≡ true → set.contains j.wide cell ≡ false)
    → ((y : ℕ) → list_any (has_number y) x.spots.list ≡ true → is_filed j (At y) cell ≡ true → keeps_number kept y ≡ true)
    → (k : Key) → has_key x k ≡ true → is_filed j k cell ≡ true → has_key_of kept k ≡ true
gone_by j x cell kept wide spots Wide key e = sym (keeps_all_wide kept) ∙ kept_if (keeps_wide kept) cell j.wide wide e
gone_by j x cell kept wide spots (At y) key e = sym (keeps_spot kept y) ∙ spots y key e

-- an index without cells
pub none_in : (i : SideIndex) → ((q : CellId) → set.contains i.wide q ≡ false) → ((x : ℕ) → get nat_eq i.by_spot x ≡ None)
    → (k : Key) (q : CellId) → is_filed i k q ≡ false
none_in i wide spots Wide q = wide q
none_in i wide spots (At x) q = ap (λ o. has_cell o q) (spots x)

pub filed_by : (i : SideIndex) (x : RuleSpots) (cell : CellId) → (x.spots.wide ≡ true → set.contains i.wide cell ≡ true)
    → ((y : ℕ) → list_any (has_number y) x.spots.list ≡ true → is_filed i (At y) cell ≡ true) → (k : Key) → has_key x k ≡ true → is_filed i k cell ≡ true
filed_by i x cell wide spots Wide e = wide e
filed_by i x cell wide spots (At y) e = spots y e

pub stays_by : (i j : SideIndex) (cell : CellId) (kept : Option RuleSpots)
    → ((q : CellId) → (is_one cell q && not (keeps_wide kept)) ≡ false → set.contains i.wide q ≡ true → set.contains j.wide q ≡ true)
    → ((x : ℕ) (q : CellId) → (is_one cell q && not (keeps_number kept x)) ≡ false → is_filed i (At x) q ≡ true → is_filed j (At x) q ≡ true)
    → (k : Key) (q : CellId) → stays cell kept k q ≡ true → is_filed i k q ≡ true → is_filed j k q ≡ true
stays_by i j cell kept wide spots Wide q s e = wide q (not-true _ s) e
stays_by i j cell kept wide spots (At x) q s e = spots x q (not-true _ s) e

-- the cells that are looked at, added one part after another
module _ (i : SideIndex) (x : RuleSpots) (m m' n : Cells) (list : List Spot) (wide : (q : CellId) → set.contains m' q
    ≡ (set.contains m q || (x.has_role && set.contains i.wide q)))
    (spots : (q : CellId) → set.contains n q ≡ (set.contains m' q || list_any (λ y. has_cell (get nat_eq i.by_spot (spot_number_of y)) q) list)) where
  pub near_by : list ≡ x.spots.list → (k : Key) (q : CellId) → is_looked_at x k ≡ true → is_filed i k q ≡ true → set.contains n q ≡ true
  near_by same Wide q l e = spots q ∙ or_left _ _ (wide q ∙ or_right (set.contains m q) _ (λ j. l j && e j))
  near_by same (At y) q l e = spots q ∙ or_right (set.contains m' q) _ (some_at list (ap (list_any (has_number y)) same ∙ l))
    where
      some_at : (ys : List Spot) → list_any (has_number y) ys ≡ true → list_any (λ z. has_cell (get nat_eq i.by_spot (spot_number_of z)) q) ys ≡ true
      some_at [] h = absurd (false≢true h)
      some_at (z ∷ ys) h = elim (or_cases (has_number y z) (list_any (has_number y) ys) h) [
        | inl here ↦ or_left _ _ (subst (λ w. has_cell (get nat_eq i.by_spot w) q ≡ true) (tied_number y (spot_number_of z) here) e)
        | inr later ↦ or_right (has_cell (get nat_eq i.by_spot (spot_number_of z)) q) _ (some_at ys later)
      ]

  pub near_keeps : (q : CellId) → set.contains m q ≡ true → set.contains n q ≡ true
  near_keeps q e = spots q ∙ or_left _ _ (wide q ∙ or_left _ _ e)

-- the cells of one more spot
pub added_more : (p : Spot → Bool) (xs : List Spot) (k : ℕ) (x : Spot) (a b c : Bool) → k < length xs → x ≡ get_or xs k x → b ≡ (a || list_any p (take k xs)) →
    c ≡ (b || p x) → c ≡ (a || list_any p (take (k + 1) xs))
added_more p xs k x a b c less is before now =
    now ∙ ap (λ e. e || p x) before ∙ or_group a (list_any p (take k xs)) (p x) ∙ ap (λ e. a || e) (sym (any_more p xs k x less is))
