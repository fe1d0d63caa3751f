-- Indexes by rule: what stays filed, and that each row is filed.
use Rattle.std.proofs.Common.{◌≡◌, ◌⊎◌, inl, inr, ◌<◌, ◌≤◌, ◌+◌, ℕ, zero, suc, Bool, true, false, cond, not, ◌&&◌, ◌||◌, List, [], ◌∷◌, ◌++◌, length, get_or}
use Rattle.std.proofs.Common.{set, Option, Some, None, slice_get, refl, ap, sym, subst, ◌∙◌, arith}
use Rattle.std.proofs.lemmas.Bool.{false≢true, true≢false, and_parts, or_cases, cases_Bool, cases_lt}
use Rattle.std.specs.Cmp.{Equal-is}
use Rattle.std.specs.FinMap as finite
use Rattle.std.specs.List.{list_any}
use Rattle.std.specs.Option.{option_flatten}
use Rattle.std.specs.Ordering.{eq_by_cmp}
use Rattle.clr_rows.proofs.ChangeLemmas.{tied_self}
use Rattle.clr_rows.specs.declared.cells.CellId.{CellId}
use Rattle.clr_rows.specs.Cells.{cell_cmp}
use Rattle.clr_rows.proofs.CellOrder.{cell_cmp_total, cell_cmp_exact}
use Rattle.clr_spots.specs.SpotOrder.{same_spot}
use Rattle.clr_spots.specs.SpotOrderLaws.{same_spot_is}
use Rattle.clr_spots.specs.declared.spots.Spot.{Spot}
use Rattle.clr_spots.specs.Spots.{have_common_spot}
use Rattle.clr_rules.proofs.Elements.{some_of, any_by}
use Rattle.clr_grid.specs.CellSets.{is_one}
use Rattle.clr_finders.specs.CellLists.{is_one_of}
use Rattle.clr_grid.specs.Filing.{Key, Wide, At, has_key, is_filed, is_filed_under, is_looked_at, side_index_of, keeps_number, keeps_wide, same_side, of_side}
use Rattle.clr_grid.specs.Filing.{spots_at, stays, IsFiledRow, IsFiledIfAny, AreFiled, AreOfRows, AreGone, GainNone, GainOnly, HasRowFor, HoldCells}
use Rattle.clr_grid.specs.Filing.{AllHoldCells}
use Rattle.clr_grid.specs.Filing.{StayFiled, StayFiledBut, AreNear, has_key_of, has_key_under}
use Rattle.clr_finders.specs.RowMaps.{FiledRows, RowOrNone, IsRowAt, no_filed_rows, with_pending, with_settled_row, with_settled, without_pending}
use Rattle.clr_finders.specs.Sharing.{are_meeting, is_met, is_met_at}
use Rattle.clr_finders.specs.declared.row_spots.RuleSpots.{RuleSpots}
use Rattle.clr_grid.specs.declared.rule_index.RuleIndex.{RuleIndex}
use Rattle.clr_grid.specs.SpotNumbers.{has_number, spot_number_of}
use Rattle.clr_grid.proofs.FilingLemmas.{number_itself}
use Rattle.clr_finders.proofs.MapLemmas.{get_set_at}

-- ---- lists of indexes
pub filed_append : (xs : List RuleIndex) (x : RuleIndex) → StayFiled xs (xs ++ x ∷ [])
filed_append [] x number serves k q e = absurd (false≢true e)
filed_append (y ∷ ys) x zero serves k q e = e
filed_append (y ∷ ys) x (suc n) serves k q e = filed_append ys x n serves k q e

-- one index that is changed
pub filed_set : (xs : List RuleIndex) (m : ℕ) (old new : RuleIndex) (n : ℕ) (b : Bool) (k : Key) (q : CellId) → m < length xs → old ≡ get_or xs m old
    → (n ≡ m → is_filed (side_index_of old b) k q ≡ true → is_filed (side_index_of new b) k q ≡ true)
    → is_filed_under xs n b k q ≡ true → is_filed_under (set xs m new) n b k q ≡ true
filed_set [] m old new n b k q less is step e = absurd (false≢true e)
filed_set (y ∷ ys) zero old new zero b k q less is step e = step refl (subst (λ i. is_filed (side_index_of i b) k q ≡ true) (sym is) e)
filed_set (y ∷ ys) zero old new (suc n) b k q less is step e = e
filed_set (y ∷ ys) (suc m) old new zero b k q less is step e = e
filed_set (y ∷ ys) (suc m) old new (suc n) b k q less is step e = filed_set ys m old new n b k q (omega (arith, less)) is (λ same. step (ap suc same)) e

-- an index without cells adds nothing
pub append_only : (xs : List RuleIndex) (x : RuleIndex) → ((b : Bool) (k : Key) (q : CellId) → is_filed (side_index_of x b) k q ≡ false)
    → GainNone xs (xs ++ x ∷ [])
append_only [] x none zero serves k q e = absurd (false≢true (sym (none serves k q) ∙ e))
append_only [] x none (suc n) serves k q e = e
append_only (y ∷ ys) x none zero serves k q e = e
append_only (y ∷ ys) x none (suc n) serves k q e = append_only ys x none n serves k q e

-- nothing more is filed than in one index that is changed
pub set_only : {A : Type 0} (xs : List RuleIndex) (m : ℕ) (old new : RuleIndex) (n : ℕ) (b : Bool) (k : Key) (q : CellId) → m < length xs → old
    ≡ get_or xs m old
    → (n ≡ m → is_filed (side_index_of new b) k q ≡ true → (is_filed (side_index_of old b) k q ≡ true) ⊎ A)
    → is_filed_under (set xs m new) n b k q ≡ true → (is_filed_under xs n b k q ≡ true) ⊎ A
set_only [] m old new n b k q less is step e = absurd (omega (arith, less))
set_only (y ∷ ys) zero old new zero b k q less is step e = elim (step refl e) [
  | inl before ↦ inl (subst (λ i. is_filed (side_index_of i b) k q ≡ true) is before)
  | inr more ↦ inr more
]
set_only (y ∷ ys) zero old new (suc n) b k q less is step e = inl e
set_only (y ∷ ys) (suc m) old new zero b k q less is step e = inl e
set_only (y ∷ ys) (suc m) old new (suc n) b k q less is step e = set_only ys m old new n b k q (omega (arith, less)) is (λ same. step (ap suc same)) e

pub set_here : (xs : List RuleIndex) (m : ℕ) (new : RuleIndex) (b : Bool) (k : Key) (q : CellId) → m < length xs → is_filed_under (set xs m new) m b k q ≡ true
    → is_filed (side_index_of new b) k q ≡ true
set_here [] m new b k q less e = absurd (omega (arith, less))
set_here (y ∷ ys) zero new b k q less e = e
set_here (y ∷ ys) (suc m) new b k q less e = set_here ys m new b k q (omega (arith, less)) e

pub none_past : {A : Type 0} (xs : List RuleIndex) (m : ℕ) (b : Bool) (k : Key) (q : CellId) → length xs ≤ m → is_filed_under xs m b k q ≡ true → A
none_past [] m b k q less e = absurd (false≢true e)
none_past (y ∷ ys) zero b k q less e = absurd (omega (arith, less))
none_past (y ∷ ys) (suc m) b k q less e = none_past ys m b k q (omega (arith, less)) e

-- each spot that is kept holds a cell
pub append_lean : (xs : List RuleIndex) (x : RuleIndex) → ((b : Bool) → HoldCells (side_index_of x b).by_spot) → AllHoldCells xs → AllHoldCells (xs ++ x ∷ [])
unfolding AllHoldCells
append_lean [] x lean all zero index b e = let same : x ≡ index = cc in subst (λ (i : RuleIndex). HoldCells (side_index_of i b).by_spot) same (lean b)
append_lean [] x lean all (suc n) index b e = absurd (cc)
append_lean (y ∷ ys) x lean all zero index b e = all zero index b e
append_lean (y ∷ ys) x lean all (suc n) index b e = append_lean ys x lean (λ m. all (suc m)) n index b e

pub set_lean : (xs : List RuleIndex) (m : ℕ) (old new : RuleIndex) → old ≡ get_or xs m old → ((b : Bool) → HoldCells (side_index_of old b).by_spot
    → HoldCells (side_index_of new b).by_spot) → AllHoldCells xs → AllHoldCells (set xs m new)
unfolding AllHoldCells
set_lean [] m old new is step all n index b e = all n index b e
set_lean (y ∷ ys) zero old new is step all zero index b e =
    let same : new ≡ index = cc in subst (λ (i : RuleIndex). HoldCells (side_index_of i b).by_spot) same (step b (all zero old b (ap Some (sym is))))
set_lean (y ∷ ys) zero old new is step all (suc n) index b e = all (suc n) index b e
set_lean (y ∷ ys) (suc m) old new is step all zero index b e = all zero index b e
set_lean (y ∷ ys) (suc m) old new is step all (suc n) index b e = set_lean ys m old new is step (λ k. all (suc k)) n index b e

pub sides_lean : (old new : RuleIndex) → (HoldCells old.servers.by_spot → HoldCells new.servers.by_spot)
    → (HoldCells old.others.by_spot → HoldCells new.others.by_spot)
    → (b : Bool) → HoldCells (side_index_of old b).by_spot → HoldCells (side_index_of new b).by_spot
sides_lean old new servers others true = servers
sides_lean old new servers others false = others

pub none_lean : (xs : List RuleIndex) → xs ≡ [] → AllHoldCells xs
unfolding AllHoldCells
none_lean xs is n index b e = absurd (cc (ap (λ ys. slice_get ys n) is, e))

pub one_or : {A : Type 0} → A ⊎ ⊥ → A
one_or (inl a) = a
one_or (inr none) = absurd none

pub got : {X : Type 0} (xs : List X) (n : ℕ) (x d : X) → slice_get xs n ≡ Some x → x ≡ get_or xs n d
got [] n x d e = absurd (cc)
got (y ∷ ys) zero x d e = let same : y ≡ x = cc in sym same
got (y ∷ ys) (suc n) x d e = got ys n x d e

pub below_it : {X : Type 0} (xs : List X) (n : ℕ) (x : X) → slice_get xs n ≡ Some x → n < length xs
below_it [] n x e = absurd (cc)
below_it (y ∷ ys) zero x e = omega arith
below_it (y ∷ ys) (suc n) x e = omega (arith, below_it ys n x e)

-- ---- rows that are filed
one_is : (cell q : CellId) → is_one cell q ≡ true → cell ≡ q
one_is cell q e = cell_cmp_exact cell q ((Equal-is (cell_cmp cell q)).0 e)

itself : (b : Bool) → same_side b b ≡ true
itself true = refl
itself false = refl

stays_apart : (cell q : CellId) (kept : Option RuleSpots) (k : Key) → is_one cell q ≡ false → stays cell kept k q ≡ true
stays_apart cell q kept Wide e = λ i. not (e i && not (keeps_wide kept))
stays_apart cell q kept (At x) e = λ i. not (e i && not (keeps_number kept x))

nand : (b c : Bool) → c ≡ true → not (b && not c) ≡ true
nand true c e = λ i. not (not (e i))
nand false c e = refl

stays_kept : (cell q : CellId) (y : RuleSpots) (k : Key) → has_key y k ≡ true → stays cell (Some y) k q ≡ true
stays_kept cell q y Wide e = nand (is_one cell q) y.spots.wide e
stays_kept cell q y (At x) e = nand (is_one cell q) (list_any (has_number x) y.spots.list) e

-- where the rows stay, but for one cell whose row is kept, they stay filed
pub filed_kept : (rows rows' : FiledRows) (cell : CellId) (kept : RowOrNone) (xs ys : List RuleIndex) → AreFiled rows xs → StayFiledBut cell kept xs ys
    → ((q : CellId) (row : List RuleSpots) → IsRowAt rows' q row → IsRowAt rows q row) → ((row : List RuleSpots) → IsRowAt rows' cell row → kept ≡ Some row)
    → AreFiled rows' ys
filed_kept rows rows' cell kept xs ys filed stay fewer same q row at number y k is key =
    stay number y.may_serve k q (go (is_one cell q) refl) (filed q row (fewer q row at) number y k is key)
  where
    go : (b : Bool) → is_one cell q ≡ b → stays cell (of_side y.may_serve (spots_at kept number)) k q ≡ true
    go false apart = stays_apart cell q (of_side y.may_serve (spots_at kept number)) k apart
    go true one =
        let here : kept ≡ Some row = same row (subst (λ c. IsRowAt rows' c row) (sym (one_is cell q one)) at) in
        let of : spots_at kept number ≡ Some y = ap (λ o. spots_at o number) here ∙ is in
        subst (λ o. stays cell o k q ≡ true) (sym (ap (of_side y.may_serve) of ∙ ap (λ b. cond b (Some y) None) (itself y.may_serve)))
        (stays_kept cell q y k key)

-- ---- one change less is pending
gone : (b : Bool) (o : Option RowOrNone) (row : List RuleSpots) → cond b None o ≡ Some (Some row) → (b ≡ false) × (o ≡ Some (Some row))
gone true o row e = absurd (cc)
gone false o row e = (refl, e)

was_pending : (o : Option RowOrNone) (row : List RuleSpots) → option_flatten o ≡ Some row → o ≡ Some (Some row)
was_pending None row e = absurd (cc)
was_pending (Some r) row e = ap Some e

left_at : (rows : FiledRows) (cell q : CellId) (row : List RuleSpots) → finite.get (finite.remove rows.pending cell) q ≡ Some (Some row)
    → (eq_by_cmp cell_cmp q cell ≡ false) × (finite.get rows.pending q ≡ Some (Some row))
left_at rows cell q row e = gone (eq_by_cmp cell_cmp q cell) (finite.get rows.pending q) row (sym (finite.get-remove cell_cmp_total rows.pending cell q) ∙ e)

none_left : {A : Type 0} (rows : FiledRows) (cell : CellId) (row : List RuleSpots) → finite.get (finite.remove rows.pending cell) cell ≡ Some (Some row) → A
none_left rows cell row e = absurd (true≢false (sym (tied_self cell) ∙ (left_at rows cell cell row e).0))

pub settled_fewer : (rows : FiledRows) (cell q : CellId) (row : List RuleSpots) → IsRowAt (with_settled rows cell) q row → IsRowAt rows q row
settled_fewer rows cell q row (inr e) = inr (left_at rows cell q row e).1
settled_fewer rows cell q row (inl e) = go (eq_by_cmp cell_cmp q cell) refl
    (sym (get_set_at rows.settled cell (option_flatten (finite.get rows.pending cell)) q) ∙ e)
  where
    go : (b : Bool) → eq_by_cmp cell_cmp q cell ≡ b → cond b (option_flatten (finite.get rows.pending cell)) (finite.get rows.settled q) ≡ Some row
        → IsRowAt rows q row
    go true tie h =
        let same : q ≡ cell = cell_cmp_exact q cell ((Equal-is (cell_cmp q cell)).0 tie) in
        inr (ap (λ c. finite.get rows.pending c) same ∙ was_pending (finite.get rows.pending cell) row h)
    go false tie h = inl h

pub settled_same : (rows : FiledRows) (cell : CellId) (kept : RowOrNone) (row : List RuleSpots) → kept ≡ finite.get (with_settled rows cell).settled cell
    → IsRowAt (with_settled rows cell) cell row → kept ≡ Some row
settled_same rows cell kept row is (inl e) = is ∙ e
settled_same rows cell kept row is (inr e) = none_left rows cell row e

pub left_fewer : (rows : FiledRows) (cell q : CellId) (row : List RuleSpots) → IsRowAt (without_pending rows cell) q row → IsRowAt rows q row
left_fewer rows cell q row (inl e) = inl e
left_fewer rows cell q row (inr e) = inr (left_at rows cell q row e).1

pub left_same : (rows : FiledRows) (cell : CellId) (kept : RowOrNone) (row : List RuleSpots) → kept ≡ finite.get rows.settled cell
    → IsRowAt (without_pending rows cell) cell row → kept ≡ Some row
left_same rows cell kept row is (inl e) = is ∙ e
left_same rows cell kept row is (inr e) = none_left rows cell row e

-- a list that has a spot has its number
number_listed : (z : Spot) (ys : List Spot) → list_any (same_spot z) ys ≡ true → list_any (has_number (spot_number_of z)) ys ≡ true
number_listed z ys e =
    let (w, among, same) = some_of (same_spot z) ys e in
    any_by (has_number (spot_number_of z)) w ys among (subst (λ v. has_number (spot_number_of z) v
    ≡ true) (same_spot_is z w same) (number_itself (spot_number_of z)))

-- ---- what is met by a row that isn't wide is near
-- each cell of which P holds where it is looked at
abbrev pub HoldsNear : (CellId → Type 0) → List RuleIndex → Bool → ℕ → RuleSpots → Type 0
HoldsNear P indexes servers number x = (serves : Bool) (k : Key) (q : CellId) → (servers ≡ true → serves ≡ true) → is_looked_at x k ≡ true
    → is_filed_under indexes number serves k q ≡ true → P q

pub met_holds : (P : CellId → Type 0) (rows : FiledRows) (indexes : List RuleIndex) (servers : Bool) (x : RuleSpots) (number : ℕ) → AreFiled rows indexes
    → x.spots.wide ≡ false → HoldsNear P indexes servers number x
    → (q : CellId) → is_met_at servers x number (finite.get rows.settled q) ≡ true → P q
unfolding are_meeting
met_holds P rows indexes servers x number filed narrow near q met = row (finite.get rows.settled q) refl met
  where
    sides : (y : RuleSpots) → (not servers || y.may_serve) ≡ true → servers ≡ true → y.may_serve ≡ true
    sides y e s = sym (λ i. not (s i) || y.may_serve) ∙ e

    by_spots : (ys : List RuleSpots) (y : RuleSpots) → finite.get rows.settled q ≡ Some ys → slice_get ys number ≡ Some y → are_meeting x y ≡ true
        → (not servers || y.may_serve) ≡ true → P q
    by_spots ys y at of e s =
        let found : (k : Key) → is_looked_at x k ≡ true → has_key y k ≡ true → P q =
        λ k looked key. near y.may_serve k q (sides y s) looked (filed q ys (inl at) number y k of key) in
        let p = and_parts x.has_role _ e in
        let r = and_parts y.has_role _ p.1 in
        elim (or_cases (x.spots.wide || y.spots.wide) (have_common_spot x.spots.list y.spots.list) r.1) [
          | inl wide ↦ (elim (or_cases x.spots.wide y.spots.wide wide) [ inl one ↦ absurd (false≢true (sym narrow ∙ one)) | inr other ↦ found Wide p.0 other ])
          | inr common ↦ (let (z, among, has) = some_of (λ z. list_any (same_spot z) y.spots.list) x.spots.list common in
              found (At (spot_number_of z)) (any_by (has_number (spot_number_of z)) z x.spots.list among (number_itself (spot_number_of z)))
              (number_listed z y.spots.list has))
        ]

    one : (ys : List RuleSpots) (o : Option RuleSpots) → finite.get rows.settled q ≡ Some ys → slice_get ys number ≡ o → is_met servers x o ≡ true → P q
    one ys None at of e = absurd (false≢true e)
    one ys (Some y) at of e = let p = and_parts (are_meeting x y) _ e in by_spots ys y at of p.0 p.1

    row : (o : RowOrNone) → finite.get rows.settled q ≡ o → is_met_at servers x number o ≡ true → P q
    row None at e = absurd (false≢true e)
    row (Some ys) at e = one ys (slice_get ys number) at refl e

pub met_near : (rows : FiledRows) (indexes : List RuleIndex) (servers : Bool) (x : RuleSpots) (number : ℕ) (cells : List CellId) → AreFiled rows indexes
    → x.spots.wide ≡ false → AreNear indexes servers number x cells
    → (q : CellId) → is_met_at servers x number (finite.get rows.settled q) ≡ true → is_one_of cells q ≡ true
met_near rows indexes servers x number cells filed narrow near = met_holds (λ q. is_one_of cells q ≡ true) rows indexes servers x number filed narrow near

-- ---- the rows of a finder
pub none_filed : (rows : FiledRows) (xs : List RuleIndex) → rows ≡ no_filed_rows → AreFiled rows xs
none_filed rows xs is q ys (inl e) = absurd (cc (ap (λ (r : FiledRows). finite.get r.settled q) is, finite.get-empty {X = List RuleSpots} cell_cmp q))
none_filed rows xs is q ys (inr e) = absurd (cc (ap (λ (r : FiledRows). finite.get r.pending q) is, finite.get-empty {X = RowOrNone} cell_cmp q))

pub filed_settled : (rows rows' : FiledRows) (cell : CellId) (kept : RowOrNone) (xs ys : List RuleIndex) → AreFiled rows xs → StayFiledBut cell kept xs ys →
    rows'
    ≡ with_settled rows cell → kept ≡ finite.get rows'.settled cell → AreFiled rows' ys
filed_settled rows rows' cell kept xs ys filed stay is same = subst (λ (r : FiledRows). AreFiled r ys) (sym is)
    (filed_kept rows (with_settled rows cell) cell kept xs ys filed stay (settled_fewer rows cell) (λ row. settled_same rows cell kept row (same
    ∙ ap (λ (r : FiledRows). finite.get r.settled cell) is)))

pub filed_left : (rows rows' : FiledRows) (cell : CellId) (kept : RowOrNone) (xs ys : List RuleIndex) → AreFiled rows xs → StayFiledBut cell kept xs ys → rows'
    ≡ without_pending rows cell → kept ≡ finite.get rows'.settled cell → AreFiled rows' ys
filed_left rows rows' cell kept xs ys filed stay is same = subst (λ (r : FiledRows). AreFiled r ys) (sym is)
    (filed_kept rows (without_pending rows cell) cell kept xs ys filed stay (left_fewer rows cell) (λ row. left_same rows cell kept row (same
    ∙ ap (λ (r : FiledRows). finite.get r.settled cell) is)))

still_filed : (rows : FiledRows) (xs ys : List RuleIndex) → AreFiled rows xs → StayFiled xs ys → AreFiled rows ys
still_filed rows xs ys filed stay q row at number y k is key = stay number y.may_serve k q (filed q row at number y k is key)

filed_row : (ys : List RuleIndex) (cell : CellId) (row : RowOrNone) (zs : List RuleSpots) → IsFiledIfAny ys cell row → row ≡ Some zs → IsFiledRow ys cell zs
filed_row ys cell None zs h e = absurd (cc)
filed_row ys cell (Some us) zs h e = let same : us ≡ zs = cc in subst (IsFiledRow ys cell) same h

pub filed_noted : (rows rows' : FiledRows) (cell : CellId) (row : RowOrNone) (xs ys : List RuleIndex) → AreFiled rows xs → StayFiled xs ys →
    IsFiledIfAny ys cell row
    → rows' ≡ with_pending rows cell row → AreFiled rows' ys
filed_noted rows rows' cell row xs ys filed stay here is = subst (λ (r : FiledRows). AreFiled r ys) (sym is) both
  where
    old : AreFiled rows ys
    old = still_filed rows xs ys filed stay

    both : AreFiled (with_pending rows cell row) ys
    both q zs (inl e) = old q zs (inl e)
    both q zs (inr e) = go (eq_by_cmp cell_cmp q cell) refl (sym (finite.get-insert cell_cmp_total rows.pending cell row q) ∙ e)
      where
        go : (b : Bool) → eq_by_cmp cell_cmp q cell ≡ b → cond b (Some row) (finite.get rows.pending q) ≡ Some (Some zs) → IsFiledRow ys q zs
        go true tie h =
            let same : q ≡ cell = cell_cmp_exact q cell ((Equal-is (cell_cmp q cell)).0 tie) in
            let is_row : row ≡ Some zs = cc in
            subst (λ c. IsFiledRow ys c zs) (sym same) (filed_row ys cell row zs here is_row)
        go false tie h = old q zs (inr h)

pub filed_refused : (rows rows' : FiledRows) (cell : CellId) (kept : RowOrNone) (xs ys zs : List RuleIndex) → finite.get rows.pending cell ≡ None →
    AreFiled rows xs
    → StayFiled xs ys → StayFiledBut cell kept ys zs → rows' ≡ rows → kept ≡ finite.get rows'.settled cell → AreFiled rows' zs
filed_refused rows rows' cell kept xs ys zs free filed stay but is same = subst (λ (r : FiledRows). AreFiled r zs) (sym is)
    (filed_kept rows rows cell kept ys zs (still_filed rows xs ys filed stay) but (λ q row at. at) here)
  where
    here : (row : List RuleSpots) → IsRowAt rows cell row → kept ≡ Some row
    here row (inl e) = same ∙ ap (λ (r : FiledRows). finite.get r.settled cell) is ∙ e
    here row (inr e) = absurd (cc)

-- a change that is dropped again leaves the rows as they were
pub dropped_again : (rows : FiledRows) (cell : CellId) (row : RowOrNone) → finite.get rows.pending cell ≡ None →
    without_pending (with_pending rows cell row) cell
    ≡ rows
dropped_again rows cell row free = λ i. record {
  settled = rows.settled;
  pending = finite.same_map cell_cmp_total cell_cmp_exact
      (finite.remove (finite.insert rows.pending cell row) cell) rows.pending same i;
}
  where
    same : (q : CellId) → finite.get (finite.remove (finite.insert rows.pending cell row) cell) q ≡ finite.get rows.pending q
    same q = finite.get-remove cell_cmp_total (finite.insert rows.pending cell row) cell q
        ∙ ap (cond (eq_by_cmp cell_cmp q cell) None) (finite.get-insert cell_cmp_total rows.pending cell row q) ∙ go (eq_by_cmp cell_cmp q cell) refl
      where
        go : (b : Bool) → eq_by_cmp cell_cmp q cell ≡ b → cond b None (cond b (Some row) (finite.get rows.pending q)) ≡ finite.get rows.pending q
        go true tie = sym (ap (λ c. finite.get rows.pending c) (cell_cmp_exact q cell ((Equal-is (cell_cmp q cell)).0 tie)) ∙ free)
        go false tie = refl

-- an element at a position that is there
pub got_at : {X : Type 0} (xs : List X) (n : ℕ) (x : X) → n < length xs → x ≡ get_or xs n x → slice_get xs n ≡ Some x
got_at [] n x less is = absurd (omega (arith, less))
got_at (y ∷ ys) zero x less is = ap Some (sym is)
got_at (y ∷ ys) (suc n) x less is = got_at ys n x (omega (arith, less)) is

under_at : (row : List RuleSpots) (m : ℕ) (s : RuleSpots) (b : Bool) (k : Key) → slice_get row m ≡ Some s → has_key_under (Some row) m b k
    ≡ has_key_of (of_side b (Some s)) k
under_at row m s b k at = ap (λ o. has_key_of (of_side b o) k) at

-- nothing more is filed than the cell under one more rule
pub gained_next : (xs ys zs : List RuleIndex) (cell : CellId) (row : List RuleSpots) (m : ℕ) (s : RuleSpots) → m < length row → s ≡ get_or row m s
    → ((n : ℕ) (b : Bool) (k : Key) (q : CellId) → is_filed_under zs n b k q ≡ true → (is_filed_under ys n b k q ≡ true)
    ⊎ ((q ≡ cell) × ((n ≡ m) × (has_key_of (of_side b (Some s)) k ≡ true))))
    → GainOnly cell (Some row) xs ys → GainOnly cell (Some row) xs zs
gained_next xs ys zs cell row m s less at here before n b k q e = elim (here n b k q e) [
  | inl old ↦ before n b k q old
  | inr new ↦ inr (new.0, subst (λ j. has_key_under (Some row) j b k ≡ true) (sym new.1.0) (under_at row m s b k (got_at row m s less at) ∙ new.1.1))
]

-- the cell is gone under one more rule, but for a row that it keeps
pub gone_next : (ys zs : List RuleIndex) (cell : CellId) (row : List RuleSpots) (kept : RowOrNone) (m : ℕ) (s : RuleSpots) → s ≡ get_or row m s → m < length row
    → GainNone ys zs
    → ((b : Bool) (k : Key) → has_key_of (of_side b (Some s)) k ≡ true → is_filed_under zs m b k cell ≡ true → has_key_under kept m b k ≡ true)
    → ((n : ℕ) (b : Bool) (k : Key) → n < m → has_key_under (Some row) n b k ≡ true → is_filed_under ys n b k cell ≡ true → has_key_under kept n b k ≡ true)
    → (n : ℕ) (b : Bool) (k : Key) → n < m + 1 → has_key_under (Some row) n b k ≡ true → is_filed_under zs n b k cell ≡ true → has_key_under kept n b k ≡ true
gone_next ys zs cell row kept m s at less fewer here before n b k up key e = elim (cases_lt n m) [
  | inl lower ↦ before n b k lower key (fewer n b k cell e)
  | inr not_lower ↦ (let same : n ≡ m = omega (arith, up, not_lower) in
      subst (λ j. has_key_under kept j b k ≡ true) (sym same)
      (here b k (sym (under_at row m s b k (got_at row m s less at)) ∙ subst (λ j. has_key_under (Some row) j b k ≡ true) same key)
      (subst (λ j. is_filed_under zs j b k cell ≡ true) same e)))
]

-- a row has no key past its rules
pub none_under : {A : Type 0} (row : List RuleSpots) (n : ℕ) (b : Bool) (k : Key) → length row ≤ n → has_key_under (Some row) n b k ≡ true → A
none_under [] n b k less e = absurd (false≢true e)
none_under (y ∷ ys) zero b k less e = absurd (omega (arith, less))
none_under (y ∷ ys) (suc n) b k less e = none_under ys n b k (omega (arith, less)) e

-- the cell filed under one more rule
pub filed_next : (xs ys : List RuleIndex) (cell : CellId) (row : List RuleSpots) (m : ℕ) (s : RuleSpots) → s ≡ get_or row m s → StayFiled xs ys
    → ((k : Key) → has_key s k ≡ true → is_filed_under ys m s.may_serve k cell ≡ true)
    → ((n : ℕ) (y : RuleSpots) (k : Key) → n < m → slice_get row n ≡ Some y → has_key y k ≡ true → is_filed_under xs n y.may_serve k cell ≡ true)
    → (n : ℕ) (y : RuleSpots) (k : Key) → n < m + 1 → slice_get row n ≡ Some y → has_key y k ≡ true → is_filed_under ys n y.may_serve k cell ≡ true
filed_next xs ys cell row m s at stay here before n y k less is key = elim (cases_lt n m) [
  | inl lower ↦ stay n y.may_serve k cell (before n y k lower is key)
  | inr not_lower ↦ (let same : n ≡ m = omega (arith, less, not_lower) in
      let s_is : y ≡ s = got row n y s is ∙ ap (λ j. get_or row j s) same ∙ sym at in
      subst (λ j. is_filed_under ys j y.may_serve k cell ≡ true) (sym same) (subst (λ (z : RuleSpots). is_filed_under ys m z.may_serve k cell
      ≡ true) (sym s_is) (here k (subst (λ (z : RuleSpots). has_key z k ≡ true) s_is key))))
]

pub noted_row : (rows rows' : FiledRows) (cell : CellId) (row : RowOrNone) → rows' ≡ with_pending rows cell row → option_flatten (finite.get rows'.pending cell)
    ≡ row
noted_row rows rows' cell row is =
    ap (λ (r : FiledRows). option_flatten (finite.get r.pending cell)) is
    ∙ ap option_flatten (finite.get-insert cell_cmp_total rows.pending cell row cell
    ∙ ap (λ b. cond b (Some row) (finite.get rows.pending cell)) (tied_self cell))

pub noted_dropped : (rows noted left : FiledRows) (cell : CellId) (row : RowOrNone) → finite.get rows.pending cell ≡ None → noted ≡ with_pending rows cell row →
    left
    ≡ without_pending noted cell → left ≡ rows
noted_dropped rows noted left cell row free is gone = gone ∙ ap (λ (r : FiledRows). without_pending r cell) is ∙ dropped_again rows cell row free

-- ---- nothing else is filed
by_cell : {A : Type 0} (cell q : CellId) → (q ≡ cell → A) → (eq_by_cmp cell_cmp q cell ≡ false → A) → A
by_cell cell q same apart = elim (cases_Bool (eq_by_cmp cell_cmp q cell)) [
  | inl tie ↦ same (cell_cmp_exact q cell ((Equal-is (cell_cmp q cell)).0 tie))
  | inr differ ↦ apart differ
]

kept_row : (rows : FiledRows) (cell : CellId) (kept : RowOrNone) (n : ℕ) (b : Bool) (k : Key) → kept ≡ finite.get rows.settled cell →
    has_key_under kept n b k ≡ true
    → HasRowFor rows cell n b k
kept_row rows cell None n b k is key = absurd (false≢true key)
kept_row rows cell (Some row) n b k is key = record { row = row; stands = inl (sym is); wanted = key }

noted_key : (rows : FiledRows) (cell : CellId) (row : RowOrNone) (n : ℕ) (b : Bool) (k : Key) → has_key_under row n b k ≡ true
    → HasRowFor (with_pending rows cell row) cell n b k
noted_key rows cell None n b k key = absurd (false≢true key)
noted_key rows cell (Some row) n b k key = record {
  row = row;
  stands = inr (finite.get-insert cell_cmp_total rows.pending cell (Some row) cell
      ∙ ap (λ t. cond t (Some (Some row)) (finite.get rows.pending cell)) (tied_self cell));
  wanted = key;
}

pub others_noted : (rows rows' : FiledRows) (cell : CellId) (row : RowOrNone) (xs ys : List RuleIndex) → finite.get rows.pending cell ≡ None → AreOfRows rows xs
    → GainOnly cell row xs ys → rows' ≡ with_pending rows cell row → AreOfRows rows' ys
others_noted rows rows' cell row xs ys free of gain is n b k q e = subst (λ (r : FiledRows). HasRowFor r q n b k) (sym is) (elim (gain n b k q e) [
  | inl old ↦ stays (of n b k q old)
  | inr new ↦ subst (λ c. HasRowFor (with_pending rows cell row) c n b k) (sym new.0) (noted_key rows cell row n b k new.1)
])
  where
    stays : HasRowFor rows q n b k → HasRowFor (with_pending rows cell row) q n b k
    stays h = elim h.stands [
      | inl settled ↦ record { row = h.row; stands = inl settled; wanted = h.wanted }
      | inr pending ↦ record {
        row = h.row;
        stands = inr (by_cell cell q (λ tie. absurd (cc (ap (λ c. finite.get rows.pending c) tie, free, pending)))
            (λ differ. finite.get-insert cell_cmp_total rows.pending cell row q ∙ ap (λ t. cond t (Some row) (finite.get rows.pending q)) differ ∙ pending));
        wanted = h.wanted;
      }
    ]

pub others_refused : (rows rows' : FiledRows) (cell : CellId) (row kept : RowOrNone) (xs ys zs : List RuleIndex) → AreOfRows rows xs → GainOnly cell row xs ys
    → GainNone ys zs → AreGone cell row kept zs
    → rows' ≡ rows → kept ≡ finite.get rows'.settled cell → AreOfRows rows' zs
others_refused rows rows' cell row kept xs ys zs of gain fewer gone is same n b k q e = elim (gain n b k q (fewer n b k q e)) [
  | inl old ↦ subst (λ (r : FiledRows). HasRowFor r q n b k) (sym is) (of n b k q old)
  | inr new ↦ subst (λ c. HasRowFor rows' c n b k) (sym new.0) (kept_row rows' cell kept n b k same (gone n b k new.1 (subst (λ c. is_filed_under zs n b k c
      ≡ true) new.0 e)))
]

-- where a cell gets another row, each row at another cell stays, and what is still filed for the cell is filed for its kept row
module _ (rows rows' : FiledRows) (cell : CellId) (row kept : RowOrNone) (xs ys : List RuleIndex) (of : AreOfRows rows xs) (fewer : GainNone xs ys)
    (gone : AreGone cell row kept ys) where
  other_pending : (q : CellId) → eq_by_cmp cell_cmp q cell ≡ false → finite.get (finite.remove rows.pending cell) q ≡ finite.get rows.pending q
  other_pending q differ = finite.get-remove cell_cmp_total rows.pending cell q ∙ ap (λ t. cond t None (finite.get rows.pending q)) differ

  others_moved : (after : FiledRows)
      → ((n : ℕ) (b : Bool) (k : Key) → HasRowFor rows cell n b k → is_filed_under ys n b k cell ≡ true → HasRowFor after cell n b k)
      → ((q : CellId) (n : ℕ) (b : Bool) (k : Key) → eq_by_cmp cell_cmp q cell ≡ false → HasRowFor rows q n b k → HasRowFor after q n b k)
      → rows' ≡ after → AreOfRows rows' ys
  others_moved after here apart is n b k q e =
      let h = of n b k q (fewer n b k q e) in
      subst (λ (r : FiledRows). HasRowFor r q n b k) (sym is) (by_cell cell q
      (λ tie. subst (λ c. HasRowFor after c n b k) (sym tie) (here n b k (subst (λ c. HasRowFor rows c n b k) tie h)
      (subst (λ c. is_filed_under ys n b k c ≡ true) tie e)))
      (λ differ. apart q n b k differ h))

  pub others_settled : row ≡ finite.get rows.settled cell → rows' ≡ with_settled rows cell → kept ≡ finite.get rows'.settled cell → AreOfRows rows' ys
  others_settled was is same = others_moved (with_settled rows cell) here apart is
    where
      here : (n : ℕ) (b : Bool) (k : Key) → HasRowFor rows cell n b k → is_filed_under ys n b k cell ≡ true → HasRowFor (with_settled rows cell) cell n b k
      here n b k h there = elim h.stands [
        | inl settled ↦ kept_row (with_settled rows cell) cell kept n b k (same ∙ ap (λ (r : FiledRows). finite.get r.settled cell) is)
            (gone n b k (subst (λ o. has_key_under o n b k ≡ true) (sym (was ∙ settled)) h.wanted) there)
        | inr pending ↦ record {
          row = h.row;
          stands = inl (get_set_at rows.settled cell (option_flatten (finite.get rows.pending cell)) cell
              ∙ ap (λ t. cond t (option_flatten (finite.get rows.pending cell)) (finite.get rows.settled cell)) (tied_self cell) ∙ ap option_flatten pending);
          wanted = h.wanted;
        }
      ]

      apart : (q : CellId) (n : ℕ) (b : Bool) (k : Key) → eq_by_cmp cell_cmp q cell ≡ false → HasRowFor rows q n b k
          → HasRowFor (with_settled rows cell) q n b k
      apart q n b k differ h = elim h.stands [
        | inl settled ↦ record {
          row = h.row;
          stands = inl (get_set_at rows.settled cell (option_flatten (finite.get rows.pending cell)) q
              ∙ ap (λ t. cond t (option_flatten (finite.get rows.pending cell)) (finite.get rows.settled q)) differ ∙ settled);
          wanted = h.wanted;
        }
        | inr pending ↦ record { row = h.row; stands = inr (other_pending q differ ∙ pending); wanted = h.wanted }
      ]

  pub others_left : row ≡ option_flatten (finite.get rows.pending cell) → rows' ≡ without_pending rows cell → kept ≡ finite.get rows'.settled cell
      → AreOfRows rows' ys
  others_left was is same = others_moved (without_pending rows cell) here apart is
    where
      here : (n : ℕ) (b : Bool) (k : Key) → HasRowFor rows cell n b k → is_filed_under ys n b k cell ≡ true → HasRowFor (without_pending rows cell) cell n b k
      here n b k h there = elim h.stands [
        | inl settled ↦ record { row = h.row; stands = inl settled; wanted = h.wanted }
        | inr pending ↦ kept_row (without_pending rows cell) cell kept n b k (same ∙ ap (λ (r : FiledRows). finite.get r.settled cell) is)
            (gone n b k (subst (λ o. has_key_under o n b k ≡ true) (sym (was ∙ ap option_flatten pending)) h.wanted) there)
      ]

      apart : (q : CellId) (n : ℕ) (b : Bool) (k : Key) → eq_by_cmp cell_cmp q cell ≡ false → HasRowFor rows q n b k
          → HasRowFor (without_pending rows cell) q n b k
      apart q n b k differ h = elim h.stands [
        | inl settled ↦ record { row = h.row; stands = inl settled; wanted = h.wanted }
        | inr pending ↦ record { row = h.row; stands = inr (other_pending q differ ∙ pending); wanted = h.wanted }
      ]

-- no index files nothing
pub none_other : (rows : FiledRows) (xs : List RuleIndex) → xs ≡ [] → AreOfRows rows xs
none_other rows xs is n b k q e = absurd (false≢true (sym (ap (λ ys. is_filed_under ys n b k q) is) ∙ e))

-- ---- one more settled row
pub filed_put : (rows rows' : FiledRows) (cell : CellId) (row : List RuleSpots) (xs ys : List RuleIndex) → AreFiled rows xs → StayFiled xs ys
    → IsFiledIfAny ys cell (Some row) → rows' ≡ with_settled_row rows cell row → AreFiled rows' ys
filed_put rows rows' cell row xs ys filed stay here is = subst (λ (r : FiledRows). AreFiled r ys) (sym is) both
  where
    old : AreFiled rows ys
    old = still_filed rows xs ys filed stay

    both : AreFiled (with_settled_row rows cell row) ys
    both q zs (inr e) = old q zs (inr e)
    both q zs (inl e) = go (eq_by_cmp cell_cmp q cell) refl (sym (finite.get-insert cell_cmp_total rows.settled cell row q) ∙ e)
      where
        go : (b : Bool) → eq_by_cmp cell_cmp q cell ≡ b → cond b (Some row) (finite.get rows.settled q) ≡ Some zs → IsFiledRow ys q zs
        go true tie h =
            let same : q ≡ cell = cell_cmp_exact q cell ((Equal-is (cell_cmp q cell)).0 tie) in
            subst (λ c. IsFiledRow ys c zs) (sym same) (filed_row ys cell (Some row) zs here h)
        go false tie h = old q zs (inl h)

pub others_put : (rows rows' : FiledRows) (cell : CellId) (row : List RuleSpots) (xs ys : List RuleIndex) → finite.get rows.settled cell ≡ None →
    AreOfRows rows xs
    → GainOnly cell (Some row) xs ys
    → rows' ≡ with_settled_row rows cell row → AreOfRows rows' ys
others_put rows rows' cell row xs ys free of gain is n b k q e = subst (λ (r : FiledRows). HasRowFor r q n b k) (sym is) (elim (gain n b k q e) [
  | inl old ↦ stays (of n b k q old)
  | inr new ↦ subst (λ c. HasRowFor (with_settled_row rows cell row) c n b k) (sym new.0) (record {
    row = row;
    stands = inl (finite.get-insert cell_cmp_total rows.settled cell row cell ∙ ap (λ t. cond t (Some row) (finite.get rows.settled cell)) (tied_self cell));
    wanted = new.1;
  })
])
  where
    stays : HasRowFor rows q n b k → HasRowFor (with_settled_row rows cell row) q n b k
    stays h = elim h.stands [
      | inr pending ↦ record { row = h.row; stands = inr pending; wanted = h.wanted }
      | inl settled ↦ record {
        row = h.row;
        stands = inl (by_cell cell q (λ tie. absurd (cc (ap (λ c. finite.get rows.settled c) tie, free, settled)))
            (λ differ. finite.get-insert cell_cmp_total rows.settled cell row q ∙ ap (λ t. cond t (Some row) (finite.get rows.settled q)) differ ∙ settled));
        wanted = h.wanted;
      }
    ]
