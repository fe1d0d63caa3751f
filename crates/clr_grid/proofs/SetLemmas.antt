-- Sets of cells, as the keys of trees make them.
use Rattle.std.proofs.Common.{◌≡◌, Bool, true, false, cond, not, ◌&&◌, ◌||◌, List, [], ◌∷◌, ◌++◌, length, Option, Some, None, option_to_list, refl, ap, ap₂}
use Rattle.std.proofs.Common.{Contains, sym, subst, ◌∙◌}
use Rattle.std.specs.Prelude.{◌↔◌}
use Rattle.std.proofs.Math.Bool.{and-false}
use Rattle.std.proofs.lemmas.Bool.{true≢false, or_left}
use Rattle.clr_rows.proofs.ChangeLemmas.{tied_self}
use Rattle.std.specs.BTreeMap.{is_at}
use Rattle.std.proofs.lemmas.List.Folds.{list_any-append}
use Rattle.std.specs.Cmp.{both_ways, eq_by_cmp_equiv, Equal-is}
use Rattle.std.specs.FinSet as set
use Rattle.std.specs.List.{list_any}
use Rattle.std.specs.Ordering.{eq_by_cmp}
use Rattle.clr_rows.specs.declared.cells.CellId.{CellId}
use Rattle.clr_rows.specs.Cells.{cell_cmp}
use Rattle.clr_rows.proofs.CellOrder.{cell_cmp_total, cell_cmp_exact}
use Rattle.clr_rules.proofs.Elements.{among, any_by, contained}
use Rattle.clr_finders.proofs.PassingCells.{one_among}
use Rattle.clr_grid.specs.CellSets.{Cells, with_listed_cells}
use Rattle.clr_finders.specs.CellLists.{is_one_of}

or_cond : (b c : Bool) → cond b true c ≡ (b || c)
or_cond true c = refl
or_cond false c = refl

and_cond : (b c : Bool) → cond b false c ≡ (not b && c)
and_cond true c = refl
and_cond false c = refl

-- keys that have a cell or don't, and else are as others
abbrev pub DifferAt : CellId → Bool → List CellId → List CellId → Type 0
DifferAt k has ks ls = (q : CellId) → list_any (is_at (cell_cmp q)) ls ≡ cond (is_at (cell_cmp k) q) has (list_any (is_at (cell_cmp q)) ks)

-- keys with one more make the set with it
pub one_added : (ks ls : List CellId) (k : CellId) → DifferAt k true ks ls → set.from_list {R = cell_cmp} ls ≡ set.insert (set.from_list ks) k
one_added ks ls k h = set.same_set cell_cmp_total cell_cmp_exact _ _ (λ q.
    set.contains-from_list cell_cmp_total ls q ∙ h q ∙ or_cond (is_at (cell_cmp k) q) _
    ∙ ap (λ b. b || list_any (is_at (cell_cmp q)) ks) ((eq_by_cmp_equiv cell_cmp_total).symm k q)
    ∙ sym (set.contains-insert cell_cmp_total (set.from_list ks) k q ∙ ap (λ b. eq_by_cmp cell_cmp q k || b) (set.contains-from_list cell_cmp_total ks q)))

-- the set of a list with one cell less is the set without this cell
pub one_gone : (ks ls : List CellId) (k : CellId) → DifferAt k false ks ls → set.from_list {R = cell_cmp} ls ≡ set.remove (set.from_list ks) k
one_gone ks ls k h = set.same_set cell_cmp_total cell_cmp_exact _ _ (λ q.
    set.contains-from_list cell_cmp_total ls q ∙ h q ∙ and_cond (is_at (cell_cmp k) q) _
    ∙ ap (λ b. not b && list_any (is_at (cell_cmp q)) ks) ((eq_by_cmp_equiv cell_cmp_total).symm k q)
    ∙ sym (set.contains-remove cell_cmp_total (set.from_list ks) k q
    ∙ ap (λ b. not (eq_by_cmp cell_cmp q k) && b) (set.contains-from_list cell_cmp_total ks q)))

-- keys that make the empty set are none
pub no_keys : (ks : List CellId) → set.from_list {R = cell_cmp} ks ≡ set.empty → length ks ≡ 0
no_keys [] e = refl
no_keys (k ∷ ks) e = absurd (true≢false (sym (or_left (is_at (cell_cmp k) k) (list_any (is_at (cell_cmp k)) ks) (tied_self k))
    ∙ sym (set.contains-from_list cell_cmp_total (k ∷ ks) k) ∙ ap (λ (m : Cells). set.contains m k) e ∙ set.contains-empty cell_cmp k))

or_move : (a b c : Bool) → ((a || b) || c) ≡ (b || (a || c))
or_move true true c = refl
or_move true false c = refl
or_move false b c = refl

pub or_none : (a : Bool) → a ≡ (a || false)
or_none true = refl
or_none false = refl

pub has_with_cells : (cells : List CellId) (m : Cells) (q : CellId) → set.contains (with_listed_cells m cells) q ≡ (set.contains m q || is_one_of cells q)
has_with_cells [] m q = or_none _
has_with_cells (c ∷ cells) m q = has_with_cells cells (set.insert m c) q
    ∙ ap (λ b. b || is_one_of cells q) (set.contains-insert cell_cmp_total m c q) ∙ or_move (eq_by_cmp cell_cmp q c) (set.contains m q) (is_one_of cells q)

pub or_group : (a b c : Bool) → ((a || b) || c) ≡ (a || (b || c))
or_group true b c = refl
or_group false b c = refl

-- ---- a first cell and the keys of a tree
pub first_put : (k : CellId) (ks : List CellId) → set.from_list {R = cell_cmp} (k ∷ ks) ≡ set.insert (set.from_list ks) k
first_put k ks = set.same_set cell_cmp_total cell_cmp_exact _ _ (λ q.
    set.contains-from_list cell_cmp_total (k ∷ ks) q
    ∙ sym (set.contains-insert cell_cmp_total (set.from_list ks) k q ∙ ap (λ b. eq_by_cmp cell_cmp q k || b) (set.contains-from_list cell_cmp_total ks q)))

or_chosen : (a c b : Bool) → (a || cond c true b) ≡ cond c true (a || b)
or_chosen true true b = refl
or_chosen true false b = refl
or_chosen false true b = refl
or_chosen false false b = refl

pub more_added : (f k : CellId) (ks ls : List CellId) → DifferAt k true ks ls → set.from_list {R = cell_cmp} (f ∷ ls) ≡ set.insert (set.from_list (f ∷ ks)) k
more_added f k ks ls h = one_added (f ∷ ks) (f ∷ ls) k (λ q.
    ap (λ b. is_at (cell_cmp q) f || b) (h q) ∙ or_chosen (is_at (cell_cmp q) f) (is_at (cell_cmp k) q) (list_any (is_at (cell_cmp q)) ks))

pub first_there : (f k : CellId) (ks : List CellId) → eq_by_cmp cell_cmp f k ≡ true →
    set.from_list {R = cell_cmp} (f ∷ ks) ≡ set.insert (set.from_list (f ∷ ks)) k
first_there f k ks tie = one_added (f ∷ ks) (f ∷ ks) k (λ q. go q (is_at (cell_cmp k) q) refl)
  where
    same : f ≡ k
    same = cell_cmp_exact f k ((Equal-is (cell_cmp f k)).0 tie)

    go : (q : CellId) (b : Bool) → is_at (cell_cmp k) q ≡ b → list_any (is_at (cell_cmp q)) (f ∷ ks) ≡ cond b true (list_any (is_at (cell_cmp q)) (f ∷ ks))
    go q false e = refl
    go q true e = or_left (is_at (cell_cmp q) f) (list_any (is_at (cell_cmp q)) ks)
        (subst (λ c. is_at (cell_cmp q) c ≡ true) (sym same) ((eq_by_cmp_equiv cell_cmp_total).symm q k ∙ e))

and_or : (a b c : Bool) → ((a && b) || (a && c)) ≡ (a && (b || c))
and_or true b c = refl
and_or false b c = refl

-- a first cell or none, and keys, without one cell
pub both_gone : (xs ys ks ls : List CellId) (k : CellId) → ((q : CellId) → is_one_of ys q ≡ (not (eq_by_cmp cell_cmp q k) && is_one_of xs q))
    → DifferAt k false ks ls
    → set.from_list {R = cell_cmp} (ys ++ ls) ≡ set.remove (set.from_list (xs ++ ks)) k
both_gone xs ys ks ls k first h = set.same_set cell_cmp_total cell_cmp_exact _ _ (λ q.
    set.contains-from_list cell_cmp_total (ys ++ ls) q ∙ list_any-append (eq_by_cmp cell_cmp q) ys ls
    ∙ ap₂ (λ (a b : Bool). a || b) (first q) (h q ∙ and_cond (is_at (cell_cmp k) q) _
    ∙ ap (λ b. not b && list_any (is_at (cell_cmp q)) ks) ((eq_by_cmp_equiv cell_cmp_total).symm k q))
    ∙ and_or (not (eq_by_cmp cell_cmp q k)) (is_one_of xs q) (is_one_of ks q)
    ∙ ap (λ b. not (eq_by_cmp cell_cmp q k) && b) (sym (list_any-append (eq_by_cmp cell_cmp q) xs ks))
    ∙ sym (set.contains-remove cell_cmp_total (set.from_list (xs ++ ks)) k q
    ∙ ap (λ b. not (eq_by_cmp cell_cmp q k) && b) (set.contains-from_list cell_cmp_total (xs ++ ks) q)))

-- a first cell that stands by itself, and the keys of a tree
pub one_there : (o : Option CellId) (f k : CellId) (ks : List CellId) → o ≡ Some f → eq_by_cmp cell_cmp f k ≡ true →
    set.from_list {R = cell_cmp} (option_to_list o ++ ks) ≡ set.insert (set.from_list (option_to_list o ++ ks)) k
one_there None f k ks is tie = absurd (cc)
one_there (Some g) f k ks is tie = let same : g ≡ f = cc in first_there g k ks (ap (λ c. eq_by_cmp cell_cmp c k) same ∙ tie)

pub one_more : (o : Option CellId) (f k : CellId) (ks ls : List CellId) → o ≡ Some f → DifferAt k true ks ls
    → set.from_list {R = cell_cmp} (option_to_list o ++ ls) ≡ set.insert (set.from_list (option_to_list o ++ ks)) k
one_more None f k ks ls is h = absurd (cc)
one_more (Some g) f k ks ls is h = more_added g k ks ls h

-- no first cell and no keys make the empty set
pub not_empty : (o : Option CellId) (f : CellId) (ks : List CellId) → o ≡ Some f → set.from_list {R = cell_cmp} (option_to_list o ++ ks) ≡ set.empty → ⊥
not_empty None f ks is e = absurd (cc)
not_empty (Some g) f ks is e = absurd (cc (no_keys (g ∷ ks) e))

pub no_others : (o : Option CellId) (ks : List CellId) → o ≡ None → set.from_list {R = cell_cmp} (option_to_list o ++ ks) ≡ set.empty → length ks ≡ 0
no_others None ks is e = no_keys ks e
no_others (Some g) ks is e = absurd (cc)

-- ---- cells in a list

none_or : (b : Bool) (m : Bool) → m ≡ false → (m || b) ≡ b
none_or b m e = ap (λ c. c || b) e

-- a list that has the same cells as another one has those of the set that the other one makes
pub listed_alike : (xs ys : List CellId) → ((q : CellId) → Contains ys q ↔ Contains xs q) → (q : CellId) →
    is_one_of ys q ≡ set.contains (with_listed_cells set.empty xs) q
listed_alike xs ys same q = both_ways (is_one_of ys q) (is_one_of xs q) (λ e. listed xs ((same q).0 (contained q ys (one_among ys q e))))
    (λ e. listed ys ((same q).1 (contained q xs (one_among xs q e))))
    ∙ sym (has_with_cells xs set.empty q ∙ none_or (is_one_of xs q) (set.contains {R = cell_cmp} set.empty q) (set.contains-empty cell_cmp q))
  where
    listed : (zs : List CellId) → Contains zs q → is_one_of zs q ≡ true
    listed zs h = any_by (eq_by_cmp cell_cmp q) q zs (among q zs h) (tied_self q)
