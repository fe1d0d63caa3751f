-- What is found in a list whose cells ascend, and what a test says of its elements.
use Rattle.std.proofs.Common.{◌≡◌, zero, suc, Bool, true, false, cond, T, List, [], ◌∷◌, Some, refl, sym, ap, subst, ◌∙◌, arith}
use Rattle.std.specs.FinMap.Entries.{find, is_sorted}
use Rattle.std.specs.List.{list_all}
use Rattle.std.specs.Ordering.{eq_by_cmp}
use Rattle.std.specs.Prelude.{Contains}
use Rattle.std.proofs.lemmas.Bool.{and_parts}
use Rattle.std.proofs.lemmas.Option.{none-some, same_Some}
use Rattle.clr_rows.specs.declared.cells.CellId.{CellId}
use Rattle.clr_rows.specs.Cells.{cell_cmp}
use Rattle.clr_rows.proofs.ChangeLemmas.{find_below, tied_self}
use Rattle.clr_rows.proofs.RowLemmas.{tied_cells}
use Rattle.clr_rows.proofs.Tests.{first, second}

module _ {X : Type 0} where
  pub found_first : (e : CellId × X) (es : List (CellId × X)) → find cell_cmp e.0 (e ∷ es) ≡ Some e.1
  found_first e es = ap (λ t. cond t (Some e.1) (find cell_cmp e.0 es)) (tied_self e.0)

  -- what is found behind the first stands at another cell, and is found with it
  pub apart_from_first : (e : CellId × X) (es : List (CellId × X)) (q : CellId) (x : X) → T (is_sorted cell_cmp (e ∷ es)) → find cell_cmp q es ≡ Some x
      → eq_by_cmp cell_cmp q e.0 ≡ false
  apart_from_first e es q x sorted is = by (eq_by_cmp cell_cmp q e.0) refl
    where
      by : (t : Bool) → eq_by_cmp cell_cmp q e.0 ≡ t → t ≡ false
      by true tie = absurd (none-some x (sym (find_below e.0 es (first _ _ sorted)) ∙ ap (λ c. find cell_cmp c es) (sym (tied_cells q e.0 tie)) ∙ is))
      by false tie = refl

  pub found_later : (e : CellId × X) (es : List (CellId × X)) (q : CellId) (x : X) → T (is_sorted cell_cmp (e ∷ es)) → find cell_cmp q es ≡ Some x
      → find cell_cmp q (e ∷ es) ≡ Some x
  found_later e es q x sorted is = ap (λ t. cond t (Some e.1) (find cell_cmp q es)) (apart_from_first e es q x sorted is) ∙ is

  module _ (p : CellId × X → Bool) where
    -- a test that each found element passes
    pub all_found : (es : List (CellId × X)) → T (is_sorted cell_cmp es) → ((q : CellId) (x : X) → find cell_cmp q es ≡ Some x → p (q, x) ≡ true)
        → list_all p es ≡ true
    all_found [] sorted each = refl
    all_found (e ∷ es) sorted each =
        rw (each e.0 e.1 (found_first e es))
        (all_found es (second _ _ sorted) (λ q x is. each q x (found_later e es q x sorted is)))

    -- an element that is found passes a test which all pass
    pub found_passes : (es : List (CellId × X)) (q : CellId) (x : X) → find cell_cmp q es ≡ Some x → list_all p es ≡ true → p (q, x) ≡ true
    found_passes [] q x is all = absurd (none-some x is)
    found_passes (e ∷ es) q x is all =
        by (λ found. found_passes es q x found (and_parts (p e) (list_all p es) all).1) (eq_by_cmp cell_cmp q e.0) refl
      where
        by : (find cell_cmp q es ≡ Some x → p (q, x) ≡ true) → (t : Bool) → eq_by_cmp cell_cmp q e.0 ≡ t → p (q, x) ≡ true
        by behind true tie =
            let here : Some e.1 ≡ Some x = ap (λ t. cond t (Some e.1) (find cell_cmp q es)) (sym tie) ∙ is in
            let one = same_Some e.1 x here in
            let cell = tied_cells q e.0 tie in
            subst (λ (k : CellId). p (k, x) ≡ true) (sym cell) (subst (λ (v : X). p (e.0, v) ≡ true) one (and_parts (p e) (list_all p es) all).0)
        by behind false tie = behind (ap (λ t. cond t (Some e.1) (find cell_cmp q es)) (sym tie) ∙ is)

module _ {X : Type 0} (p : X → Bool) where
  pub all_contained : (xs : List X) → ((x : X) → Contains xs x → p x ≡ true) → list_all p xs ≡ true
  all_contained [] each = refl
  all_contained (x ∷ xs) each = rw (each x (0, omega arith, refl)) (all_contained xs (λ y among. each y (suc among.0, omega (arith, among.1), among.2)))

  pub contained_passes : (xs : List X) (x : X) → Contains xs x → list_all p xs ≡ true → p x ≡ true
  contained_passes [] x (k, lt, is) all = absurd (omega (arith, lt))
  contained_passes (y ∷ ys) x (zero, lt, is) all = subst (λ (z : X). p z ≡ true) is (and_parts (p y) (list_all p ys) all).0
  contained_passes (y ∷ ys) x (suc k, lt, is) all = contained_passes ys x (k, omega (arith, lt), is) (and_parts (p y) (list_all p ys) all).1
