-- What maps by cell list, and the cells whose values pass a test.
use Rattle.std.proofs.Common.{◌≡◌, inl, inr, Bool, true, false, cond, ◌&&◌, T, List, [], ◌∷◌, map, filter, Some, refl, sym, ap, subst, ◌∙◌}
use Rattle.std.proofs.lemmas.List.Kept.{IsStrictlySortedBy-filter}
use Rattle.std.specs.Cmp.{Equal-is, tied_itself}
use Rattle.std.specs.FinMap.{FinMap, get, entries, find, get-entries, entries_sorted, is_sorted}
use Rattle.std.specs.FinMap.Entries.{below_all}
use Rattle.std.specs.List.{list_any}
use Rattle.std.specs.List.Sorted.{IsStrictlySortedBy}
use Rattle.std.specs.Ordering.{eq_by_cmp, is_eq, is_lt, ordering_reverse}
use Rattle.std.specs.declared.cmp.Ordering.{Ordering}
use Rattle.std.specs.declared.cmp.Ordering.TheVariants.{Less}
use Rattle.clr_rows.specs.declared.cells.CellId.{CellId}
use Rattle.clr_rows.specs.Cells.{cell_cmp}
use Rattle.clr_rows.proofs.CellOrder.{cell_cmp_total, cell_cmp_exact}
use Rattle.clr_rows.proofs.Tests.{less}
use Rattle.clr_rules.proofs.Elements.{Among, some_of, all_by, kept_among, among_kept, mapped_among, among_mapped, rising_mapped}

both : (a b : Bool) → T (a && b) → T a × T b
both true b h = (tt, h)
both false b h = absurd h

-- a cell that is one of a list
pub one_among : (cells : List CellId) (q : CellId) → list_any (eq_by_cmp cell_cmp q) cells ≡ true → Among q cells
one_among cells q e =
    let (k, h, tie) = some_of (eq_by_cmp cell_cmp q) cells e in
    subst (λ z. Among z cells) (sym (cell_cmp_exact q k ((Equal-is (cell_cmp q k)).0 tie))) h

module _ {X : Type 0} where
  abbrev pub listed_cmp : CellId × X → CellId × X → Ordering
  listed_cmp e f = cell_cmp e.0 f.0

  found_in : (q : CellId) (x : X) (es : List (CellId × X)) → find cell_cmp q es ≡ Some x → Among (q, x) es
  found_in q x [] e = absurd (cc)
  found_in q x (y ∷ es) e = go (eq_by_cmp cell_cmp q y.0) refl e (found_in q x es)
    where
      go : (b : Bool) → eq_by_cmp cell_cmp q y.0 ≡ b → cond b (Some y.1) (find cell_cmp q es) ≡ Some x → (find cell_cmp q es ≡ Some x → Among (q, x) es) →
          Among (q, x) (y ∷ es)
      go true p d more = let i : q ≡ y.0 = cell_cmp_exact q y.0 ((Equal-is (cell_cmp q y.0)).0 p) in let j : y.1 ≡ x = cc in inl (λ k. (sym i k, j k))
      go false p d more = inr (more d)

  below_among : (q : CellId) (s : CellId × X) (es : List (CellId × X)) → T (below_all cell_cmp q es) → Among s es → cell_cmp q s.0 ≡ Less
  below_among q s [] b h = absurd h
  below_among q s (e ∷ es) b (inl same) = subst (λ (k : CellId × X). cell_cmp q k.0 ≡ Less) same (less (cell_cmp q e.0) (both _ _ b).0)
  below_among q s (e ∷ es) b (inr h) = below_among q s es (both (is_lt (cell_cmp q e.0)) (below_all cell_cmp q es) b).1 h

  found_back : (s : CellId × X) (es : List (CellId × X)) → T (is_sorted cell_cmp es) → Among s es → find cell_cmp s.0 es ≡ Some s.1
  found_back s [] b h = absurd h
  found_back s (e ∷ es) b (inl same) = subst (λ (k : CellId × X). find cell_cmp k.0 (e ∷ es) ≡ Some k.1) same
      (ap (λ r. cond (is_eq r) (Some e.1) (find cell_cmp e.0 es)) (tied_itself cell_cmp_total e.0))
  found_back s (e ∷ es) b (inr h) =
      let c = both (below_all cell_cmp e.0 es) (is_sorted cell_cmp es) b in
      let less : cell_cmp e.0 s.0 ≡ Less = below_among e.0 s es c.0 h in
      let apart : eq_by_cmp cell_cmp s.0 e.0 ≡ false = ap is_eq (cell_cmp_total.antisymm s.0 e.0 ∙ ap ordering_reverse less) in
      rw apart (found_back s es c.1 h)

  pub value_listed : (m : FinMap cell_cmp X) (q : CellId) (x : X) → get m q ≡ Some x → Among (q, x) (entries m)
  value_listed m q x e = found_in q x (entries m) (sym (get-entries m q) ∙ e)

  pub listed_value : (m : FinMap cell_cmp X) (s : CellId × X) → Among s (entries m) → get m s.0 ≡ Some s.1
  listed_value m s h = get-entries m s.0 ∙ found_back s (entries m) (entries_sorted m) h

  list_rises : (es : List (CellId × X)) → T (is_sorted cell_cmp es) → IsStrictlySortedBy listed_cmp es
  unfolding IsStrictlySortedBy
  list_rises [] b = tt
  list_rises (e ∷ es) b =
      let c = both (below_all cell_cmp e.0 es) (is_sorted cell_cmp es) b in
      (all_by (λ s. cell_cmp e.0 s.0 ≡ Less) es (λ s h. below_among e.0 s es c.0 h), list_rises es c.1)

  pub values_rise : (m : FinMap cell_cmp X) → IsStrictlySortedBy listed_cmp (entries m)
  values_rise m = list_rises (entries m) (entries_sorted m)

  -- the cells that pass a test with their values, ascending
  abbrev pub passing_cells : (CellId × X → Bool) → FinMap cell_cmp X → List CellId
  passing_cells p m = map (λ (e : CellId × X). e.0) (filter p (entries m))

  pub passing_rise : (p : CellId × X → Bool) (m : FinMap cell_cmp X) → IsStrictlySortedBy cell_cmp (passing_cells p m)
  passing_rise p m = rising_mapped listed_cmp cell_cmp (λ (e : CellId × X). e.0) (λ e f less. less) (filter p (entries m))
      (IsStrictlySortedBy-filter listed_cmp p (entries m) (values_rise m))

  pub passes_in : (p : CellId × X → Bool) (m : FinMap cell_cmp X) (q : CellId) (x : X) → get m q ≡ Some x → p (q, x) ≡ true → Among q (passing_cells p m)
  passes_in p m q x e h = mapped_among (λ (e : CellId × X). e.0) (q, x) (filter p (entries m)) (kept_among p (q, x) (entries m) (value_listed m q x e) h)

  pub in_passes : (p : CellId × X → Bool) (m : FinMap cell_cmp X) (q : CellId) → Among q (passing_cells p m) → (x : X) × (get m q ≡ Some x) × (p (q, x) ≡ true)
  in_passes p m q h =
      let (e, k, same) = among_mapped (λ (e : CellId × X). e.0) q (filter p (entries m)) h in
      let f = among_kept p e (entries m) k in
      (e.1, ap (get m) (sym same) ∙ listed_value m e f.0, subst (λ c. p (c, e.1) ≡ true) same f.1)
