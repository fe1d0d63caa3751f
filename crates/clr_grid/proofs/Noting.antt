-- What is noted in a finder, one after another: changes where nothing is pending, or rows where none is settled.
use Rattle.std.proofs.Common.{◌≡◌, ◌∙◌, Bool, true, false, cond, T, List, [], ◌∷◌, Some, None, refl, sym, ap, subst}
use Rattle.std.specs.FinMap as finite
use Rattle.std.specs.FinMap.Entries.{find, is_sorted}
use Rattle.std.specs.Option.{option_map}
use Rattle.std.specs.Ordering.{eq_by_cmp}
use Rattle.clr_rows.specs.declared.cells.CellId.{CellId}
use Rattle.clr_rows.specs.Cells.{cell_cmp}
use Rattle.clr_rows.proofs.CellOrder.{cell_cmp_total}
use Rattle.clr_rows.proofs.ChangeLemmas.{find_below, tied_self}
use Rattle.clr_rows.proofs.RowLemmas.{tied_cells}
use Rattle.clr_rows.proofs.Tests.{first, second}

-- what is noted of a row or a change
module _ {X V : Type 0} (noted : CellId → X → V) where
  abbrev pub Pending : Type 0
  Pending = finite.FinMap cell_cmp V

  -- nothing is noted at the cells that are left, and at the others what is to be noted
  pub record AreLeft (all rest : List (CellId × X)) (pending : Pending) : Type 0 where
    pub sorted : T (is_sorted cell_cmp rest)
    pub among : (q : CellId) (x : X) → find cell_cmp q rest ≡ Some x → find cell_cmp q all ≡ Some x
    pub free : (q : CellId) (x : X) → find cell_cmp q rest ≡ Some x → finite.get pending q ≡ None
    pub done : (q : CellId) → find cell_cmp q rest ≡ None → finite.get pending q ≡ option_map (noted q) (find cell_cmp q all)

  pub all_left : (all rest : List (CellId × X)) (pending : Pending) → T (is_sorted cell_cmp all) → rest ≡ all → pending ≡ finite.empty
      → AreLeft all rest pending
  all_left all rest pending sorted same none =
      let nothing : (q : CellId) → finite.get pending q ≡ None = λ q. ap (λ m. finite.get m q) none ∙ finite.get-empty {X = V} cell_cmp q in
      record {
        sorted = subst (λ es. T (is_sorted cell_cmp es)) (sym same) sorted;
        among = λ q x e. ap (find cell_cmp q) (sym same) ∙ e;
        free = λ q x e. nothing q;
        done = λ q e. nothing q ∙ sym (ap (option_map (noted q)) (ap (find cell_cmp q) (sym same) ∙ e));
      }

  module _ (all rest : List (CellId × X)) (cell : CellId) (x : X) (pending : Pending) (left : AreLeft all ((cell, x) ∷ rest) pending) where
    pub next_among : find cell_cmp cell all ≡ Some x
    next_among = left.among cell x (ap (λ b. cond b (Some x) (find cell_cmp cell rest)) (tied_self cell))

    pub next_free : finite.get pending cell ≡ None
    next_free = left.free cell x (ap (λ b. cond b (Some x) (find cell_cmp cell rest)) (tied_self cell))

    later_apart : (q : CellId) (y : X) → find cell_cmp q rest ≡ Some y → eq_by_cmp cell_cmp q cell ≡ false
    later_apart q y e = by (eq_by_cmp cell_cmp q cell) refl
      where
        by : (b : Bool) → eq_by_cmp cell_cmp q cell ≡ b → b ≡ false
        by false apart = refl
        by true tie =
            let none : find cell_cmp q rest ≡ None = ap (λ c. find cell_cmp c rest) (tied_cells q cell tie) ∙ find_below cell rest (first _ _ left.sorted) in
            absurd (cc)

    later : (q : CellId) → eq_by_cmp cell_cmp q cell ≡ false → find cell_cmp q ((cell, x) ∷ rest) ≡ find cell_cmp q rest
    later q apart = ap (λ b. cond b (Some x) (find cell_cmp q rest)) apart

    pub one_noted : (new : Pending) → new ≡ finite.insert pending cell (noted cell x) → AreLeft all rest new
    one_noted new is = record {
      sorted = second _ _ left.sorted;
      among = λ q y e. left.among q y (later q (later_apart q y e) ∙ e);
      free = λ q y e. other q (later_apart q y e) ∙ left.free q y (later q (later_apart q y e) ∙ e);
      done = λ q none. by q none (eq_by_cmp cell_cmp q cell) refl;
    }
      where
        at : (q : CellId) → finite.get new q ≡ cond (eq_by_cmp cell_cmp q cell) (Some (noted cell x)) (finite.get pending q)
        at q = ap (λ m. finite.get m q) is ∙ finite.get-insert cell_cmp_total pending cell (noted cell x) q

        other : (q : CellId) → eq_by_cmp cell_cmp q cell ≡ false → finite.get new q ≡ finite.get pending q
        other q apart = at q ∙ ap (λ b. cond b (Some (noted cell x)) (finite.get pending q)) apart

        by : (q : CellId) → find cell_cmp q rest ≡ None → (b : Bool) → eq_by_cmp cell_cmp q cell ≡ b → finite.get new q
            ≡ option_map (noted q) (find cell_cmp q all)
        by q none true tie =
            at q ∙ ap (λ b. cond b (Some (noted cell x)) (finite.get pending q)) tie ∙ ap (λ c. Some (noted c x)) (sym (tied_cells q cell tie))
            ∙ sym (ap (option_map (noted q)) (left.among q x (ap (λ b. cond b (Some x) (find cell_cmp q rest)) tie)))
        by q none false apart = other q apart ∙ left.done q (later q apart ∙ none)

  pub none_left : (all rest : List (CellId × X)) (pending : Pending) → rest ≡ [] → AreLeft all rest pending → (q : CellId) → finite.get pending q
      ≡ option_map (noted q) (find cell_cmp q all)
  none_left all rest pending ended left q = left.done q (ap (find cell_cmp q) ended)
