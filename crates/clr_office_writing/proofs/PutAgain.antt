-- The pairs of a map, put one after another into an empty one, make the map again.
use Rattle.std.proofs.Common.{◌≡◌, Bool, true, false, cond, T, List, [], ◌∷◌, Option, Some, None, refl, sym, ap, ◌∙◌}
use Rattle.std.specs.FinMap as finite
use Rattle.std.specs.FinMap.Entries.{find, is_sorted, below_all}
use Rattle.std.specs.List.{AllByRecursion}
use Rattle.std.specs.Ordering.{eq_by_cmp, is_eq}
use Rattle.std.specs.Cmp.{eq_by_cmp_equiv}
use Rattle.std.proofs.lemmas.Option.{none-some}
use Rattle.clr_rows.specs.declared.cells.CellId.{CellId}
use Rattle.clr_rows.specs.Cells.{cell_cmp}
use Rattle.clr_rows.proofs.CellOrder.{cell_cmp_total, cell_cmp_exact}
use Rattle.clr_rows.proofs.ChangeLemmas.{find_below, tied_self}
use Rattle.clr_rows.proofs.RowLemmas.{tied_cells}
use Rattle.clr_rows.proofs.Tests.{first, second, less}

abbrev pub AtCells : Type 0 → Type 0
AtCells X = finite.FinMap cell_cmp X

-- what holds at each cell of a map holds of its pairs
pub all_pairs : {X : Type 0} (P : CellId → X → Type 0) (m : AtCells X) → ((q : CellId) (x : X) → finite.get m q ≡ Some x → P q x)
    → AllByRecursion (λ e. P e.0 e.1) (finite.entries m)
all_pairs {X} P m one = go (finite.entries m) (finite.entries_sorted m) (λ q x found. one q x (finite.get-entries m q ∙ found))
  where
    later : (e : CellId × X) (es : List (CellId × X)) (q : CellId) (x : X) (b : Bool) → T (below_all cell_cmp e.0 es) → eq_by_cmp cell_cmp q e.0 ≡ b
        → find cell_cmp q es ≡ Some x → cond b (Some e.1) (find cell_cmp q es) ≡ Some x
    later e es q x true below t found = absurd (none-some x (sym (ap (λ c. find cell_cmp c es) (tied_cells q e.0 t) ∙ find_below e.0 es below) ∙ found))
    later e es q x false below t found = found

    go : (es : List (CellId × X)) → T (is_sorted cell_cmp es) → ((q : CellId) (x : X) → find cell_cmp q es ≡ Some x → P q x)
        → AllByRecursion (λ e. P e.0 e.1) es
    go [] sorted one = tt
    go (e ∷ es) sorted one = (
      one e.0 e.1 (ap (λ b. cond b (Some e.1) (find cell_cmp e.0 es)) (tied_self e.0)),
      go es (second _ _ sorted)
          (λ q x found. one q x (later e es q x (eq_by_cmp cell_cmp q e.0) (first _ _ sorted) refl found)),
    )

module _ {X : Type 0} where
  abbrev pub all_put : AtCells X → List (CellId × X) → AtCells X
  all_put m [] = m
  all_put m (e ∷ es) = all_put (finite.insert m e.0 e.1) es

  abbrev or_else : Option X → Option X → Option X
  or_else None y = y
  or_else (Some x) y = Some x

  -- no cell of the list is taken
  abbrev pub AreFree : AtCells X → List (CellId × X) → Type 0
  AreFree m es = AllByRecursion (λ e. finite.get m e.0 ≡ None) es

  pub free_after : (m : AtCells X) (k : CellId) (x : X) (es : List (CellId × X)) → T (below_all cell_cmp k es) → AreFree m es → AreFree (finite.insert m k x) es
  free_after m k x [] below free = tt
  free_after m k x (e ∷ es) below free =
      let apart : eq_by_cmp cell_cmp e.0 k ≡ false = (eq_by_cmp_equiv cell_cmp_total).symm e.0 k ∙ ap is_eq (less _ (first _ _ below)) in
      (finite.get-insert cell_cmp_total m k x e.0 ∙ ap (λ b. cond b (Some x) (finite.get m e.0)) apart ∙ free.0, free_after m k x es (second _ _ below) free.1)

  pub free_at_first : (es : List (CellId × X)) → AreFree finite.empty es
  free_at_first [] = tt
  free_at_first (e ∷ es) = (finite.get-empty cell_cmp e.0, free_at_first es)

  get-all_put : (m : AtCells X) (es : List (CellId × X)) (q : CellId) → T (is_sorted cell_cmp es) → finite.get (all_put m es) q
      ≡ or_else (find cell_cmp q es) (finite.get m q)
  get-all_put m [] q sorted = refl
  get-all_put m (e ∷ es) q sorted =
      get-all_put (finite.insert m e.0 e.1) es q (second _ _ sorted) ∙ ap (or_else (find cell_cmp q es)) (finite.get-insert cell_cmp_total m e.0 e.1 q)
      ∙ elim (eq_by_cmp cell_cmp q e.0) as (λ t. eq_by_cmp cell_cmp q e.0 ≡ t → or_else (find cell_cmp q es) (cond t (Some e.1) (finite.get m q))
      ≡ or_else (cond t (Some e.1) (find cell_cmp q es)) (finite.get m q)) [
        | true ↦ λ t. ap (λ found. or_else found (Some e.1)) (ap (λ c. find cell_cmp c es) (tied_cells q e.0 t) ∙ find_below e.0 es (first _ _ sorted))
        | false ↦ λ t. refl
      ] refl

  or_none : (found : Option X) → or_else found None ≡ found
  or_none None = refl
  or_none (Some x) = refl

  pub all_put_again : (m : AtCells X) → all_put finite.empty (finite.entries m) ≡ m
  all_put_again m = finite.same_map cell_cmp_total cell_cmp_exact _ _ (λ q.
      get-all_put finite.empty (finite.entries m) q (finite.entries_sorted m) ∙ ap (or_else (find cell_cmp q (finite.entries m))) (finite.get-empty cell_cmp q)
      ∙ or_none (find cell_cmp q (finite.entries m)) ∙ sym (finite.get-entries m q))
