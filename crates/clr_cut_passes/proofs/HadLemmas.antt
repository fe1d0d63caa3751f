-- The cells of those rows of a pass that the cut has.
use Rattle.std.proofs.Common.{◌≡◌, ◌∙◌, ◌+◌, ℕ, Bool, true, false, cond, List, [], ◌∷◌, Some, None, inl, inr, length, map, refl, sym, ap, subst, arith}
use Rattle.std.specs.Prelude.{count_by}
use Rattle.std.specs.List.{AllByRecursion, IsDistinct}
use Rattle.std.specs.Ordering.{eq_by_cmp}
use Rattle.std.proofs.lemmas.List.Sums.{sum_by-cons}
use Rattle.std.proofs.lemmas.Map.Keys.{IsDistinct-cons, IsDistinct-head, IsDistinct-tail}
use Rattle.clr_rows.specs.declared.cells.CellId.{CellId}
use Rattle.clr_rows.specs.Cells.{cell_cmp}
use Rattle.clr_rows.specs.Held.{Held}
use Rattle.clr_rules.proofs.Elements.{Among}
use Rattle.clr_needs.specs.Settings.{Setting}
use Rattle.clr_reach.specs.declared.aims.Aim.{Aim}
use Rattle.clr_cut_rows.specs.declared.standings.Standing.{Standing}
use Rattle.clr_cut_rows.specs.declared.standings.Standing.TheVariants.{Has, HasOther, Lacks, Beyond}
use Rattle.clr_cut_rows.specs.Standings.{IsStanding}
use Rattle.clr_cut_passes.specs.Counts.{is_had}
use Rattle.clr_cut_passes.specs.Passes.{AreOfOwnCells, AreStandings}

-- the cells of the rows that the cut has
pub had_cells : List Held → List Standing → List CellId
had_cells [] xs = []
had_cells (s ∷ list) [] = []
had_cells (s ∷ list) (x ∷ xs) = cond (is_had x) (s.0 ∷ had_cells list xs) (had_cells list xs)

module _ (aim : Aim) (c : Setting ℕ) where
  pub had_counted : (list : List Held) (xs : List Standing) → AreStandings aim c list xs → length (had_cells list xs) ≡ count_by is_had xs
  unfolding had_cells
  had_counted [] [] are = refl
  had_counted [] (x ∷ xs) are = absurd are
  had_counted (s ∷ list) [] are = absurd are
  had_counted (s ∷ list) (x ∷ xs) are = by (is_had x) (had_counted list xs are.1) ∙ sym (sum_by-cons (λ y. cond (is_had y) 1 0) x xs)
    where
      by : (b : Bool) → length (had_cells list xs) ≡ count_by is_had xs → length (cond b (s.0 ∷ had_cells list xs) (had_cells list xs))
          ≡ cond b 1 0 + count_by is_had xs
      by true e = omega (arith, e)
      by false e = omega (arith, e)

  -- a row of the cell is one of the rows, and the cut has it
  abbrev pub IsIn : CellId → List Held → Type 0
  IsIn q rows = (s : Held) × Among s rows × (s.0 ≡ q) × (c.root s.0 ≡ Some s.1)

  -- each is the cell of a row of the pass that the cut has
  pub had_row : (list : List Held) (xs : List Standing) (q : CellId) → AreStandings aim c list xs → Among q (had_cells list xs) → IsIn q list
  unfolding had_cells
  had_row [] xs q are h = absurd h
  had_row (s ∷ list) [] q are h = absurd are
  had_row (s ∷ list) (x ∷ xs) q are h = by x are.0 (λ k. had_row list xs q are.1 k) h
    where
      later : IsIn q list → IsIn q (s ∷ list)
      later (t, in_list, same, is) = (t, inr in_list, same, is)

      by : (y : Standing) → IsStanding aim c s y → (Among q (had_cells list xs) → IsIn q list)
          → Among q (cond (is_had y) (s.0 ∷ had_cells list xs) (had_cells list xs)) → IsIn q (s ∷ list)
      by Has is more (inl e) = (s, inl refl, e, is)
      by Has is more (inr h) = later (more h)
      by HasOther is more h = later (more h)
      by Lacks is more h = later (more h)
      by Beyond is more h = later (more h)

  -- a row of the pass that the cut has is there
  pub row_had : (list : List Held) (xs : List Standing) (s : Held) → AreStandings aim c list xs → Among s list → c.root s.0 ≡ Some s.1
      → Among s.0 (had_cells list xs)
  unfolding had_cells
  row_had [] xs s are h is = absurd h
  row_had (t ∷ list) [] s are h is = absurd are
  row_had (t ∷ list) (x ∷ xs) s are (inl e) is = by x are.0
    where
      its : c.root t.0 ≡ Some t.1
      its = subst (λ (r : Held). c.root r.0 ≡ Some r.1) (sym e) is

      by : (y : Standing) → IsStanding aim c t y → Among s.0 (cond (is_had y) (t.0 ∷ had_cells list xs) (had_cells list xs))
      by Has it = inl (ap (λ (r : Held). r.0) e)
      by HasOther (r, there, other) = let same : Some r ≡ Some t.1 = sym there ∙ its in absurd (other cc)
      by Lacks it = let clash : None ≡ Some t.1 = sym it.0 ∙ its in absurd cc
      by Beyond it = let clash : None ≡ Some t.1 = sym it.0 ∙ its in absurd cc
  row_had (t ∷ list) (x ∷ xs) s are (inr h) is = by (is_had x) (row_had list xs s are.1 h is)
    where
      by : (b : Bool) → Among s.0 (had_cells list xs) → Among s.0 (cond b (t.0 ∷ had_cells list xs) (had_cells list xs))
      by true k = inr k
      by false k = k

module _ (P : CellId → Type 0) where
  -- what holds of all cells of the rows holds of these
  had_all : (list : List Held) (xs : List Standing) → AllByRecursion P (map (λ s. s.0) list) → AllByRecursion P (had_cells list xs)
  unfolding had_cells
  had_all [] xs all = tt
  had_all (s ∷ list) [] all = tt
  had_all (s ∷ list) (x ∷ xs) all = by (is_had x) (had_all list xs all.1)
    where
      by : (b : Bool) → AllByRecursion P (had_cells list xs) → AllByRecursion P (cond b (s.0 ∷ had_cells list xs) (had_cells list xs))
      by true rest = (all.0, rest)
      by false rest = rest

pub had_distinct : (list : List Held) (xs : List Standing) → AreOfOwnCells list → IsDistinct (eq_by_cmp cell_cmp) (had_cells list xs)
unfolding had_cells IsDistinct
had_distinct [] xs apart = tt
had_distinct (s ∷ list) [] apart = tt
had_distinct (s ∷ list) (x ∷ xs) apart = by (is_had x) (had_distinct list xs (IsDistinct-tail (eq_by_cmp cell_cmp) s.0 (map (λ t. t.0) list) apart))
  where
    by : (b : Bool) → IsDistinct (eq_by_cmp cell_cmp) (had_cells list xs)
        → IsDistinct (eq_by_cmp cell_cmp) (cond b (s.0 ∷ had_cells list xs) (had_cells list xs))
    by true rest = IsDistinct-cons (eq_by_cmp cell_cmp) s.0 (had_cells list xs)
        (had_all (λ q. eq_by_cmp cell_cmp s.0 q ≡ false) list xs (IsDistinct-head (eq_by_cmp cell_cmp) s.0 (map (λ t. t.0) list) apart)) rest
    by false rest = rest
