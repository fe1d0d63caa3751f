-- Sets that gain cells until there is no memory.
use Rattle.std.proofs.Common.{◌≡◌, ◌⊎◌, ◌∙◌, ◌<◌, ◌+◌, inl, inr, ℕ, Bool, true, nat_eq, ◌&&◌, ◌||◌, List, [], ◌∷◌, ◌++◌, append_assoc, ap, drop, get_or, length}
use Rattle.std.proofs.Common.{arith, false, refl, sym, take}
use Rattle.std.proofs.lemmas.Bool.{and_parts, or_cases, or_left, or_right}
use Rattle.std.proofs.lemmas.List.{take-append-drop}
use Rattle.std.proofs.lemmas.List.Folds.{list_any-append}
use Rattle.std.specs.HashMap.{get}
use Rattle.std.specs.FinSet as set
use Rattle.std.specs.List.{list_any}
use Rattle.std.specs.Map.{lookup}
use Rattle.std.specs.Ordering.{eq_by_cmp}
use Rattle.clr_rows.specs.declared.cells.CellId.{CellId}
use Rattle.clr_rows.specs.Cells.{cell_cmp}
use Rattle.clr_rules.proofs.Elements.{any_by, some_of}
use Rattle.clr_spots.specs.declared.spots.Spot.{Spot}
use Rattle.clr_finders.specs.declared.row_spots.RuleSpots.{RuleSpots}
use Rattle.clr_grid.specs.declared.side_index.SideIndex.{SideIndex}
use Rattle.clr_grid.specs.CellSets.{Cells, with_listed_cells}
use Rattle.clr_finders.specs.CellLists.{is_one_of}
use Rattle.clr_grid.specs.Filing.{At, ByNumber, Wide, has_cell}
use Rattle.clr_grid.specs.Gains.{GainsCells, IsFoundFor}
use Rattle.clr_grid.proofs.FilingLemmas.{any_more, number_itself}
use Rattle.clr_grid.proofs.SetLemmas.{has_with_cells, or_group}
use Rattle.clr_grid.specs.SpotNumbers.{has_number, spot_number_of}

-- ---- a map without numbers

no_numbers : (es : List (ℕ × Cells)) → length es ≡ 0 → es ≡ []
no_numbers [] e = refl
no_numbers (x ∷ es) e = absurd (omega (arith, e))

-- at no number it has a cell
pub none_there : (m : ByNumber) → length m.entries ≡ 0 → (q : CellId) (xs : List Spot) → list_any (λ x. has_cell (get nat_eq m (spot_number_of x)) q) xs ≡ false
none_there m e q [] = refl
none_there m e q (x ∷ xs) = ap (λ es. has_cell (lookup (nat_eq (spot_number_of x)) es) q || list_any (λ y. has_cell (get nat_eq m (spot_number_of y)) q) xs)
    (no_numbers m.entries e) ∙ none_there m e q xs

-- ---- what is gained

module _ (allowed : CellId → Type 0) where
  pub gains_as : (less : CellId → Type 0) (m n : Cells) → ((q : CellId) → less q → allowed q) → GainsCells less m n → GainsCells allowed m n
  gains_as less m n may g = record { kept = g.kept; only = λ q e. by q (g.only q e) }
    where
      by : (q : CellId) → (set.contains m q ≡ true) ⊎ less q → (set.contains m q ≡ true) ⊎ allowed q
      by q (inl e) = inl e
      by q (inr a) = inr (may q a)

  pub gains_then : (m n o : Cells) → GainsCells allowed m n → GainsCells allowed n o → GainsCells allowed m o
  gains_then m n o g h = record { kept = λ q e. h.kept q (g.kept q e); only = λ q e. by q (h.only q e) }
    where
      by : (q : CellId) → (set.contains n q ≡ true) ⊎ allowed q → (set.contains m q ≡ true) ⊎ allowed q
      by q (inl e) = g.only q e
      by q (inr a) = inr a

-- all that pass a test are added
pub gains_exact : (p : CellId → Bool) (m n : Cells) → ((q : CellId) → set.contains n q ≡ (set.contains m q || p q)) → GainsCells (λ q. p q ≡ true) m n
gains_exact p m n is = record {
  kept = λ q e. is q ∙ or_left (set.contains m q) (p q) e;
  only = λ q e. or_cases (set.contains m q) (p q) (sym (is q) ∙ e);
}

-- ---- cell after cell

-- of a list of cells all but those that are left are added
abbrev pub IsAddedTo : Cells → List CellId → Cells → List CellId → Type 0
IsAddedTo m all n left = (done : List CellId) × (n ≡ with_listed_cells m done) × (done ++ left ≡ all)

pub with_last : (m : Cells) (done : List CellId) (q : CellId) → with_listed_cells m (done ++ q ∷ []) ≡ set.insert (with_listed_cells m done) q
with_last m [] q = refl
with_last m (c ∷ done) q = with_last (set.insert m c) done q

pub added_next : (m : Cells) (all : List CellId) (n : Cells) (q : CellId) (left : List CellId) → IsAddedTo m all n (q ∷ left) →
    IsAddedTo m all (set.insert n q) left
added_next m all n q left (done, is, whole) = (
  done ++ q ∷ [],
  ap (λ (o : Cells). set.insert o q) is ∙ sym (with_last m done q),
  append_assoc done (q ∷ []) left
      ∙ whole,
)

pub added_gains : (m : Cells) (all : List CellId) (n : Cells) (left : List CellId) (p : CellId → Bool) → ((q : CellId) → is_one_of all q ≡ p q) →
    IsAddedTo m all n left → GainsCells (λ q. p q ≡ true) m n
added_gains m all n left p told (done, is, whole) = gains_as (λ q. p q ≡ true) (λ q. is_one_of done q ≡ true) m n
    (λ q e. sym (told q) ∙ ap (λ cells. is_one_of cells q) (sym whole) ∙ list_any-append (eq_by_cmp cell_cmp q) done left
    ∙ or_left (is_one_of done q) (is_one_of left q) e)
    (gains_exact (is_one_of done) m n (λ q. ap (λ (o : Cells). set.contains o q) is ∙ has_with_cells done m q))

-- the cells of two lists, one after the other
module _ (m n o : Cells) (xs ys : List CellId) (p : CellId → Bool) (is : n ≡ with_listed_cells m xs) (told : (q : CellId) → is_one_of (xs ++ ys) q ≡ p q) where
  first_has : (q : CellId) → set.contains n q ≡ (set.contains m q || is_one_of xs q)
  first_has q = ap (λ (o : Cells). set.contains o q) is ∙ has_with_cells xs m q

  either_told : (q : CellId) → (is_one_of xs q || is_one_of ys q) ≡ p q
  either_told q = sym (list_any-append (eq_by_cmp cell_cmp q) xs ys) ∙ told q

  pub both_gain : GainsCells (λ q. is_one_of ys q ≡ true) n o → GainsCells (λ q. p q ≡ true) m o
  both_gain g = gains_then (λ q. p q ≡ true) m n o
      (gains_as (λ q. p q ≡ true) (λ q. is_one_of xs q ≡ true) m n (λ q e. sym (either_told q) ∙ or_left (is_one_of xs q) (is_one_of ys q) e)
      (gains_exact (is_one_of xs) m n first_has))
      (gains_as (λ q. p q ≡ true) (λ q. is_one_of ys q ≡ true) n o (λ q e. sym (either_told q) ∙ or_right (is_one_of xs q) (is_one_of ys q) e) g)

  pub both_has : ((q : CellId) → set.contains o q ≡ (set.contains n q || is_one_of ys q)) → (q : CellId) → set.contains o q ≡ (set.contains m q || p q)
  both_has has q = has q ∙ ap (λ b. b || is_one_of ys q) (first_has q) ∙ or_group (set.contains m q) (is_one_of xs q) (is_one_of ys q)
      ∙ ap (λ b. set.contains m q || b) (either_told q)

-- ---- spot after spot

module _ (p : CellId → Spot → Bool) (xs : List Spot) where
  pub spots_gain : (k : ℕ) (x : Spot) (m n o : Cells) → k < length xs → x ≡ get_or xs k x
      → ((q : CellId) → set.contains n q ≡ (set.contains m q || list_any (p q) (take k xs)))
      → GainsCells (λ q. p q x ≡ true) n o
      → GainsCells (λ q. list_any (p q) xs ≡ true) m o
  spots_gain k x m n o less read before here = gains_then (λ q. list_any (p q) xs ≡ true) m n o
      (gains_as (λ q. list_any (p q) xs ≡ true) (λ q. list_any (p q) (take k xs) ≡ true) m n (λ q e. of_more q k e)
      (gains_exact (λ q. list_any (p q) (take k xs)) m n before))
      (gains_as (λ q. list_any (p q) xs ≡ true) (λ q. p q x ≡ true) n o
      (λ q e. of_more q (k + 1) (any_more (p q) xs k x less read ∙ or_right (list_any (p q) (take k xs)) (p q x) e)) here)
    where
      of_more : (q : CellId) (j : ℕ) → list_any (p q) (take j xs) ≡ true → list_any (p q) xs ≡ true
      of_more q j e = ap (list_any (p q)) (sym (take-append-drop j xs)) ∙ list_any-append (p q) (take j xs) (drop j xs)
          ∙ or_left (list_any (p q) (take j xs)) (list_any (p q) (drop j xs)) e

-- ---- the cells that are found for a row: among the wide rows, at its spots

module _ (i : SideIndex) (x : RuleSpots) where
  found_wide : (q : CellId) → (x.has_role && set.contains i.wide q) ≡ true → IsFoundFor i x q
  found_wide q e = let parts = and_parts x.has_role (set.contains i.wide q) e in (Wide, parts.0, parts.1)

  found_at : (ys : List Spot) → ys ≡ x.spots.list → (q : CellId) → list_any (λ y. has_cell (get nat_eq i.by_spot (spot_number_of y)) q) ys ≡ true
      → IsFoundFor i x q
  found_at ys same q e =
      let (y, among, has) = some_of (λ y. has_cell (get nat_eq i.by_spot (spot_number_of y)) q) ys e in (
        At (spot_number_of y),
        ap (list_any (has_number (spot_number_of y))) (sym same)
            ∙ any_by (has_number (spot_number_of y)) y ys among (number_itself (spot_number_of y)),
        has,
      )

  pub wide_gain : (m n : Cells) → GainsCells (λ q. (x.has_role && set.contains i.wide q) ≡ true) m n → GainsCells (IsFoundFor i x) m n
  wide_gain m n g = gains_as (IsFoundFor i x) (λ q. (x.has_role && set.contains i.wide q) ≡ true) m n found_wide g

  pub spot_gain : (m n o : Cells) (ys : List Spot) → ys ≡ x.spots.list
      → ((q : CellId) → set.contains n q ≡ (set.contains m q || (x.has_role && set.contains i.wide q)))
      → GainsCells (λ q. list_any (λ y. has_cell (get nat_eq i.by_spot (spot_number_of y)) q) ys ≡ true) n o → GainsCells (IsFoundFor i x) m o
  spot_gain m n o ys same before here = gains_then (IsFoundFor i x) m n o
      (wide_gain m n (gains_exact (λ q. x.has_role && set.contains i.wide q) m n before))
      (gains_as (IsFoundFor i x) (λ q. list_any (λ y. has_cell (get nat_eq i.by_spot (spot_number_of y)) q) ys ≡ true) n o (found_at ys same) here)
