-- The next cell behind a given one: in a tree, and among all that are looked at for a row.
use Rattle.std.proofs.Common.{◌≡◌, ◌∙◌, ◌⊎◌, inl, inr, ◌+◌, ◌<◌, ℕ, true, false, nat_eq, ◌&&◌, List, [], ◌∷◌, length, get_or, take, Option, Some, None, is_some}
use Rattle.std.proofs.Common.{refl, sym, ap, subst}
use Rattle.std.specs.Prelude.{Contains, slice_get}
use Rattle.std.proofs.lemmas.Bool.{false≢true, or_cases, or_left, or_right}
use Rattle.std.specs.BTreeSet.{BTreeSet, IsKeyRangeOf}
use Rattle.std.specs.Cmp.{Equal-is, tied_itself}
use Rattle.std.specs.FinMap as finite
use Rattle.std.specs.HashMap as hash
use Rattle.std.specs.FinSet as set
use Rattle.std.specs.List.{list_any}
use Rattle.std.specs.Ordering.{eq_by_cmp, is_gt, is_lt}
use Rattle.std.specs.declared.ops.Bound.{Bound}
use Rattle.std.specs.declared.ops.Bound.TheVariants.{Unbounded}
use Rattle.clr_rows.specs.declared.cells.CellId.{CellId}
use Rattle.clr_rows.specs.Cells.{cell_cmp}
use Rattle.clr_rows.proofs.CellOrder.{cell_cmp_exact, cell_cmp_total}
use Rattle.clr_spots.specs.declared.spots.Spot.{Spot}
use Rattle.clr_finders.specs.declared.row_spots.RuleSpots.{RuleSpots}
use Rattle.clr_finders.specs.NextCells.{IsBehind, IsNextOf, lesser_cell}
use Rattle.clr_finders.specs.Sharing.{found_cells}
use Rattle.clr_finders.proofs.NextLemmas.{found_met, next_as, next_of_two}
use Rattle.clr_finders.specs.CellLists.{is_one_of}
use Rattle.clr_grid.specs.Filing.{Wide, At, has_cell}
use Rattle.clr_grid.specs.Gains.{IsFoundFor}
use Rattle.clr_finders.specs.CellBounds.{bound_behind}
use Rattle.clr_finders.specs.RowMaps.{FiledRows}
use Rattle.clr_grid.specs.SpotNumbers.{has_number, spot_number_of}
use Rattle.clr_grid.specs.declared.side_index.SideIndex.{SideIndex}
use Rattle.clr_grid.proofs.FilingLemmas.{any_more, tied_number}
use Rattle.clr_finders.proofs.FoundLemmas.{met_there}
use Rattle.clr_finders.proofs.NextInTree.{from_bound, to_bound}

-- ---- the first key of a range of a tree
first_key : (after : Option CellId) (s : BTreeSet CellId) (r : List CellId) → IsKeyRangeOf cell_cmp (bound_behind after) Unbounded s r
    → IsNextOf (λ q. is_one_of s.keys q ≡ true) after (slice_get r 0)
first_key after s [] w = record { behind = tt; reached = λ q one behind. false≢true (sym (w.5 refl q (to_bound after q behind, tt)) ∙ one) }
first_key after s (k ∷ r) w = record { behind = from_bound after k w.1.0.0; reached = λ q one behind. w.2 q (to_bound after q behind, tt) one }

pub first_key_at : (after : Option CellId) (lo : Bound CellId) (s : BTreeSet CellId) (r : List CellId) → lo ≡ bound_behind after
    → IsKeyRangeOf cell_cmp lo Unbounded s r
    → IsNextOf (λ q. is_one_of s.keys q ≡ true) after (slice_get r 0)
first_key_at after lo s r is w = first_key after s r (subst (λ b. IsKeyRangeOf cell_cmp b Unbounded s r) is w)

-- ---- spot after spot

module _ (i : SideIndex) (after : Option CellId) (xs : List Spot) where
  abbrev pub HasCellAtSome : List Spot → CellId → Type 0
  HasCellAtSome ys q = list_any (λ x. has_cell (hash.get nat_eq i.by_spot (spot_number_of x)) q) ys ≡ true

  pub spot_next : (k : ℕ) (x : Spot) (number : ℕ) (before here next : Option CellId) → k < length xs → x ≡ get_or xs k x → number ≡ spot_number_of x → next
      ≡ lesser_cell before here
      → IsNextOf (HasCellAtSome (take k xs)) after before
      → IsNextOf (λ q. has_cell (hash.get nat_eq i.by_spot number) q ≡ true) after here
      → IsNextOf (HasCellAtSome (take (k + 1) xs)) after next
  spot_next k x number before here next less read told is f g =
      next_of_two after (HasCellAtSome (take k xs)) (λ q. has_cell (hash.get nat_eq i.by_spot number) q ≡ true) (HasCellAtSome (take (k + 1) xs)) before here
      next
      is split f g
    where
      split : (q : CellId) → HasCellAtSome (take (k + 1) xs) q → HasCellAtSome (take k xs) q ⊎ (has_cell (hash.get nat_eq i.by_spot number) q ≡ true)
      split q e = elim (or_cases (list_any (λ y. has_cell (hash.get nat_eq i.by_spot (spot_number_of y)) q) (take k xs))
          (has_cell (hash.get nat_eq i.by_spot (spot_number_of x)) q)
          (sym (any_more (λ y. has_cell (hash.get nat_eq i.by_spot (spot_number_of y)) q) xs k x less read) ∙ e)) [
            | inl old ↦ inl old
            | inr new ↦ inr (ap (λ n. has_cell (hash.get nat_eq i.by_spot n) q) told ∙ new)
          ]

-- ---- where cells are found for a row: among the wide rows, at its spots

module _ (i : SideIndex) (x : RuleSpots) (ys : List Spot) (same : ys ≡ x.spots.list) (after : Option CellId) where
  abbrev AmongWide : CellId → Type 0
  AmongWide q = (x.has_role && set.contains i.wide q) ≡ true

  abbrev AtSpots : CellId → Type 0
  AtSpots q = list_any (λ y. has_cell (hash.get nat_eq i.by_spot (spot_number_of y)) q) ys ≡ true

  some_at : (number : ℕ) (q : CellId) → has_cell (hash.get nat_eq i.by_spot number) q ≡ true → (zs : List Spot) → list_any (has_number number) zs ≡ true
      → list_any (λ z. has_cell (hash.get nat_eq i.by_spot (spot_number_of z)) q) zs ≡ true
  some_at number q e [] h = absurd (false≢true h)
  some_at number q e (z ∷ zs) h = elim (or_cases (has_number number z) (list_any (has_number number) zs) h) [
    | inl here ↦ or_left _ _ (subst (λ n. has_cell (hash.get nat_eq i.by_spot n) q ≡ true) (tied_number number (spot_number_of z) here) e)
    | inr later ↦ or_right (has_cell (hash.get nat_eq i.by_spot (spot_number_of z)) q) _ (some_at number q e zs later)
  ]

  split : (q : CellId) → IsFoundFor i x q → AmongWide q ⊎ AtSpots q
  split q (Wide, looked, filed) = inl (λ j. looked j && filed j)
  split q (At number, looked, filed) = inr (some_at number q filed ys (ap (list_any (has_number number)) same ∙ looked))

  pub near_next : (among_wide at_spots next : Option CellId) → next ≡ lesser_cell among_wide at_spots
      → IsNextOf AmongWide after among_wide → IsNextOf AtSpots after at_spots → IsNextOf (IsFoundFor i x) after next
  near_next among_wide at_spots next is f g = next_of_two after AmongWide AtSpots (IsFoundFor i x) among_wide at_spots next is split f g

-- ---- among all rows

-- a cell that is past no row is past none that is found
pub next_of_all : (rows same : FiledRows) (x : RuleSpots) (rule : ℕ) (after next : Option CellId) → rows ≡ same
    → IsNextOf (λ q. is_some (finite.get rows.settled q) ≡ true) after next
    → IsNextOf (Contains (found_cells true same.settled rule x)) after next
next_of_all rows same x rule after next is f = subst (λ (r : FiledRows). IsNextOf (Contains (found_cells true r.settled rule x)) after next) is
    (next_as after (λ q. is_some (finite.get rows.settled q) ≡ true) (Contains (found_cells true rows.settled rule x)) next
    (λ q found. met_there true x rule (finite.get rows.settled q) (found_met true rows.settled rule x q found)) f)
