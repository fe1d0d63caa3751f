-- The rows that members bring, filed one cell after another.
use Rattle.std.proofs.Common.{◌≡◌, ◌∙◌, ◌<◌, ◌≤◌, ◌+◌, ℕ, Bool, true, false, cond, List, ◌⊎◌, inl, inr, Option, Some, None, Contains, get_or, is_some, length}
use Rattle.std.proofs.Common.{take, refl, sym, ap, subst}
use Rattle.std.specs.FinMap as finite
use Rattle.std.specs.Cmp.{Equal-is, tied_itself}
use Rattle.std.specs.Option.{option_map}
use Rattle.std.specs.Ordering.{eq_by_cmp, is_eq}
use Rattle.clr_rows.specs.declared.cells.CellId.{CellId}
use Rattle.clr_rows.specs.declared.rows.Row.{Row}
use Rattle.clr_rows.specs.Cells.{cell_cmp}
use Rattle.clr_rows.specs.Contents.{Changes}
use Rattle.clr_rows.proofs.CellOrder.{cell_cmp_exact, cell_cmp_total}
use Rattle.clr_rules.specs.declared.rules.Rule.{Rule}
use Rattle.clr_rules.proofs.Elements.{contained}
use Rattle.clr_finders.specs.declared.row_spots.RuleSpots.{RuleSpots}
use Rattle.clr_finders.specs.Sharing.{Pending, Settled, next_at, next_of, row_spots}
use Rattle.clr_needs.specs.Members.{ChangesCell, after_of, changed_cells, positions}
use Rattle.clr_needs.specs.Settings.{Lived, first_changer, new_row, new_version}
use Rattle.clr_foot.specs.NewRows.{AreNewRowsFiled}
use Rattle.clr_row_versions.specs.Versions.{new_version_at}
use Rattle.clr_needs.proofs.Reading.{none_taken, one_more, all_taken}
use Rattle.clr_row_versions.proofs.SharedCells.{changed_is_listed}

-- ---- cells with a new version are changed

new_changes : (sets : List Changes) (q : CellId) (n : ℕ) (l : Lived ℕ) → new_row n (after_of sets n q) ≡ Some l → ChangesCell sets q n
new_changes sets q n l e = by (after_of sets n q) e
  where
    by : (o : Option (Option Row)) → new_row n o ≡ Some l → is_some o ≡ true
    by None e = cc
    by (Some row) e = refl

pub brought_is_listed : (sets : List Changes) (q : CellId) (l : Lived ℕ) → new_version_at sets q ≡ Some l → Contains (changed_cells sets) q
brought_is_listed sets q l e = by (first_changer (after_of sets) (positions sets) q) e
  where
    by : (o : Option ℕ) → new_version (after_of sets) q o ≡ Some l → Contains (changed_cells sets) q
    by None e = cc
    by (Some n) e = contained q (changed_cells sets) (changed_is_listed sets n q (new_changes sets q n l e))

-- ---- nothing is pending before a cell

pub none_pending : (pending : Pending) (q : CellId) → pending ≡ finite.empty → finite.get pending q ≡ None
none_pending pending q is = ap (λ m. finite.get m q) is ∙ finite.get-empty {X = Option (List RuleSpots)} cell_cmp q

pub one_pending : (old new : Pending) (q : CellId) (spots : Option (List RuleSpots)) → old ≡ finite.empty → new ≡ finite.insert old q spots → new
    ≡ finite.insert finite.empty q spots
one_pending old new q spots is noted = noted ∙ ap (λ m. finite.insert m q spots) is

pub settled_too : (old noted new : Settled) (pending : Pending) → noted ≡ old → ((q : CellId) → finite.get new q ≡ next_at noted pending q) → (q : CellId)
    → finite.get new q ≡ next_at old pending q
settled_too old noted new pending same settles q = settles q ∙ ap (λ m. next_at m pending q) same

module _ (rules : List Rule) (sets : List Changes) where
  -- the spots of the row that is brought to a cell
  abbrev pub new_spots_at : CellId → Option (List RuleSpots)
  new_spots_at q = option_map (λ l. row_spots rules (q, l.row)) (new_version_at sets q)

  -- the new rows of some cells are filed, and no others
  pub record AreFiledAt (cells : List CellId) (settled : Settled) : Type 0 where
    pub only : (q : CellId) → (finite.get settled q ≡ None) ⊎ (finite.get settled q ≡ new_spots_at q)
    pub every : (q : CellId) → Contains cells q → finite.get settled q ≡ new_spots_at q

  pub none_filed : (cells : List CellId) → AreFiledAt (take 0 cells) finite.empty
  none_filed cells = record { only = λ q. inl (finite.get-empty {X = List RuleSpots} cell_cmp q); every = λ q h. absurd (none_taken cells q h) }

  one_cell_more : (cells : List CellId) (k : ℕ) (d : CellId) (old new : Settled) → k < length cells
      → ((q : CellId) → (finite.get new q ≡ new_spots_at q) ⊎ (finite.get new q ≡ finite.get old q))
      → finite.get new (get_or cells k d) ≡ new_spots_at (get_or cells k d)
      → AreFiledAt (take k cells) old
      → AreFiledAt (take (k + 1) cells) new
  one_cell_more cells k d old new less either here before = record {
    only = λ q. only q (either q);
    every = λ q h. every q (one_more cells k d q less h);
  }
    where
      only : (q : CellId) → (finite.get new q ≡ new_spots_at q) ⊎ (finite.get new q ≡ finite.get old q) → (finite.get new q ≡ None)
          ⊎ (finite.get new q ≡ new_spots_at q)
      only q (inl e) = inr e
      only q (inr e) = elim (before.only q) [ inl f ↦ inl (e ∙ f) | inr f ↦ inr (e ∙ f) ]

      every : (q : CellId) → Contains (take k cells) q ⊎ (q ≡ get_or cells k d) → finite.get new q ≡ new_spots_at q
      every q (inl h) = elim (either q) [ inl e ↦ e | inr e ↦ e ∙ before.every q h ]
      every q (inr e) = subst (λ p. finite.get new p ≡ new_spots_at p) (sym e) here

  -- a row of the cell is settled
  pub one_filed : (cells : List CellId) (k : ℕ) (d : CellId) (l : Lived ℕ) (old new : Settled) (pending : Pending) → k < length cells
      → new_version_at sets (get_or cells k d) ≡ Some l
      → pending ≡ finite.insert finite.empty (get_or cells k d) (Some (row_spots rules (get_or cells k d, l.row)))
      → ((q : CellId) → finite.get new q ≡ next_at old pending q)
      → AreFiledAt (take k cells) old
      → AreFiledAt (take (k + 1) cells) new
  one_filed cells k d l old new pending less is noted settles before = one_cell_more cells k d old new less either
      (itself cell (ap is_eq (tied_itself cell_cmp_total cell))) before
    where
      cell : CellId
      cell = get_or cells k d

      spots : Option (Option (List RuleSpots))
      spots = Some (Some (row_spots rules (cell, l.row)))

      pending_at : (q : CellId) → finite.get pending q ≡ cond (eq_by_cmp cell_cmp q cell) spots None
      pending_at q = ap (λ m. finite.get m q) noted ∙ finite.get-insert cell_cmp_total finite.empty cell (Some (row_spots rules (cell, l.row))) q
          ∙ ap (cond (eq_by_cmp cell_cmp q cell) spots) (finite.get-empty {X = Option (List RuleSpots)} cell_cmp q)

      itself : (q : CellId) → eq_by_cmp cell_cmp q cell ≡ true → finite.get new q ≡ new_spots_at q
      itself q tie =
          let same : q ≡ cell = cell_cmp_exact q cell ((Equal-is (cell_cmp q cell)).0 tie) in
          settles q ∙ ap (next_of (finite.get old q)) (pending_at q ∙ ap (λ b. cond b spots None) tie)
          ∙ sym (ap new_spots_at same ∙ ap (option_map (λ (m : Lived ℕ). row_spots rules (cell, m.row))) is)

      either : (q : CellId) → (finite.get new q ≡ new_spots_at q) ⊎ (finite.get new q ≡ finite.get old q)
      either q = by (eq_by_cmp cell_cmp q cell) refl
        where
          by : (b : Bool) → eq_by_cmp cell_cmp q cell ≡ b → (finite.get new q ≡ new_spots_at q) ⊎ (finite.get new q ≡ finite.get old q)
          by true tie = inl (itself q tie)
          by false apart = inr (settles q ∙ ap (next_of (finite.get old q)) (pending_at q ∙ ap (λ b. cond b spots None) apart))

  -- no row is brought there
  pub not_filed : (cells : List CellId) (k : ℕ) (d : CellId) (old : Settled) → k < length cells → new_version_at sets (get_or cells k d) ≡ None
      → AreFiledAt (take k cells) old → AreFiledAt (take (k + 1) cells) old
  not_filed cells k d old less is before = one_cell_more cells k d old old less (λ q. inr refl) (here (before.only cell)) before
    where
      cell : CellId
      cell = get_or cells k d

      none : new_spots_at cell ≡ None
      none = ap (option_map (λ (m : Lived ℕ). row_spots rules (cell, m.row))) is

      here : (finite.get old cell ≡ None) ⊎ (finite.get old cell ≡ new_spots_at cell) → finite.get old cell ≡ new_spots_at cell
      here (inl e) = e ∙ sym none
      here (inr e) = e

  pub all_filed : (cells : List CellId) (k : ℕ) (settled : Settled) → cells ≡ changed_cells sets → length cells ≤ k → AreFiledAt (take k cells) settled
      → AreNewRowsFiled settled rules sets
  all_filed cells k settled all past h q = by (new_version_at sets q) refl
    where
      by : (o : Option (Lived ℕ)) → new_version_at sets q ≡ o → finite.get settled q ≡ new_spots_at q
      by (Some l) e = h.every q (all_taken cells k q past (subst (λ cs. Contains cs q) (sym all) (brought_is_listed sets q l e)))
      by None e = elim (h.only q) [ inl f ↦ f ∙ sym (ap (option_map (λ (m : Lived ℕ). row_spots rules (q, m.row))) e) | inr f ↦ f ]
