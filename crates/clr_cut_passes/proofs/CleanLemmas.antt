-- A pass is clean just where the cut has each of its rows or needs none there, and each row of the cut is one of them.
use Rattle.std.proofs.Common.{◌≡◌, ◌∙◌, ◌⊎◌, ◌<◌, ◌≤◌, ◌+◌, ◌↔◌, ℕ, Bool, true, false, cond, List, [], ◌∷◌, Option, Some, None, Contains, inl, inr, length}
use Rattle.std.proofs.Common.{is_some, refl, sym, ap, subst, arith}
use Rattle.std.specs.Prelude.{count_by}
use Rattle.std.specs.FinMap as finite
use Rattle.std.specs.List.{IsDistinct}
use Rattle.std.specs.Ordering.{eq_by_cmp}
use Rattle.std.specs.Set.{is_member}
use Rattle.std.proofs.lemmas.Bool.{false≢true}
use Rattle.std.proofs.lemmas.Cmp.{eq_by_cmp_equiv}
use Rattle.std.proofs.lemmas.List.{length-map}
use Rattle.std.proofs.lemmas.List.Sums.{sum_by-cons}
use Rattle.std.proofs.lemmas.Map.Keys.{IsDistinct-cons, IsDistinct-from_sorted}
use Rattle.std.proofs.lemmas.Map.Made.{length-le_from_is_member}
use Rattle.clr_rows.specs.declared.cells.CellId.{CellId}
use Rattle.clr_rows.specs.declared.rows.Row.{Row}
use Rattle.clr_rows.specs.Cells.{cell_cmp}
use Rattle.clr_rows.specs.Contents.{Changes, Content}
use Rattle.clr_rows.specs.Held.{Held}
use Rattle.clr_rows.proofs.CellOrder.{cell_cmp_total}
use Rattle.clr_rules.specs.declared.rules.Rule.{Rule}
use Rattle.clr_rules.proofs.Elements.{Among, all_by, among, any_by, contained, rising_mapped}
use Rattle.clr_finders.proofs.PassingCells.{listed_cmp, one_among, values_rise}
use Rattle.clr_needs.specs.Members.{setting}
use Rattle.clr_needs.specs.Settings.{Setting}
use Rattle.clr_reach.specs.declared.aims.Aim.{Aim}
use Rattle.clr_cut_rows.specs.declared.standings.Standing.{Standing}
use Rattle.clr_cut_rows.specs.declared.standings.Standing.TheVariants.{Has, HasOther, Lacks, Beyond}
use Rattle.clr_cut_rows.specs.Laws.{AreAllRight}
use Rattle.clr_cut_rows.specs.Standings.{IsStanding}
use Rattle.clr_cut_passes.specs.declared.counts.PassCounts.{PassCounts}
use Rattle.clr_cut_passes.specs.Counts.{IsClean, counts_of, greatest, is_had, is_lacked, is_other, up_to_greatest}
use Rattle.clr_cut_passes.specs.Passes.{AreCountsOf, AreOfOwnCells, AreStandings}
use Rattle.clr_cut_passes.proofs.HadLemmas.{IsIn, had_cells, had_counted, had_distinct, had_row, row_had}

abbrev same_cell : CellId → CellId → Bool
same_cell = eq_by_cmp cell_cmp

-- counts up to the greatest ------------------------------------------------------------------------

below_greatest : (n m : ℕ) → up_to_greatest n ≡ m → m < greatest → n ≡ m
below_greatest n m e less = omega (arith, e, less)

still_below : (n m : ℕ) → n ≡ m → m < greatest → up_to_greatest n ≡ m
still_below n m e less = omega (arith, e, less)

none_up : (n : ℕ) → up_to_greatest n ≡ 0 → n ≡ 0
none_up n e = omega (arith, e)

-- rows that are right ------------------------------------------------------------------------------

module _ (aim : Aim) (c : Setting ℕ) where
  abbrev Right : Held → Type 0
  Right s = IsStanding aim c s Has ⊎ IsStanding aim c s Beyond

  -- rows none of which counts as lacked or as another one are right
  all_right : (list : List Held) (xs : List Standing) → AreStandings aim c list xs → count_by is_other xs ≡ 0 → count_by is_lacked xs ≡ 0 → (s : Held)
      → Among s list → Right s
  all_right [] xs are others lacked s h = absurd h
  all_right (t ∷ list) [] are others lacked s h = absurd are
  all_right (t ∷ list) (x ∷ xs) are others lacked s (inr h) =
      let first = sum_by-cons (λ y. cond (is_other y) 1 0) x xs in
      let second = sum_by-cons (λ y. cond (is_lacked y) 1 0) x xs in
      all_right list xs are.1 (omega (arith, first, others)) (omega (arith, second, lacked)) s h
  all_right (t ∷ list) (x ∷ xs) are others lacked s (inl e) = subst Right e (by x are.0 others lacked)
    where
      by : (y : Standing) → IsStanding aim c t y → count_by is_other (y ∷ xs) ≡ 0 → count_by is_lacked (y ∷ xs) ≡ 0 → Right t
      by Has is f g = inl is
      by HasOther is f g = let first = sum_by-cons (λ y. cond (is_other y) 1 0) HasOther xs in absurd (omega (arith, first, f))
      by Lacks is f g = let second = sum_by-cons (λ y. cond (is_lacked y) 1 0) Lacks xs in absurd (omega (arith, second, g))
      by Beyond is f g = inr is

  -- a row that is right counts as neither
  not_other : (s : Held) (x : Standing) → IsStanding aim c s x → Right s → is_other x ≡ false
  not_other s Has is right = refl
  not_other s HasOther (r, there, other) (inl it) = let same : Some r ≡ Some s.1 = sym there ∙ it in absurd (other cc)
  not_other s HasOther (r, there, other) (inr it) = let clash : None ≡ Some r = sym it.0 ∙ there in absurd cc
  not_other s Lacks is right = refl
  not_other s Beyond is right = refl

  not_lacked : (s : Held) (x : Standing) → IsStanding aim c s x → Right s → is_lacked x ≡ false
  not_lacked s Has is right = refl
  not_lacked s HasOther is right = refl
  not_lacked s Lacks is (inl it) = let clash : None ≡ Some s.1 = sym is.0 ∙ it in absurd cc
  not_lacked s Lacks is (inr it) = absurd (it.1 is.1)
  not_lacked s Beyond is right = refl

  none_counted : (p : Standing → Bool) → ((s : Held) (x : Standing) → IsStanding aim c s x → Right s → p x ≡ false) → (list : List Held) (xs : List Standing)
      → AreStandings aim c list xs → ((s : Held) → Among s list → Right s) → count_by p xs ≡ 0
  none_counted p none [] [] are right = refl
  none_counted p none [] (x ∷ xs) are right = absurd are
  none_counted p none (s ∷ list) [] are right = absurd are
  none_counted p none (s ∷ list) (x ∷ xs) are right = sum_by-cons (λ y. cond (p y) 1 0) x xs
      ∙ (λ i. cond (none s x are.0 (right s (inl refl)) i) 1 0 + none_counted p none list xs are.1 (λ t h. right t (inr h)) i)

-- rows of the cut ----------------------------------------------------------------------------------

module _ (aim : Aim) (rules : List Rule) (root : Content) (sets : List Changes) (list : List Held) (xs : List Standing)
    (are : AreStandings aim (setting rules root sets) list xs) where
  abbrev c : Setting ℕ
  c = setting rules root sets

  abbrev cells : List CellId
  cells = finite.keys root

  all_cells : length cells ≡ finite.len root
  all_cells = length-map (finite.entries root) (λ e. e.0) ∙ sym (finite.len-entries root)

  cells_distinct : IsDistinct same_cell cells
  cells_distinct = IsDistinct-from_sorted cell_cmp cells
      (rising_mapped listed_cmp cell_cmp (λ e. e.0) (λ e f less. less) (finite.entries root) (values_rise root))

  -- the root has a row at its cells, and at no others
  has_cell : (q : CellId) (r : Row) → c.root q ≡ Some r → is_member same_cell cells q ≡ true
  has_cell q r e = sym (finite.contains_key-keys root q) ∙ ap is_some e

  row_of_cell : (q : CellId) → is_member same_cell cells q ≡ true → (r : Row) × (c.root q ≡ Some r)
  row_of_cell q h = by (c.root q) refl (finite.contains_key-keys root q ∙ h)
    where
      by : (o : Option Row) → c.root q ≡ o → is_some o ≡ true → (r : Row) × (c.root q ≡ Some r)
      by None e some = absurd (false≢true some)
      by (Some r) e some = (r, e)

  itself : (q : CellId) → same_cell q q ≡ true
  itself q = (eq_by_cmp_equiv cell_cmp_total).refl q

  member : (q : CellId) (qs : List CellId) → Among q qs → is_member same_cell qs q ≡ true
  member q qs h = any_by (same_cell q) q qs h (itself q)

  abbrev had : List CellId
  had = had_cells list xs

  had_among_cells : (q : CellId) → is_member same_cell had q ≡ true → is_member same_cell cells q ≡ true
  had_among_cells q h = by (had_row aim c list xs q are (one_among had q h))
    where
      by : IsIn aim c q list → is_member same_cell cells q ≡ true
      by (s, in_list, same, is) = subst (λ k. is_member same_cell cells k ≡ true) same (has_cell s.0 s.1 is)

  module _ (apart : AreOfOwnCells list) where
    had_at_most : length had ≤ finite.len root
    had_at_most = let most = length-le_from_is_member (eq_by_cmp_equiv cell_cmp_total) had cells (had_distinct list xs apart) had_among_cells in
        omega (arith, most, all_cells)

    -- one more cell of the root would be one too many
    one_too_many : length had ≡ finite.len root → (s : Held) → c.root s.0 ≡ Some s.1 → is_member same_cell had s.0 ≡ false → ⊥
    one_too_many all s is missing =
        let most = length-le_from_is_member (eq_by_cmp_equiv cell_cmp_total) (s.0 ∷ had) cells
        (IsDistinct-cons same_cell s.0 had (all_by (λ q. same_cell s.0 q ≡ false) had others) (had_distinct list xs apart)) with_it in
        omega (arith, most, all_cells, all)
      where
        others : (q : CellId) → Among q had → same_cell s.0 q ≡ false
        others q h = by (same_cell s.0 q) refl
          where
            by : (b : Bool) → same_cell s.0 q ≡ b → b ≡ false
            by false e = refl
            by true e = absurd (false≢true (sym missing ∙ any_by (same_cell s.0) q had h e))

        with_it : (q : CellId) → is_member same_cell (s.0 ∷ had) q ≡ true → is_member same_cell cells q ≡ true
        with_it q h = by (one_among (s.0 ∷ had) q h)
          where
            by : (s.0 ≡ q) ⊎ Among q had → is_member same_cell cells q ≡ true
            by (inl same) = subst (λ k. is_member same_cell cells k ≡ true) same (has_cell s.0 s.1 is)
            by (inr there) = had_among_cells q (member q had there)

    -- where the pass had as many rows as the root has, it had each
    each_met : length had ≡ finite.len root → (s : Held) → c.root s.0 ≡ Some s.1 → Contains list s
    each_met all s is = by (is_member same_cell had s.0) refl
      where
        found : IsIn aim c s.0 list → Contains list s
        found (t, in_list, same, there) =
            let rows : Some t.1 ≡ Some s.1 = sym there ∙ ap c.root same ∙ is in
            let one : t.1 ≡ s.1 = cc in
            contained s list (subst (λ (u : Held). Among u list) (λ i. (same i, one i)) in_list)

        by : (b : Bool) → is_member same_cell had s.0 ≡ b → Contains list s
        by true h = found (had_row aim c list xs s.0 are (one_among had s.0 h))
        by false h = absurd (one_too_many all s is h)

    -- where each row of the root is one of the pass, it had as many
    all_had : ((s : Held) → c.root s.0 ≡ Some s.1 → Contains list s) → length had ≡ finite.len root
    all_had met =
        let least = length-le_from_is_member (eq_by_cmp_equiv cell_cmp_total) cells had cells_distinct there in
        omega (arith, least, had_at_most, all_cells)
      where
        there : (q : CellId) → is_member same_cell cells q ≡ true → is_member same_cell had q ≡ true
        there q h =
            let (r, is) = row_of_cell q h in
            member q had (row_had aim c list xs (q, r) are (among (q, r) list (met (q, r) is)) is)

    to_right : finite.len root < greatest → IsClean (counts_of xs) (finite.len root) → AreAllRight aim c list
    to_right less it = record {
      met = each_met (had_counted aim c list xs are ∙ below_greatest (count_by is_had xs) (finite.len root) it.had less);
      right = λ s h. all_right aim c list xs are (none_up (count_by is_other xs) it.others) (none_up (count_by is_lacked xs) it.lacked) s (among s list h);
    }

    to_clean : finite.len root < greatest → AreAllRight aim c list → IsClean (counts_of xs) (finite.len root)
    to_clean less all =
        let right : (s : Held) → Among s list → Right aim c s = λ s h. all.right s (contained s list h) in
        record {
          had = still_below (count_by is_had xs) (finite.len root) (sym (had_counted aim c list xs are) ∙ all_had all.met) less;
          others = ap up_to_greatest (none_counted aim c is_other (not_other aim c) list xs are right);
          lacked = ap up_to_greatest (none_counted aim c is_lacked (not_lacked aim c) list xs are right);
        }

pub clean_told : (aim : Aim) (rules : List Rule) (root : Content) (sets : List Changes) (list : List Held) (counts : PassCounts)
    → finite.len root < greatest
    → AreOfOwnCells list
    → AreCountsOf aim (setting rules root sets) list counts
    → IsClean counts (finite.len root) ↔ AreAllRight aim (setting rules root sets) list
clean_told aim rules root sets list counts less apart (xs, are, is) = (
  λ it. to_right aim rules root sets list xs are apart less (subst (λ (n : PassCounts). IsClean n (finite.len root)) is it),
  λ all. subst (λ (n : PassCounts). IsClean n (finite.len root)) (sym is) (to_clean aim rules root sets list xs are apart less all),
)
