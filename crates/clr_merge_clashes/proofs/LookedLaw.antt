-- Where no cell is changed by two members, all are looked at.
use Rattle.std.proofs.Common.{◌≡◌, ◌∙◌, ◌<◌, ◌==◌, ℕ, Bool, true, false, cond, not, List, [], ◌∷◌, inl, inr, Option, Some, None}
use Rattle.std.proofs.Common.{ap, arith, filter, is_some, length, nat_lt, refl, sym}
use Rattle.std.specs.Prelude.{option_map, slice_get}
use Rattle.std.specs.FinMap as finite
use Rattle.std.specs.List.{list_any, range_with_len}
use Rattle.std.proofs.lemmas.Bool.{cases_Bool, ltb-true, or_left, or_right}
use Rattle.std.proofs.lemmas.Bool.Decides.{Decides-eqb}
use Rattle.clr_rows.specs.declared.cells.CellId.{CellId}
use Rattle.clr_rows.specs.declared.cells.Change.{Change}
use Rattle.clr_rows.specs.Contents.{Changes}
use Rattle.clr_rows.proofs.CellOrder.{cell_cmp_total}
use Rattle.clr_rows.proofs.SortedMaps.{held_where}
use Rattle.clr_rules.proofs.Elements.{Among, any_by, kept_among}
use Rattle.clr_needs.specs.Members.{AreApart, after_at}
use Rattle.clr_clearance.specs.MergeSets.{change_sets}
use Rattle.clr_merge_clashes.specs.ClashSets.{MergeClash, positions_of}
use Rattle.clr_merge_clashes.specs.Laws.{AllAreLookedAt}
use Rattle.clr_merge_clashes.specs.Lone.{free_positions, is_free}
use Rattle.clr_merge_clashes.specs.MergeClashes.{is_looked_at, together}
use Rattle.clr_merge_clashes.specs.SharedCells.{cell_of_two, earlier_clash, earlier_clashes, is_apart_at, is_changed_in, pair_clash, shared_cell}
use Rattle.clr_merge_clashes.proofs.Causes.{same_count}
use Rattle.clr_merge_clashes.proofs.Lists.{none_found, none_mapped}

-- a change is one to a row after it
has_after : (found : Option Change) → is_some found ≡ true → is_some (option_map (λ (e : Change). e.after) found) ≡ true
has_after None h = h
has_after (Some e) h = refl

-- two change sets without a cell in common
module _ (first second : Changes) (apart : (cell : CellId) → is_some (finite.get first cell) ≡ true → is_some (finite.get second cell) ≡ true → ⊥) where
  none_shared : shared_cell first second ≡ None
  none_shared = none_found (is_changed_in second) (finite.keys first) fails
    where
      fails : (k : ℕ) (cell : CellId) → slice_get (finite.keys first) k ≡ Some cell → is_changed_in second cell ≡ false
      fails k cell e = elim (cases_Bool (is_changed_in second cell)) [
        | inl changes ↦ absurd (apart cell (held_where cell_cmp_total first k (Some cell) (sym e)) changes)
        | inr none ↦ none
      ]

module _ (sets : List Changes) (apart : AreApart sets) where
  no_cell : (earlier later : ℕ) → earlier < later → (x y : Option Changes) → slice_get sets earlier ≡ x → slice_get sets later ≡ y → cell_of_two x y ≡ None
  no_cell earlier later less None y e f = refl
  no_cell earlier later less (Some first) None e f = refl
  no_cell earlier later less (Some first) (Some second) e f = none_shared first second (λ cell h j.
      let one : earlier ≡ later = apart cell earlier later (ap (λ x. is_some (after_at x cell)) e ∙ has_after (finite.get first cell) h)
      (ap (λ x. is_some (after_at x cell)) f ∙ has_after (finite.get second cell) j) in
      absurd (omega (arith, less, one)))

  no_pair : (later earlier : ℕ) → earlier_clash sets later earlier ≡ None
  no_pair later earlier = by (nat_lt earlier later) refl
    where
      by : (b : Bool) → nat_lt earlier later ≡ b → cond b (pair_clash sets earlier later) None ≡ None
      by false e = refl
      by true e =
          let less : earlier < later = ltb-true earlier later e in
          ap (option_map _) (no_cell earlier later less (slice_get sets earlier) (slice_get sets later) refl refl)

  none_earlier : (free : List ℕ) (later : ℕ) → earlier_clashes sets free later ≡ []
  none_earlier free later = none_mapped (earlier_clash sets later) (no_pair later) free

kept_in : {X : Type 0} (p : X → Bool) (xs : List X) → ((x : X) → Among x xs → p x ≡ true) → filter p xs ≡ xs
kept_in p [] all = refl
kept_in p (x ∷ xs) all =
    ap (λ b. cond b (x ∷ filter p xs) (filter p xs)) (all x (inl refl)) ∙ ap (λ ys. x ∷ ys) (kept_in p xs (λ y h. all y (inr h)))

pub all_looked_at : AllAreLookedAt
all_looked_at o s found (causes, broken, is) apart =
    is.looked ∙ kept_in (is_looked_at causes both) (positions_of causes) each ∙ ap (range_with_len 0) (same_count o s.root s.members causes is.alone)
  where
    free : List ℕ
    free = free_positions causes

    both : List ℕ
    both = together o s causes

    each : (at : ℕ) → Among at (positions_of causes) → is_looked_at causes both at ≡ true
    each at there = elim (cases_Bool (is_free causes at)) [
      | inl e ↦ (let in_free = kept_among (is_free causes) at (positions_of causes) there e in
          let in_both = kept_among (is_apart_at (change_sets o s) free) at free in_free
          (ap (λ (ks : List MergeClash). length ks == 0) (none_earlier (change_sets o s) apart free at)) in
          or_right (not (is_free causes at)) (list_any (λ z. z == at) both) (any_by (λ z. z == at) at both in_both ((Decides-eqb at at).1 refl)))
      | inr e ↦ or_left (not (is_free causes at)) (list_any (λ z. z == at) both) (ap not e)
    ]
