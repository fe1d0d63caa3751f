-- The first two members that change each cell, read one member at a time.
use Rattle.std.proofs.Common.{◌≡◌, ◌∙◌, ◌<◌, ◌+◌, ℕ, Bool, true, false, cond, List, ◌∷◌, [], Option, Some, None, inl, inr, is_some, refl, sym, ap, subst, arith}
use Rattle.std.specs.Prelude.{ℤ, Decides, ◌⊎◌, ◌≤◌, ◌-◌, ◌==◌, length, slice_get, if◌then◌else◌}
use Rattle.std.specs.FinMap as finite
use Rattle.std.specs.FinMap.{contains_key-keys}
use Rattle.std.specs.Option.{option_map}
use Rattle.std.specs.HashMap.{get}
use Rattle.std.specs.Ordering.{eq_by_cmp, int_eq}
use Rattle.std.proofs.lemmas.Bool.Decides.{Decides-and, Decides-eqb, Decides-int_eq, eqb_tells}
use Rattle.std.proofs.lemmas.Bool.{cases_lt, true≢false}
use Rattle.clr_rows.specs.declared.cells.CellId.{CellId}
use Rattle.clr_rows.specs.Cells.{cell_cmp}
use Rattle.clr_rows.specs.Contents.{Changes}
use Rattle.clr_rows.proofs.ChangeLemmas.{tied_self}
use Rattle.clr_rules.proofs.Elements.{Among, any_by}
use Rattle.clr_row_versions.specs.declared.changers.Changers.{Changers}
use Rattle.clr_row_versions.specs.Changers.{AreChangersAt, NotedChangers, are_same_keys, changers_at, changers_from, key_of, noted_changers, with_member}
use Rattle.clr_row_versions.specs.Changers.{with_second}
use Rattle.clr_needs.specs.Members.{ChangesCell, IsFirstChanger, IsFound, NoneChanges, after_at, after_in, after_of, positions}
use Rattle.clr_needs.specs.Settings.{first_changer}
use Rattle.clr_row_versions.proofs.Searches.{found_is, none_behind, search, search_finds}
use Rattle.clr_row_versions.proofs.SharedCells.{changes_mapped, key_among}

-- ---- one cell

module _ (sets : List Changes) (q : CellId) where
  first_behind : (from k m : ℕ) → IsFirstChanger sets q from k m → IsFirstChanger sets q from (k + 1) m
  first_behind from k m h = record { from_on = h.from_on; below = (let less = h.below in omega (arith, less)); changes = h.changes; passed = h.passed }

  found_behind : (from k : ℕ) (x : Option ℕ) → is_some (after_of sets k q) ≡ false → IsFound sets q from k x → IsFound sets q from (k + 1) x
  found_behind from k None none h = none_behind sets q from k h none
  found_behind from k (Some m) none h = first_behind from k m h

  -- a member that doesn't change the cell is none of its changers
  pub changers_stay : (k : ℕ) (x : Option Changers) → is_some (after_of sets k q) ≡ false → AreChangersAt sets k q x → AreChangersAt sets (k + 1) q x
  changers_stay k None none h = none_behind sets q 0 k h none
  changers_stay k (Some c) none h = (first_behind 0 k c.first h.0, found_behind (c.first + 1) k c.second none h.1)

  -- the changers of the cell, with the member of a position noted already or not
  abbrev pub AreBeforeOrNoted : ℕ → Option Changers → Type 0
  AreBeforeOrNoted k x = AreChangersAt sets k q x ⊎ AreChangersAt sets (k + 1) q x

  first_of_either : (k : ℕ) (c : Changers) → AreBeforeOrNoted k (Some c) → IsFirstChanger sets q 0 (k + 1) c.first
  first_of_either k c (inl h) = first_behind 0 k c.first h.0
  first_of_either k c (inr h) = h.0

  -- none between the first one and the member
  none_of_either : (k : ℕ) (c : Changers) → c.second ≡ None → AreBeforeOrNoted k (Some c) → NoneChanges sets q (c.first + 1) k
  none_of_either k c none (inl h) = subst (IsFound sets q (c.first + 1) k) none h.1
  none_of_either k c none (inr h) = λ j low high. subst (IsFound sets q (c.first + 1) (k + 1)) none h.1 j low (omega (arith, high))

  second_of_either : (k : ℕ) (c : Changers) (m : ℕ) → c.second ≡ Some m → AreBeforeOrNoted k (Some c) → IsFirstChanger sets q (c.first + 1) (k + 1) m
  second_of_either k c m some (inl h) = first_behind (c.first + 1) k m (subst (IsFound sets q (c.first + 1) k) some h.1)
  second_of_either k c m some (inr h) = subst (IsFound sets q (c.first + 1) (k + 1)) some h.1

  with_new : (k : ℕ) (c : Changers) → ChangesCell sets q k → c.second ≡ None → IsFirstChanger sets q 0 (k + 1) c.first → NoneChanges sets q (c.first + 1) k
      → AreChangersAt sets (k + 1) q (Some (with_second c None k))
  with_new k c changes alone first none = elim (eqb_tells c.first k) [
    | inl same ↦ subst Shows (sym same.0) (
      first,
      subst (IsFound sets q (c.first + 1) (k + 1)) (sym alone)
          (λ j low high h. (let is = same.1 in absurd (omega (arith, low, high, is)))),
    )
    | inr other ↦ subst Shows (sym other.0) (first, record { from_on = before other.1; below = omega arith; changes = changes; passed = none })
  ]
    where
      Shows : Bool → Type 0
      Shows b = AreChangersAt sets (k + 1) q (Some (cond b c (record { first = c.first; second = Some k })))

      before : (c.first ≡ k → ⊥) → c.first + 1 ≤ k
      before other = let least = first.below in elim (cases_lt c.first k) [
        | inl less ↦ omega (arith, less)
        | inr most ↦ absurd
            (other (omega (arith, least, most)))
      ]

  from_none : length sets ≡ 0 + length sets
  from_none = omega arith

  whole : (m : ℕ) → m < length sets → (m + 1) + (length sets - (m + 1)) ≡ length sets
  whole m less = omega (arith, less)

  none_so_far : (k : ℕ) → AreBeforeOrNoted k None → NoneChanges sets q 0 k
  none_so_far k (inl h) = h
  none_so_far k (inr h) = λ j low high. h j low (omega (arith, high))

  -- a member that changes the cell is noted behind those that were found
  pub changers_noted : (k : ℕ) (x : Option Changers) → ChangesCell sets q k → AreBeforeOrNoted k x → AreChangersAt sets (k + 1) q (Some (with_member x k))
  changers_noted k None changes h =
      (record { from_on = omega arith; below = omega arith; changes = changes; passed = none_so_far k h }, λ j low high c. absurd (omega (arith, low, high)))
  changers_noted k (Some c) changes h = by c.second refl
    where
      by : (s : Option ℕ) → c.second ≡ s → AreChangersAt sets (k + 1) q (Some (with_second c s k))
      by None alone = with_new k c changes alone (first_of_either k c h) (none_of_either k c alone h)
      by (Some m) two = (first_of_either k c h, subst (IsFound sets q (c.first + 1) (k + 1)) (sym two) (second_of_either k c m two h))

  -- the changers among as many sets as there are, are the changers among all
  pub changers_exact : (x : Option Changers) → AreChangersAt sets (length sets) q x → x ≡ changers_at sets q
  changers_exact None none = ap (changers_from sets q) (found_is sets q 0 (length sets) None (subst (NoneChanges sets q 0) from_none none))
  changers_exact (Some c) h =
      let first = found_is sets q 0 (length sets) (Some c.first) (subst (λ e. IsFirstChanger sets q 0 e c.first) from_none h.0) in
      let second = found_is sets q (c.first + 1) (length sets - (c.first + 1)) c.second
      (subst (λ e. IsFound sets q (c.first + 1) e c.second) (sym (whole c.first h.0.below)) h.1) in
      ap (λ s. Some (record { first = c.first; second = s })) second ∙ ap (changers_from sets q) first

  pub are_changers : (x : Option Changers) → x ≡ changers_at sets q → AreChangersAt sets (length sets) q x
  are_changers x e = subst (AreChangersAt sets (length sets) q) (sym e)
      (by (search sets q 0 (length sets)) (subst (λ n. IsFound sets q 0 n (search sets q 0 (length sets))) (sym from_none)
      (search_finds sets q 0 (length sets))))
    where
      by : (m : Option ℕ) → IsFound sets q 0 (length sets) m → AreChangersAt sets (length sets) q (changers_from sets q m)
      by None none = none
      by (Some m) h = (
        h,
        subst (λ e. IsFound sets q (m + 1) e (search sets q (m + 1) (length sets - (m + 1)))) (whole m h.below)
            (search_finds sets q (m + 1) (length sets - (m + 1))),
      )

  pub first_of : (x : Option Changers) → x ≡ changers_at sets q → option_map (λ (c : Changers). c.first) x ≡ first_changer (after_of sets) (positions sets) q
  first_of x e = ap (option_map (λ (c : Changers). c.first)) e ∙ by (first_changer (after_of sets) (positions sets) q)
    where
      by : (m : Option ℕ) → option_map (λ (c : Changers). c.first) (changers_from sets q m) ≡ m
      by None = refl
      by (Some m) = refl

-- ---- the cells of one member's changes

abbrev pub Found : Type 0
Found = CellId → Option Changers

-- the cells that are left are the member's, and each other one that it changes is noted
pub record IsNoting (sets : List Changes) (k : ℕ) (found : Found) (left : List CellId) : Type 0 where
  pub changed : (q : CellId) → Among q left → ChangesCell sets q k
  pub rest : (q : CellId) → AreChangersAt sets (k + 1) q (found q) ⊎ (AreChangersAt sets k q (found q) × (ChangesCell sets q k → Among q left))

-- a set changes the cells that are its keys
pub changed_key : (s : Changes) (q : CellId) → Among q (finite.keys s) → is_some (after_in s q) ≡ true
changed_key s q h = changes_mapped (finite.get s q) ∙ contains_key-keys s q ∙ any_by (eq_by_cmp cell_cmp q) q (finite.keys s) h (tied_self q)

at_member : (sets : List Changes) (k : ℕ) (s : Changes) (q : CellId) → slice_get sets k ≡ Some s → is_some (after_of sets k q) ≡ is_some (after_in s q)
at_member sets k s q at = ap (λ t. is_some (after_at t q)) at

pub first_noting : (sets : List Changes) (k : ℕ) (s : Changes) (found : Found) → slice_get sets k ≡ Some s → ((q : CellId) → AreChangersAt sets k q (found q))
    → IsNoting sets k found (finite.keys s)
first_noting sets k s found at h = record {
  changed = λ q among. at_member sets k s q at ∙ changed_key s q among;
  rest = λ q. inr (h q, λ changes. key_among s q (sym (at_member sets k s q at) ∙ changes));
}

pub all_noted : (sets : List Changes) (k : ℕ) (found : Found) → IsNoting sets k found [] → (q : CellId) → AreChangersAt sets (k + 1) q (found q)
all_noted sets k found h q = elim (h.rest q) [
  | inl done ↦ done
  | inr left ↦ by (is_some (after_of sets k q)) refl left
]
  where
    by : (b : Bool) → is_some (after_of sets k q) ≡ b → AreChangersAt sets k q (found q) × (ChangesCell sets q k → ⊥) → AreChangersAt sets (k + 1) q (found q)
    by true changes left = absurd (left.1 changes)
    by false none left = changers_stay sets q k (found q) none left.0

-- whether two cells have the same table and the same key
abbrev pub is_cell : CellId → CellId → Bool
is_cell p q = are_same_keys (key_of p) (key_of q)

is_cell_tells : (p q : CellId) → Decides (is_cell p q) ((p.table ≡ q.table) × (p.key ≡ q.key))
is_cell_tells p q = Decides-and (p.table == q.table) (int_eq p.key q.key) (Decides-eqb p.table q.table) (Decides-int_eq p.key q.key)

one_cell : (p q : CellId) → is_cell p q ≡ true → p ≡ q
one_cell p q h =
    let same = (is_cell_tells p q).0 h in
    ap (λ t. let c : CellId = record { table = t; key = p.key } in c) same.0 ∙ ap (λ k. let c : CellId = record { table = q.table; key = k } in c) same.1

-- what is found by the key of a cell is what is kept there
pub found_at : (changers : NotedChangers) (q : CellId) (key : ℕ × ℤ) (x : Option Changers) → key ≡ key_of q → x ≡ get are_same_keys changers key
    → x ≡ noted_changers changers q
found_at changers q key x is h = h ∙ ap (get are_same_keys changers) is

-- one more of its cells
pub noting_further : (sets : List Changes) (k : ℕ) (p : CellId) (left : List CellId) (found next : Found)
    → ((q : CellId) → next q ≡ (if is_cell p q then Some (with_member (found p) k) else found q))
    → IsNoting sets k found (p ∷ left) → IsNoting sets k next left
noting_further sets k p left found next is h = record {
  changed = λ q among. h.changed q (inr among);
  rest = λ q. by q (is_cell p q) refl;
}
  where
    either : (q : CellId) → AreBeforeOrNoted sets q k (found q)
    either q = elim (h.rest q) [ inl done ↦ inr done | inr before ↦ inl before.0 ]

    here : AreChangersAt sets (k + 1) p (Some (with_member (found p) k))
    here = changers_noted sets p k (found p) (h.changed p (inl refl)) (either p)

    other : (q : CellId) → (p ≡ q → ⊥) → next q ≡ found q → AreChangersAt sets (k + 1) q (found q)
        ⊎ (AreChangersAt sets k q (found q) × (ChangesCell sets q k → Among q (p ∷ left)))
        → AreChangersAt sets (k + 1) q (next q) ⊎ (AreChangersAt sets k q (next q) × (ChangesCell sets q k → Among q left))
    other q apart same (inl done) = inl (subst (AreChangersAt sets (k + 1) q) (sym same) done)
    other q apart same (inr before) = inr (
      subst (AreChangersAt sets k q) (sym same) before.0,
      λ changes. elim (before.1 changes)
          [ inl tied ↦ absurd (apart tied) | inr among ↦ among ],
    )

    by : (q : CellId) (b : Bool) → is_cell p q ≡ b → AreChangersAt sets (k + 1) q (next q)
        ⊎ (AreChangersAt sets k q (next q) × (ChangesCell sets q k → Among q left))
    by q true tied =
        let same : p ≡ q = one_cell p q tied in
        inl (subst (AreChangersAt sets (k + 1) q) (sym (is q ∙ ap (λ b. cond b (Some (with_member (found p) k)) (found q)) tied))
        (subst (λ z. AreChangersAt sets (k + 1) z (Some (with_member (found p) k))) same here))
    by q false untied =
        other q (λ same. true≢false (sym ((is_cell_tells p q).1 (ap (λ (z : CellId). z.table) same, ap (λ (z : CellId). z.key) same)) ∙ untied))
        (is q ∙ ap (λ b. cond b (Some (with_member (found p) k)) (found q)) untied) (h.rest q)
