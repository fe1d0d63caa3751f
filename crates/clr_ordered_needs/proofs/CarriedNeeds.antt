-- What becomes of versions and needs in a later setting, in which some members are merged and some are gone: each need that is possible then was possible
-- before, of the same rows under other names.
use Rattle.std.proofs.Common.{◌≡◌, ◌∙◌, Bool, true, false, not, ◌&&◌, ◌||◌, cond, inl, inr, refl, sym, ap, subst, Option, Some, None}
use Rattle.std.proofs.Common.{is_some, unwrap_or}
use Rattle.std.specs.Option.{option_map}
use Rattle.std.proofs.lemmas.Bool.{false≢true, or_cases, or_left, or_right}
use Rattle.clr_rows.specs.declared.cells.CellId.{CellId}
use Rattle.clr_rows.specs.declared.rows.Row.{Row}
use Rattle.clr_rows.specs.Cells.{cell_cmp}
use Rattle.clr_rows.specs.Held.{Held}
use Rattle.clr_rules.specs.Calls.{calls, serves}
use Rattle.clr_needs.specs.declared.needs.Need.{Need}
use Rattle.clr_needs.specs.declared.needs.VersionId.{VersionId}
use Rattle.clr_needs.specs.Covers.{Entry, IsLifeOf}
use Rattle.clr_needs.specs.Needs.{AreOpposed, IsBesideIfAny, IsChanged, IsPossible, IsTouchedBy, Serves, ask_of, held_if_any, is_fresh}
use Rattle.clr_needs.specs.Settings.{Setting, Lifetime, Always, With, Without, Lived, changer, has, held_row, new_row, new_version, old_version}
use Rattle.clr_needs.specs.Settings.{version}
use Rattle.clr_needs.proofs.Lives.{new_is, old_is, opposed_too, version_by, version_by_changer}
use Rattle.clr_needs.proofs.Merges.{IsChanger, changer_is}
use Rattle.clr_ordered_needs.specs.Later.{AreIdle, Changes, Fate, Gone, IsLater, Merged, Stays}

-- members that change a cell ------------------------------------------------------------------------------

module _ {A : Type 0} (c : Setting A) where
  pub idle_or_changed : (x : A) (q : CellId) (row : Option Row) → AreIdle c q → Changes c x q row → ⊥
  idle_or_changed x q row idle changed = false≢true (ap is_some (sym (idle x changed.member)) ∙ ap is_some changed.after)

  pub changes_of : (x : A) (q : CellId) → has c.same c.members x ≡ true → is_some (c.after x q) ≡ true → (row : Option Row) × Changes c x q row
  changes_of x q member changes = by (c.after x q) refl changes
    where
      by : (r : Option (Option Row)) → c.after x q ≡ r → is_some r ≡ true → (row : Option Row) × Changes c x q row
      by None e h = absurd (false≢true h)
      by (Some row) e h = (row, record { member = member; after = e })

module _ {A B : Type 0} (c : Setting A) (next : Setting B) (fate : A → Fate B) where
  -- lives, and names of versions -----------------------------------------------------------------------------

  abbrev pub goes_with : Fate B → Option (Lifetime B)
  goes_with Merged = Some Always
  goes_with Gone = None
  goes_with (Stays y) = Some (With y)

  abbrev pub goes_without : Fate B → Option (Lifetime B)
  goes_without Merged = None
  goes_without Gone = Some Always
  goes_without (Stays y) = Some (Without y)

  -- the life that a version has from then on, if there still is one
  abbrev pub goes : Lifetime A → Option (Lifetime B)
  goes Always = Some Always
  goes (With x) = goes_with (fate x)
  goes (Without x) = goes_without (fate x)

  abbrev stays : Fate B → Option B
  stays (Stays y) = Some y
  stays _ = None

  abbrev moved : Option A → Option B
  moved None = None
  moved (Some x) = stays (fate x)

  abbrev pub merges : Fate B → Bool
  merges Merged = true
  merges _ = false

  abbrev pub is_merged : Option A → Bool
  is_merged None = false
  is_merged (Some x) = merges (fate x)

  -- the name that a version has from then on: a merged member's row is the root's
  abbrev pub on : VersionId → VersionId
  on v = record { cell = v.cell; fresh = v.fresh && not (is_merged (changer c v.cell)) }

  abbrev pub on_need : Need → Need
  on_need n = record { rule = n.rule; first = on n.first; second = option_map on n.second; first_part = n.first_part; second_part = n.second_part }

  abbrev pub on_entry : Entry → Entry
  on_entry e = (on_need e.0, on e.1, option_map on e.2)

  -- opposed lives that both go on stay opposed
  stay_opposed : (f : Fate B) (k j : Lifetime B) → goes_with f ≡ Some k → goes_without f ≡ Some j → AreOpposed k j
  stay_opposed Merged k j g h = absurd (cc)
  stay_opposed Gone k j g h = absurd (cc)
  stay_opposed (Stays y) k j g h = let one : With y ≡ k = cc in let two : Without y ≡ j = cc in subst (λ l. AreOpposed l j) one
      (subst (AreOpposed (With y)) two refl)

  still_opposed : (l m : Lifetime A) (k j : Lifetime B) → goes l ≡ Some k → goes m ≡ Some j → AreOpposed l m → AreOpposed k j
  still_opposed (With x) (Without z) k j g h same = stay_opposed (fate x) k j g (ap (λ n. goes_without (fate n)) same ∙ h)
  still_opposed (Without x) (With z) k j g h same = opposed_too next j k (stay_opposed (fate x) j k (ap (λ n. goes_with (fate n)) same ∙ h) g)
  still_opposed _ _ k j g h same = absurd same

  -- a version that a member still changes was changed by one
  was_changed_before : (l : Lifetime A) (k : Lifetime B) → goes l ≡ Some k → IsChanged k → IsChanged l
  was_changed_before Always k g h = let one : Always ≡ k = cc in subst IsChanged (sym one) h
  was_changed_before (With x) k g h = by (fate x) g
    where
      by : (f : Fate B) → goes_with f ≡ Some k → ⊥
      by Merged d = let one : Always ≡ k = cc in subst IsChanged (sym one) h
      by Gone d = absurd (cc)
      by (Stays y) d = let one : With y ≡ k = cc in subst IsChanged (sym one) h
  was_changed_before (Without x) k g h = tt

  module _ (later : IsLater c next fate) where
    -- versions -------------------------------------------------------------------------------------------------

    next_changer : (q : CellId) → changer next q ≡ moved (changer c q)
    next_changer q = by (changer c q) (changer_is c q) (changer next q) (changer_is next q)
      where
        leaves : (x : A) (row : Option Row) → Changes c x q row → AreIdle next q → (f : Fate B) → fate x ≡ f → None ≡ stays f
        leaves x row changed idle Merged e = refl
        leaves x row changed idle Gone e = refl
        leaves x row changed idle (Stays y) e = absurd (idle_or_changed next y q row idle (later.stayed x y q row changed e))

        by : (x : Option A) → IsChanger c c.members q x → (y : Option B) → IsChanger next next.members q y → y ≡ moved x
        by None idle None h = refl
        by None idle (Some y) h = let (row, changed) = changes_of next y q h.0 h.1 in let (x, before, e) = later.came y q row changed in
            absurd (idle_or_changed c x q row idle before)
        by (Some x) h None idle = let (row, changed) = changes_of c x q h.0 h.1 in leaves x row changed idle (fate x) refl
        by (Some x) h (Some y) k =
            let (row, changed) = changes_of next y q k.0 k.1 in
            let (z, before, e) = later.came y q row changed in
            sym (ap (λ n. stays (fate n)) (later.apart x z q h.0 before.member h.1 (ap is_some before.after)) ∙ ap stays e)

    abbrev root_by : Fate B → Option (Option Row) → Option Row → Option Row
    root_by Merged after row = unwrap_or after row
    root_by _ after row = row

    abbrev root_after : CellId → Option A → Option Row
    root_after q None = c.root q
    root_after q (Some x) = root_by (fate x) (c.after x q) (c.root q)

    next_root : (q : CellId) → next.root q ≡ root_after q (changer c q)
    next_root q = by (changer c q) (changer_is c q)
      where
        of : (x : A) (row : Option Row) → Changes c x q row → (f : Fate B) → fate x ≡ f → next.root q ≡ root_by f (c.after x q) (c.root q)
        of x row changed Merged e = later.merged x q row changed e ∙ sym (ap (λ r. unwrap_or r (c.root q)) changed.after)
        of x row changed Gone e = later.unmerged x q row changed (λ d. (let one : Gone ≡ Merged = sym e ∙ d in absurd (cc)))
        of x row changed (Stays y) e = later.unmerged x q row changed (λ d. (let one : Stays y ≡ Merged = sym e ∙ d in absurd (cc)))

        by : (x : Option A) → IsChanger c c.members q x → next.root q ≡ root_after q x
        by None idle = later.idle q idle
        by (Some x) h = let (row, changed) = changes_of c x q h.0 h.1 in of x row changed (fate x) refl

    abbrev next_by : Bool → CellId → Option A → Option (Lived B)
    next_by fresh q x = cond fresh (new_version next.after q (moved x)) (old_version (moved x) (root_after q x))

    next_version : (v : VersionId) → version next v ≡ next_by v.fresh v.cell (changer c v.cell)
    next_version v =
        version_by_changer next v
        ∙ ap (version_by next v.fresh v.cell) (next_changer v.cell)
        ∙ ap (λ row. cond v.fresh (new_version next.after v.cell (moved (changer c v.cell))) (old_version (moved (changer c v.cell)) row)) (next_root v.cell)

    abbrev pub with_life : Row → Lifetime B → Lived B
    with_life r k = record { row = r; life = k }

    same_life : (r : Row) (k j : Lifetime B) → Some k ≡ Some j → Some (with_life r k) ≡ Some (with_life r j)
    same_life r k j e = ap (λ o. Some (with_life r (unwrap_or o k))) e

    -- a version that goes on is there
    goes_on : (v : VersionId) (l : Lived A) (life : Lifetime B) → version c v ≡ Some l → goes l.life ≡ Some life → version next (on v)
        ≡ Some (with_life l.row life)
    goes_on v l life e g = next_version (on v) ∙ by v.fresh (changer c v.cell) (changer_is c v.cell) (sym (version_by_changer c v) ∙ e)
      where
        of_old : (f : Fate B) (after : Option (Option Row)) (row : Option Row) → row ≡ Some l.row → goes_without f ≡ Some life
            → old_version (stays f) (root_by f after row) ≡ Some (with_life l.row life)
        of_old Merged after row d h = absurd (cc)
        of_old Gone after row d h = ap (old_version None) d ∙ same_life l.row Always life h
        of_old (Stays y) after row d h = ap (old_version (Some y)) d ∙ same_life l.row (Without y) life h

        of_new : (x : A) (f : Fate B) → fate x ≡ f → Changes c x v.cell (Some l.row) → goes_with f ≡ Some life
            → cond (not (merges f)) (new_version next.after v.cell (stays f)) (old_version (stays f) (root_by f (c.after x v.cell) (c.root v.cell)))
            ≡ Some (with_life l.row life)
        of_new x Merged d changed h = ap (λ r. old_version None (unwrap_or r (c.root v.cell))) changed.after ∙ same_life l.row Always life h
        of_new x Gone d changed h = absurd (cc)
        of_new x (Stays y) d changed h = ap (new_row y) (later.stayed x y v.cell (Some l.row) changed d).after ∙ same_life l.row (With y) life h

        by : (fresh : Bool) (x : Option A) → IsChanger c c.members v.cell x → version_by c fresh v.cell x ≡ Some l
            → next_by (fresh && not (is_merged x)) v.cell x ≡ Some (with_life l.row life)
        by false None h is = let p = old_is c None (c.root v.cell) l is in ap (old_version None) p.0 ∙ same_life l.row Always life (sym (ap goes p.1) ∙ g)
        by false (Some x) h is = let p = old_is c (Some x) (c.root v.cell) l is in of_old (fate x) (c.after x v.cell) (c.root v.cell) p.0 (sym (ap goes p.1)
            ∙ g)
        by true None h is = absurd (cc)
        by true (Some x) h is = let p = new_is c x (c.after x v.cell) l is in of_new x (fate x) refl (record { member = h.0; after = p.0 }) (sym (ap goes p.1)
            ∙ g)

    -- a version that is there was there, with the same row
    record Came (v : VersionId) (l : Lived B) : Type 0 where
      id : VersionId
      lived : Lived A
      is : version c id ≡ Some lived
      named : on id ≡ v
      row : lived.row ≡ l.row
      life : goes lived.life ≡ Some l.life

    came_from : (v : VersionId) (l : Lived B) → version next v ≡ Some l → Came v l
    came_from v l e = by v.fresh (changer c v.cell) refl (changer_is c v.cell) (sym (next_version v) ∙ e)
      where
        came_as : (fresh was : Bool) (life : Lifetime A) (x : Option A) → changer c v.cell ≡ x → version_by c was v.cell x
            ≡ Some (record { row = l.row; life = life }) → (was && not (is_merged x)) ≡ fresh → goes life ≡ Some l.life
            → Came (record { cell = v.cell; fresh = fresh }) l
        came_as fresh was life x k is f g = record {
          id = record { cell = v.cell; fresh = was };
          lived = record { row = l.row; life = life };
          is = version_by_changer c (record { cell = v.cell; fresh = was }) ∙ ap (version_by c was v.cell) k ∙ is;
          named = ap (λ b. record { cell = v.cell; fresh = b }) (ap (λ z. was && not (is_merged z)) k ∙ f);
          row = refl;
          life = g;
        }

        of_old : (x : A) (row : Option Row) → changer c v.cell ≡ Some x → Changes c x v.cell row → (f : Fate B) → fate x ≡ f
            → old_version (stays f) (root_by f (c.after x v.cell) (c.root v.cell)) ≡ Some l
            → Came (record { cell = v.cell; fresh = false }) l
        of_old x row k changed Merged d is =
            let p = old_is next None (unwrap_or (c.after x v.cell) (c.root v.cell)) l is in
            let same : row ≡ Some l.row = sym (ap (λ r. unwrap_or r (c.root v.cell)) changed.after) ∙ p.0 in
            came_as false true (With x) (Some x) k (ap (new_row x) (changed.after ∙ ap Some same)) (ap (λ f. not (merges f)) d) (ap goes_with d
            ∙ ap Some (sym p.1))
        of_old x row k changed Gone d is =
            let p = old_is next None (c.root v.cell) l is in came_as false false (Without x) (Some x) k (ap (old_version (Some x)) p.0) refl (ap goes_without d
            ∙ ap Some (sym p.1))
        of_old x row k changed (Stays y) d is =
            let p = old_is next (Some y) (c.root v.cell) l is in came_as false false (Without x) (Some x) k (ap (old_version (Some x)) p.0) refl
            (ap goes_without d ∙ ap Some (sym p.1))

        of_new : (x : A) (row : Option Row) → changer c v.cell ≡ Some x → Changes c x v.cell row → (f : Fate B) → fate x ≡ f
            → new_version next.after v.cell (stays f) ≡ Some l
            → Came (record { cell = v.cell; fresh = true }) l
        of_new x row k changed Merged d is = absurd (cc)
        of_new x row k changed Gone d is = absurd (cc)
        of_new x row k changed (Stays y) d is =
            let p = new_is next y (next.after y v.cell) l is in
            let same : Some row ≡ Some (Some l.row) = sym (later.stayed x y v.cell row changed d).after ∙ p.0 in
            came_as true true (With x) (Some x) k (ap (new_row x) (changed.after ∙ same)) (ap (λ f. not (merges f)) d) (ap goes_with d ∙ ap Some (sym p.1))

        by : (fresh : Bool) (x : Option A) → changer c v.cell ≡ x → IsChanger c c.members v.cell x → next_by fresh v.cell x ≡ Some l
            → Came (record { cell = v.cell; fresh = fresh }) l
        by false None k h is = let p = old_is next None (c.root v.cell) l is in came_as false false Always None k (ap (old_version None) p.0) refl
            (ap Some (sym p.1))
        by false (Some x) k h is = let (row, changed) = changes_of c x v.cell h.0 h.1 in of_old x row k changed (fate x) refl is
        by true None k h is = absurd (cc)
        by true (Some x) k h is = let (row, changed) = changes_of c x v.cell h.0 h.1 in of_new x row k changed (fate x) refl is

    -- needs ----------------------------------------------------------------------------------------------------

    abbrev pub AsksSame : Need → Lived A → Option (Lived A) → Need → Lived B → Option (Lived B) → Type 0
    AsksSame m a b n d e = (h : Held) → serves next.rules (ask_of n) (held_row n.first d) (held_if_any n.second e) h
        ≡ serves c.rules (ask_of m) (held_row m.first a) (held_if_any m.second b) h

    -- a possible need was possible: the old versions of its subjects call it
    pub record OldNeed (n : Need) (d : Lived B) (e : Option (Lived B)) : Type 0 where
      pub need : Need
      pub a : Lived A
      pub b : Option (Lived A)
      pub possible : IsPossible c need a b
      pub named : on_need need ≡ n
      pub asks : AsksSame need a b n d e
      pub fresh : n.first.fresh || is_fresh n.second ≡ true → need.first.fresh || is_fresh need.second ≡ true
      pub first : goes a.life ≡ Some d.life
      pub second : (l : Lifetime A) → IsLifeOf l b → (k : Lifetime B) × (goes l ≡ Some k) × IsLifeOf k e

    same_cell : (v : VersionId) (l : Lived B) (it : Came v l) → it.id.cell ≡ v.cell
    same_cell v l it = ap (λ (w : VersionId). w.cell) it.named

    was_fresh : (v : VersionId) (l : Lived B) (it : Came v l) → v.fresh ≡ true → it.id.fresh ≡ true
    was_fresh v l it h = first_of_both it.id.fresh (not (is_merged (changer c it.id.cell))) (ap (λ (w : VersionId). w.fresh) it.named ∙ h)
      where
        first_of_both : (b d : Bool) → b && d ≡ true → b ≡ true
        first_of_both true d h = refl
        first_of_both false d h = h

    same_held : (v : VersionId) (l : Lived B) (it : Came v l) → held_row it.id it.lived ≡ held_row v l
    same_held v l it = λ i. (same_cell v l it i, it.row i)

    pub old_need : (n : Need) (d : Lived B) (e : Option (Lived B)) → IsPossible next n d e → OldNeed n d e
    old_need n d e possible = by n.second e possible.second_is possible.they_call
      where
        it : Came n.first d
        it = came_from n.first d possible.first_is

        one : held_row it.id it.lived ≡ held_row n.first d
        one = same_held n.first d it

        by : (w : Option VersionId) (x : Option (Lived B)) → IsBesideIfAny next n.first d w x →
            calls next.rules (ask_of n) (held_row n.first d) (held_if_any w x)
            ≡ true → OldNeed (record n { second = w }) d x
        by None None beside call = record {
          need = record n { first = it.id; second = None };
          a = it.lived;
          b = None;
          possible = record { first_is = it.is; second_is = tt; they_call = (λ i. calls (sym later.rules i) (ask_of n) (one i) None) ∙ call };
          named = ap (λ v. record n { first = v; second = None }) it.named;
          asks = λ h i. serves (later.rules i) (ask_of n) (sym one i) None h;
          fresh = λ h. elim (or_cases n.first.fresh false h) [ inl f ↦ or_left it.id.fresh false (was_fresh n.first d it f) | inr f ↦ absurd (false≢true f) ];
          first = it.life;
          second = λ l h. absurd h;
        }
        by None (Some x) beside call = absurd beside
        by (Some w) None beside call = absurd beside
        by (Some w) (Some x) beside call =
            let two_is = came_from w x beside.is in
            let two : held_row two_is.id two_is.lived ≡ held_row w x = same_held w x two_is in
            record {
              need = record n { first = it.id; second = Some two_is.id };
              a = it.lived;
              b = Some two_is.lived;
              possible = record {
                first_is = it.is;
                second_is = record {
                  is = two_is.is;
                  ascending = (λ i. cell_cmp (same_cell n.first d it i) (same_cell w x two_is i)) ∙ beside.ascending;
                  not_opposed = λ h. beside.not_opposed (still_opposed it.lived.life two_is.lived.life d.life x.life it.life two_is.life h);
                };
                they_call = (λ i. calls (sym later.rules i) (ask_of n) (one i) (Some (two i))) ∙ call;
              };
              named = λ i. record n { first = it.named i; second = Some (two_is.named i) };
              asks = λ h i. serves (later.rules i) (ask_of n) (sym one i) (Some (sym two i)) h;
              fresh = λ h. elim (or_cases n.first.fresh w.fresh h) [
                | inl f ↦ or_left it.id.fresh two_is.id.fresh (was_fresh n.first d it f)
                | inr f ↦ or_right it.id.fresh two_is.id.fresh (was_fresh w x two_is f)
              ];
              first = it.life;
              second = λ l same. (x.life, ap goes same ∙ two_is.life, refl);
            }

    -- what served it serves it, under its new name --------------------------------------------------------------

    module _ (n : Need) (d : Lived B) (e : Option (Lived B)) (old : OldNeed n d e) where
      pub serves_on : (v : VersionId) (l : Lived A) (k : Lifetime B) → Serves c old.need old.a old.b v l → goes l.life ≡ Some k
          → Serves next n d e (on v) (with_life l.row k)
      serves_on v l k s g = record { is = goes_on v l k s.is g; it_serves = old.asks (held_row v l) ∙ s.it_serves }

      pub was_touched : IsTouchedBy next n d e → IsTouchedBy c old.need old.a old.b
      was_touched (inl h) = inl (old.fresh h)
      was_touched (inr (v, l, s, changed)) =
          let it = came_from v l s.is in
          inr (
            it.id,
            it.lived,
            record {
              is = it.is;
              it_serves = sym (old.asks (held_row it.id it.lived))
                  ∙ ap (serves next.rules (ask_of n) (held_row n.first d) (held_if_any n.second e)) (same_held v l it) ∙ s.it_serves;
            },
            was_changed_before it.lived.life l.life it.life changed,
          )
