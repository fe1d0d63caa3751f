-- The touched needs, added by version, by cell and by rule.
use Rattle.std.proofs.Common.{◌≡◌, ◌∙◌, ◌<◌, ◌≤◌, ◌+◌, ℕ, zero, suc, Bool, true, false, ◌||◌, List, [], ◌∷◌, ◌⊎◌, inl, inr, Option, Some, None, Contains}
use Rattle.std.proofs.Common.{is_some, length, refl, sym, ap, subst, arith}
use Rattle.std.specs.Prelude.{◌↔◌, ◌&&◌, ⊤, if◌then◌else◌}
use Rattle.std.specs.FinMap as finite
use Rattle.std.specs.List.{flat_map}
use Rattle.std.specs.List.Sorted.{IsStrictlySortedBy}
use Rattle.std.proofs.lemmas.Bool.{cases_Bool, cases_lt, false≢true, or_left, or_right, true≢false}
use Rattle.clr_rows.specs.declared.cells.CellId.{CellId}
use Rattle.clr_rows.specs.Contents.{Changes, Content}
use Rattle.clr_rules.specs.declared.rules.Rule.{Rule}
use Rattle.clr_rows.specs.Held.{Held}
use Rattle.clr_rules.specs.Calls.{calls}
use Rattle.clr_rules.proofs.AskLemmas.{rule_there}
use Rattle.clr_rules.proofs.Elements.{Among, among, among_either, contained}
use Rattle.clr_finders.specs.Sharing.{may_serve_under}
use Rattle.clr_needs.specs.declared.needs.Need.{Need}
use Rattle.clr_needs.specs.declared.needs.VersionId.{VersionId}
use Rattle.clr_row_versions.specs.declared.versions.Version.{Version}
use Rattle.clr_row_versions.specs.Candidates.{IsNeedAmong, IsNeedAt, IsNeedBesideOld, IsNeedOf, IsNeedServedBy, IsNeedWith, may_be_paired}
use Rattle.clr_row_versions.specs.Gains.{Gains, GainsSome, IsListedOrPassed, OfSome, Reaches}
use Rattle.clr_needs.specs.Broken.{is_living}
use Rattle.clr_needs.specs.Members.{ChangesCell, changed_cells, setting}
use Rattle.clr_needs.specs.Needs.{AreTouchedNeeds, IsBeside, IsBesideIfAny, IsChanged, IsTouched, IsTouchedBy, ask_of, held_if_any, is_fresh}
use Rattle.clr_needs.specs.Orders.{need_cmp}
use Rattle.clr_needs.specs.Settings.{Setting, Lifetime, Always, With, Without, Lived, changer, held_row, new_version, old_life, old_version, version}
use Rattle.clr_foot.specs.Serving.{MayBeServed}
use Rattle.clr_new_pairs.specs.NewPairs.{IsNeedOfTwo, Passes}
use Rattle.clr_foot.specs.Touches.{IsInCells, IsNeighbour, IsNeedOfChanged, IsNeedOfNew, IsNeedServedAmong, IsTouchedOf, ListsTouched}
use Rattle.clr_row_versions.specs.Versions.{Finds, FindsAll, FitsSetting, HasVersion, IsAt, row_and_life, row_of, version_of}
use Rattle.clr_row_versions.proofs.ChangerSteps.{changed_key}
use Rattle.clr_row_versions.proofs.Gaining.{gains_as, gains_both, gains_none, gains_reach, reaches_as, reaches_both, some_as, then_none, then_some}
use Rattle.clr_needs.proofs.Lives.{new_is, old_is}
use Rattle.clr_needs.proofs.Merges.{IsChanger, changer_is}
use Rattle.clr_foot.proofs.NewRows.{brought_is_listed}
use Rattle.clr_needs.proofs.PositionLaws.{range_has}
use Rattle.clr_row_versions.proofs.SharedCells.{changed_is_listed}
use Rattle.clr_foot.proofs.TouchLaws.{alone_of_one, alone_with, among_served, among_with, need_between, not_served, pair_possible, served_found, with_found}

-- ---- changed cells

-- the position of a set that changes a listed cell
listed_changes : (sets : List Changes) (q : CellId) → Among q (changed_cells sets) → (k : ℕ) × (k < length sets) × ChangesCell sets q k
unfolding changed_cells
listed_changes [] q h = absurd h
listed_changes (s ∷ sets) q h = elim (among_either q (finite.keys s) (flat_map (λ (s : Changes). finite.keys s) sets) h) [
  | inl here ↦ (zero, omega arith, changed_key s q here)
  | inr later ↦ (let at = listed_changes sets q later in (suc at.0, (let less = at.1 in omega (arith, less)), at.2))
]

module _ (rules : List Rule) (root : Content) (sets : List Changes) where
  abbrev c : Setting ℕ
  c = setting rules root sets

  -- the old version of a listed cell is changed
  pub listed_is_changed : (q : CellId) (l : Lived ℕ) → Contains (changed_cells sets) q → version c (version_of false q) ≡ Some l → IsChanged l.life
  unfolding version
  listed_is_changed q l h is = subst IsChanged (sym (old_is c (changer c q) (c.root q) l is).1) (by (changer c q) (changer_is c q))
    where
      at : (k : ℕ) × (k < length sets) × ChangesCell sets q k
      at = listed_changes sets q (among q (changed_cells sets) h)

      by : (x : Option ℕ) → IsChanger c c.members q x → IsChanged (old_life x)
      by (Some n) f = tt
      by None f = let less = at.1 in absurd (false≢true (ap is_some (sym (f at.0 (range_has (length sets) 0 at.0 (omega arith) (omega (arith, less))))) ∙ at.2))

  -- a version that a change takes away is old, and its cell is listed
  pub changed_is_old : (v : VersionId) (l : Lived ℕ) → version c v ≡ Some l → IsChanged l.life → (v.fresh ≡ false) × Contains (changed_cells sets) v.cell
  unfolding version
  changed_is_old v l is changed = by v.fresh refl (changer c v.cell) refl (changer_is c v.cell) is
    where
      its_cell_is_listed : (n : ℕ) → is_some (c.after n v.cell) ≡ true → Contains (changed_cells sets) v.cell
      its_cell_is_listed n e = contained v.cell (changed_cells sets) (changed_is_listed sets n v.cell e)

      by : (fresh : Bool) → v.fresh ≡ fresh → (x : Option ℕ) → changer c v.cell ≡ x → IsChanger c c.members v.cell x
          → (if fresh then new_version c.after v.cell x else old_version x (c.root v.cell)) ≡ Some l → (v.fresh ≡ false) × Contains (changed_cells sets) v.cell
      by true f None e h k = cc
      by true f (Some n) e h k = absurd (subst IsChanged (new_is c n (c.after n v.cell) l k).1 changed)
      by false f None e h k = absurd (subst IsChanged (old_is c None (c.root v.cell) l k).1 changed)
      by false f (Some n) e h k = (f, its_cell_is_listed n h.1)

  pub new_is_listed : (v : VersionId) (l : Lived ℕ) → v.fresh ≡ true → version c v ≡ Some l → Contains (changed_cells sets) v.cell
  unfolding version
  new_is_listed v l new is = brought_is_listed sets v.cell l (ap (λ b. if b then new_version c.after v.cell (changer c v.cell) else old_version
      (changer c v.cell) (c.root v.cell)) (sym new) ∙ is)

  -- ---- cell after cell

  pub its_name : (v : VersionId) (fresh : Bool) → v.fresh ≡ fresh → v ≡ version_of fresh v.cell
  its_name v fresh e = λ i. record { cell = v.cell; fresh = e i }

  -- a touched need is that of a changed cell, or of two new versions
  module _ (fresh : List Version) (found : Finds c true (IsInCells (changed_cells sets)) fresh) where
    abbrev IsPlaced : Need → Type 0
    IsPlaced n = ((q : CellId) × Contains (changed_cells sets) q × IsNeedAt c n.rule q n) ⊎ IsNeedOfTwo c.rules n.rule fresh n

    pub touched_at : (n : Need) → IsTouched c n → IsPlaced n
    touched_at n (a, b, p, touched) = by n.first.fresh refl n.second b refl p.second_is p.they_call
      where
        first_new : n.first.fresh ≡ true → is_fresh n.second ≡ false → IsPlaced n
        first_new e f = inl (n.first.cell, new_is_listed n.first a e p.first_is, inl ((refl, inl (its_name n.first true e), a, b, p), λ i. e i && f i))

        second_new : (w : VersionId) (m : Lived ℕ) → n.second ≡ Some w → version c w ≡ Some m → n.first.fresh ≡ false → w.fresh ≡ true → IsPlaced n
        second_new w m is at f e = inl (
          w.cell,
          new_is_listed w m e at,
          inl (
            (refl, inr (is ∙ ap Some (its_name w true e)), a, b, p),
            ap (λ x. x
                && is_fresh n.second) f,
          ),
        )

        both_new : (w : VersionId) (m : Lived ℕ) → n.second ≡ Some w → IsBeside c n.first a w m
            → calls c.rules (ask_of n) (held_row n.first a) (Some (held_row w m)) ≡ true → n.first.fresh ≡ true → w.fresh ≡ true → IsPlaced n
        both_new w m second beside called e f =
            let (s, h, same) = found.every n.first.cell a (ap (version c) (sym (its_name n.first true e)) ∙ p.first_is)
            (new_is_listed n.first a e p.first_is) in
            let (t, k, same_too) = found.every w.cell m (ap (version c) (sym (its_name w true f)) ∙ beside.is) (new_is_listed w m f beside.is) in
            inr (
              s,
              t,
              h,
              k,
              need_between c n.rule None s t n a w m refl (same ∙ sym (its_name n.first true e)) (same_too ∙ sym (its_name w true f)) second
                  (found.are s h) (found.are t k) p.first_is beside called (λ row rows. refl),
            )

        old : n.first.fresh ≡ false → is_fresh n.second ≡ false → IsTouchedBy c n a b → IsPlaced n
        old e f (inl new) = absurd (false≢true (sym (λ i. e i || f i) ∙ new))
        old e f (inr (v, l, serve, changed)) =
            let is = changed_is_old v l serve.is changed in
            inl (v.cell, is.1, inr (subst (λ u. IsNeedServedBy c n.rule u n) (its_name v false is.0) (refl, a, b, l, p, serve)))

        by : (new : Bool) → n.first.fresh ≡ new → (w : Option VersionId) (m : Option (Lived ℕ)) → n.second ≡ w → IsBesideIfAny c n.first a w m
            → calls c.rules (ask_of n) (held_row n.first a) (held_if_any {A = ℕ} w m) ≡ true → IsPlaced n
        by true e None m is beside called = first_new e (ap is_fresh is)
        by true e (Some w) None is beside called = absurd beside
        by true e (Some w) (Some m) is beside called = elim (cases_Bool w.fresh) [
          | inl new ↦ both_new w m is beside called e new
          | inr f ↦ first_new e
              (ap is_fresh is ∙ f)
        ]
        by false e None m is beside called = old e (ap is_fresh is) touched
        by false e (Some w) None is beside called = absurd beside
        by false e (Some w) (Some m) is beside called = elim (cases_Bool w.fresh) [
          | inl new ↦ second_new w m is beside.is e new
          | inr f ↦ old e (ap is_fresh is
              ∙ f) touched
        ]

module _ (c : Setting ℕ) (number : ℕ) where
  -- a version's needs
  pub with_gains : (fits : FitsSetting c) (v : Version) (near : List Version) (first second last : List Need) → IsAt c v
      → FindsAll c (IsNeighbour false c.rules number (row_of v)) near
      → Gains (IsNeedOf c.rules number None v None) (IsNeedOf c.rules number None v None) first second
      → Gains (IsNeedAmong c.rules number None v near) (IsNeedAmong c.rules number None v near) second last
      → Gains (IsNeedWith c number v.id) (IsNeedWith c number v.id) first last
  with_gains fits v near first second last at found alone pairs =
      gains_both (IsNeedWith c number v.id) (IsNeedOf c.rules number None v None) (IsNeedAmong c.rules number None v near) (IsNeedWith c number v.id) first
      second last
      (λ n w. with_found c fits number v at near (λ id. ⊤) found.are (λ id l any is near. found.every id l is near) n w (λ w e f. tt) (λ e. tt))
      (gains_as (IsNeedOf c.rules number None v None) (IsNeedOf c.rules number None v None) (IsNeedWith c number v.id) (IsNeedOf c.rules number None v None)
      first second
      (alone_with c number v at) (λ n w. w) alone)
      (gains_as (IsNeedAmong c.rules number None v near) (IsNeedAmong c.rules number None v near) (IsNeedWith c number v.id)
      (IsNeedAmong c.rules number None v near) second last
      (λ n w. among_with c number v at near n found.are w) (λ n w. w) pairs)

  -- a new version's needs, but for those beside a new one
  pub old_sought : (near : List Version) (P : Held → Type 0) → Finds c false P near → (id : VersionId) (l : Lived ℕ) → id.fresh ≡ false → version c id ≡ Some l
      → P (held_row id l) → HasVersion near id
  old_sought near P found id l old is near_it =
      let same : version_of false id.cell ≡ id = λ i. record { cell = id.cell; fresh = sym old i } in
      subst (HasVersion near) same (found.every id.cell l (ap (version c) same ∙ is) near_it)

  first_old : (x y : Bool) → y ≡ true → (x && y) ≡ false → x ≡ false
  first_old false y e f = refl
  first_old true y e f = absurd (false≢true (sym f ∙ e))

  pub beside_gains : (fits : FitsSetting c) (v : Version) (near : List Version) (first second last : List Need) → IsAt c v → v.id.fresh ≡ true
      → Finds c false (IsNeighbour false c.rules number (row_of v)) near
      → Gains (IsNeedOf c.rules number None v None) (IsNeedOf c.rules number None v None) first second
      → Gains (IsNeedAmong c.rules number None v near) (IsNeedAmong c.rules number None v near) second last
      → Gains (IsNeedWith c number v.id) (IsNeedBesideOld c number v.id) first last
  beside_gains fits v near first second last at new found alone pairs =
      gains_both (IsNeedWith c number v.id) (IsNeedOf c.rules number None v None) (IsNeedAmong c.rules number None v near) (IsNeedBesideOld c number v.id) first
      second last
      (λ n w. with_found c fits number v at near (λ id. id.fresh ≡ false) found.are (old_sought near (IsNeighbour false c.rules number (row_of v)) found) n w.0
      (λ u e f. sym (λ i. (ap (λ (x : VersionId). x.fresh) e ∙ new) i && is_fresh (f i)) ∙ w.1)
      (λ e. first_old n.first.fresh (is_fresh n.second) (ap is_fresh e ∙ new) w.1))
      (gains_as (IsNeedOf c.rules number None v None) (IsNeedOf c.rules number None v None) (IsNeedWith c number v.id) (IsNeedOf c.rules number None v None)
      first second
      (alone_with c number v at) (λ n w. w) alone)
      (gains_as (IsNeedAmong c.rules number None v near) (IsNeedAmong c.rules number None v near) (IsNeedWith c number v.id)
      (IsNeedAmong c.rules number None v near) second last
      (λ n w. among_with c number v at near n found.are w) (λ n w. w) pairs)

  pub alone_beside_old : (v : Version) (told : Bool) (first last : List Need) → IsAt c v → told ≡ may_be_paired c.rules number (row_of v) → told ≡ false
      → Gains (IsNeedOf c.rules number None v None) (IsNeedOf c.rules number None v None) first last
      → Gains (IsNeedWith c number v.id) (IsNeedBesideOld c number v.id) first last
  alone_beside_old v told first last at is fails g =
      gains_as (IsNeedOf c.rules number None v None) (IsNeedOf c.rules number None v None) (IsNeedWith c number v.id) (IsNeedBesideOld c number v.id) first last
      (alone_with c number v at) (λ n w. alone_of_one c number v at told is fails n w.0) g

  -- the needs that were listed until there was no memory: for the others near, and with them
  pub none_with : (v : Version) (first last new : List Need) → IsAt c v → new ≡ last
      → Gains (IsNeedOf c.rules number None v None) (IsNeedOf c.rules number None v None) first last
      → GainsSome (IsNeedWith c number v.id) first new
  none_with v first last new at is alone = some_as (IsNeedWith c number v.id) (IsNeedOf c.rules number None v None) first new (alone_with c number v at)
      (then_none (IsNeedOf c.rules number None v None) (IsNeedOf c.rules number None v None) first last new is alone)

  pub some_with : (v : Version) (near : List Version) (first second last : List Need) → IsAt c v
      → FindsAll c (IsNeighbour false c.rules number (row_of v)) near
      → Gains (IsNeedOf c.rules number None v None) (IsNeedOf c.rules number None v None) first second
      → GainsSome (IsNeedAmong c.rules number None v near) second last
      → GainsSome (IsNeedWith c number v.id) first last
  some_with v near first second last at found alone pairs =
      then_some (IsNeedWith c number v.id) (IsNeedOf c.rules number None v None) (IsNeedAmong c.rules number None v near) first second last
      (λ n w. among_with c number v at near n found.are w)
      (gains_as (IsNeedOf c.rules number None v None) (IsNeedOf c.rules number None v None) (IsNeedWith c number v.id) (IsNeedOf c.rules number None v None)
      first second
      (alone_with c number v at) (λ n w. w) alone)
      pairs

  pub alone_gains : (v : Version) (told : Bool) (first last : List Need) → IsAt c v → told ≡ may_be_paired c.rules number (row_of v) → told ≡ false
      → Gains (IsNeedOf c.rules number None v None) (IsNeedOf c.rules number None v None) first last
      → Gains (IsNeedWith c number v.id) (IsNeedWith c number v.id) first last
  alone_gains v told first last at is fails g =
      gains_as (IsNeedOf c.rules number None v None) (IsNeedOf c.rules number None v None) (IsNeedWith c number v.id) (IsNeedWith c number v.id) first last
      (alone_with c number v at) (alone_of_one c number v at told is fails) g

  pub served_gains : (r : Version) (near : List Version) (old new : List Need) → IsAt c r
      → FindsAll c (MayBeServed c.rules number (row_of r)) near
      → Gains (IsNeedServedAmong c.rules number r near near) (IsNeedServedAmong c.rules number r near near) old new
      → Gains (IsNeedServedBy c number r.id) (IsNeedServedBy c number r.id) old new
  served_gains r near old new at found g =
      gains_as (IsNeedServedAmong c.rules number r near near) (IsNeedServedAmong c.rules number r near near) (IsNeedServedBy c number r.id)
      (IsNeedServedBy c number r.id) old new
      (λ n w. among_served c number r at near n found.are w) (served_found c number r at near found) g

  pub some_served : (r : Version) (near : List Version) (old new : List Need) → IsAt c r
      → FindsAll c (MayBeServed c.rules number (row_of r)) near
      → GainsSome (IsNeedServedAmong c.rules number r near near) old new
      → GainsSome (IsNeedServedBy c number r.id) old new
  some_served r near old new at found g =
      some_as (IsNeedServedBy c number r.id) (IsNeedServedAmong c.rules number r near near) old new (λ n w. among_served c number r at near n found.are w) g

  pub none_served_by : (r : Version) (told : Bool) (needs : List Need) → IsAt c r → told ≡ may_serve_under c.rules number (row_of r) → told ≡ false
      → Gains (IsNeedServedBy c number r.id) (IsNeedServedBy c number r.id) needs needs
  none_served_by r told needs at is fails = gains_none (IsNeedServedBy c number r.id) (IsNeedServedBy c number r.id) needs
      (not_served c number r at told is fails)

  -- needs with a new version are touched, and so are needs that a changed version serves
  pub with_touched : (v : VersionId) → v.fresh ≡ true → (n : Need) → IsNeedWith c number v n → IsTouched c n
  with_touched v fresh n (rule, inl e, a, b, p) = (a, b, p, inl (or_left n.first.fresh (is_fresh n.second) (ap (λ u. u.fresh) e ∙ fresh)))
  with_touched v fresh n (rule, inr e, a, b, p) = (a, b, p, inl (or_right n.first.fresh (is_fresh n.second) (ap is_fresh e ∙ fresh)))

  pub served_touched : (v : VersionId) → ((l : Lived ℕ) → version c v ≡ Some l → IsChanged l.life) → (n : Need) → IsNeedServedBy c number v n → IsTouched c n
  served_touched v changed n (rule, a, b, l, p, serve) = (a, b, p, inr (v, l, serve, changed l serve.is))

  -- ---- each of some new versions, and each of some changed ones

  pub new_gained : (v : Version) (old new : List Need) → v.id.fresh ≡ true → Gains (IsNeedWith c number v.id) (IsNeedBesideOld c number v.id) old new
      → Gains (IsTouched c) (IsNeedOfNew c number v) old new
  new_gained v old new fresh g =
      gains_as (IsNeedWith c number v.id) (IsNeedBesideOld c number v.id) (IsTouched c) (IsNeedOfNew c number v) old new (with_touched v.id fresh) (λ n w. w) g

  gone_is_changed : (l : Lifetime ℕ) → is_living l ≡ false → IsChanged l
  gone_is_changed Always e = absurd (true≢false e)
  gone_is_changed (With n) e = absurd (true≢false e)
  gone_is_changed (Without n) e = tt

  pub changed_gained : (v : Version) (old new : List Need) → IsAt c v → is_living (row_and_life v).life ≡ false
      → Gains (IsNeedServedBy c number v.id) (IsNeedServedBy c number v.id) old new
      → Gains (IsTouched c) (IsNeedOfChanged c number v) old new
  changed_gained v old new at gone g =
      gains_as (IsNeedServedBy c number v.id) (IsNeedServedBy c number v.id) (IsTouched c) (IsNeedOfChanged c number v) old new
      (served_touched v.id (λ l is. ap_changed l (same l is))) (λ n w. w.1) g
    where
      same : (l : Lived ℕ) → version c v.id ≡ Some l → row_and_life v ≡ l
      same l is = let both : Some (row_and_life v) ≡ Some l = sym at ∙ is in cc

      ap_changed : (l : Lived ℕ) → row_and_life v ≡ l → IsChanged l.life
      ap_changed l e = subst (λ (m : Lived ℕ). IsChanged m.life) e (gone_is_changed (row_and_life v).life gone)

  pub living_gained : (v : Version) (needs : List Need) → is_living (row_and_life v).life ≡ true → Gains (IsTouched c) (IsNeedOfChanged c number v) needs needs
  living_gained v needs living = gains_none (IsTouched c) (IsNeedOfChanged c number v) needs (λ n w. true≢false (sym living ∙ w.0))

  -- the subject of a need is there
  subject_there : (v : VersionId) (n : Need) → IsNeedWith c number v n → (l : Lived ℕ) × (version c v ≡ Some l)
  subject_there v n (rule, inl e, a, b, p) = (a, ap (version c) (sym e) ∙ p.first_is)
  subject_there v n (rule, inr e, a, b, p) = by n.second b e p.second_is
    where
      by : (w : Option VersionId) (b : Option (Lived ℕ)) → w ≡ Some v → IsBesideIfAny c n.first a w b → (l : Lived ℕ) × (version c v ≡ Some l)
      by None None e h = absurd (let f : None ≡ Some v = e in cc)
      by None (Some b) e h = absurd h
      by (Some w) None e h = absurd h
      by (Some w) (Some b) e h = (b, ap (version c) (let f : Some w ≡ Some v = e in let same : w ≡ v = cc in sym same) ∙ h.is)

-- the touched needs of one rule, and of the rules below a number
module _ (rules : List Rule) (root : Content) (sets : List Changes) where
  abbrev s : Setting ℕ
  s = setting rules root sets

  two_touched : (number : ℕ) (fresh : List Version) (P : Held → Type 0) → Finds s true P fresh → (n : Need) → IsNeedOfTwo rules number fresh n → IsTouched s n
  two_touched number fresh P found n (u, v, h, k, w) = (
    row_and_life u,
    Some (row_and_life v),
    pair_possible s number None u (found.are u h) v n (found.are v k) w,
    inl (or_left n.first.fresh (is_fresh n.second) (ap (λ (x : VersionId). x.fresh) w.need.first ∙ found.alike u h)),
  )

  abbrev IsPlacedAmong : ℕ → List Version → List Version → Need → Type 0
  IsPlacedAmong number fresh old n = OfSome (IsNeedOfNew s number) fresh n ⊎ OfSome (IsNeedOfChanged s number) old n

  pub changed_is_gone : (l : Lifetime ℕ) → IsChanged l → is_living l ≡ false
  changed_is_gone Always h = absurd h
  changed_is_gone (With n) h = absurd h
  changed_is_gone (Without n) h = refl

  pub rule_gains : (leaves_out : Bool) (number : ℕ) (fresh old : List Version) (first second third last : List Need)
      → Finds s true (IsInCells (changed_cells sets)) fresh
      → Finds s false (IsInCells (changed_cells sets)) old
      → Gains (IsTouched s) (OfSome (IsNeedOfNew s number) fresh) first second
      → Gains (IsTouched s) (OfSome (IsNeedOfChanged s number) old) second third
      → Reaches (Passes rules leaves_out) (IsNeedOfTwo rules number fresh) (IsNeedOfTwo rules number fresh) third last
      → Reaches (Passes rules leaves_out) (IsTouched s) (IsTouchedOf s number) first last
  rule_gains leaves_out number fresh old first second third last found found_old g h pairs =
      reaches_both (Passes rules leaves_out) (IsTouched s) (IsPlacedAmong number fresh old) (IsNeedOfTwo rules number fresh) (IsTouchedOf s number) first third
      last find
      (gains_reach (Passes rules leaves_out) (IsTouched s) (IsPlacedAmong number fresh old) first third
      (gains_both (IsTouched s) (OfSome (IsNeedOfNew s number) fresh) (OfSome (IsNeedOfChanged s number) old) (IsPlacedAmong number fresh old) first second
      third (λ n w. w) g h))
      (reaches_as (Passes rules leaves_out) (IsNeedOfTwo rules number fresh) (IsNeedOfTwo rules number fresh) (IsTouched s) (IsNeedOfTwo rules number fresh)
      third
      last (two_touched number fresh (IsInCells (changed_cells sets)) found) (λ n w. w) pairs)
    where
      beside : (q : CellId) (n : Need) → Contains (changed_cells sets) q → IsNeedBesideOld s number (version_of true q) n
          → OfSome (IsNeedOfNew s number) fresh n
      beside q n h w =
          let (l, is) = subject_there s number (version_of true q) n w.0 in
          let (v, k, same) = found.every q l is h in
          (v, k, subst (λ u. IsNeedBesideOld s number u n) (sym same) w)

      served : (q : CellId) (n : Need) → Contains (changed_cells sets) q → IsNeedServedBy s number (version_of false q) n
          → OfSome (IsNeedOfChanged s number) old n
      served q n h (rule, a, b, l, p, serve) =
          let (v, k, same) = found_old.every q l serve.is h in
          let lived : row_and_life v ≡ l = let both : Some (row_and_life v) ≡ Some l = sym (found_old.are v k) ∙ ap (version s) same ∙ serve.is in cc in (
            v,
            k,
            (
              ap (λ (m : Lived ℕ). is_living m.life) lived ∙ changed_is_gone l.life (listed_is_changed rules root sets q l h serve.is),
              subst (λ u. IsNeedServedBy s number u n) (sym same) (rule, a, b, l, p, serve),
            ),
          )

      at : (q : CellId) (n : Need) → Contains (changed_cells sets) q → IsNeedAt s number q n → IsPlacedAmong number fresh old n
      at q n h (inl w) = inl (beside q n h w)
      at q n h (inr w) = inr (served q n h w)

      find : (n : Need) → IsTouchedOf s number n → IsPlacedAmong number fresh old n ⊎ IsNeedOfTwo rules number fresh n
      find n (touched, rule) = elim (touched_at rules root sets fresh found n touched) [
        | inl place ↦ inl (at place.0 n place.1 (subst (λ j. IsNeedAt s j place.0 n) rule place.2))
        | inr two ↦ inr (subst (λ j. IsNeedOfTwo rules j fresh n) rule two)
      ]

  pub record IsTouchedBelow (number : ℕ) (n : Need) : Type 0 where
    pub touched : IsTouched s n
    pub below : n.rule < number

  module _ (leaves_out : Bool) where
    pub no_rule_yet : (needs : List Need) → Reaches (Passes rules leaves_out) (IsTouched s) (IsTouchedBelow 0) needs needs
    no_rule_yet needs = gains_reach (Passes rules leaves_out) (IsTouched s) (IsTouchedBelow 0) needs needs
        (gains_none (IsTouched s) (IsTouchedBelow 0) needs (λ n w. let less = w.below in omega (arith, less)))

    pub one_rule_more : (number : ℕ) (old middle new : List Need) → Reaches (Passes rules leaves_out) (IsTouched s) (IsTouchedBelow number) old middle
        → Reaches (Passes rules leaves_out) (IsTouched s) (IsTouchedOf s number) middle new
        → Reaches (Passes rules leaves_out) (IsTouched s) (IsTouchedBelow (number + 1)) old new
    one_rule_more number old middle new g h =
        reaches_both (Passes rules leaves_out) (IsTouched s) (IsTouchedBelow number) (IsTouchedOf s number) (IsTouchedBelow (number + 1)) old middle new split g
        h
      where
        split : (n : Need) → IsTouchedBelow (number + 1) n → IsTouchedBelow number n ⊎ IsTouchedOf s number n
        split n w = elim (cases_lt n.rule number) [
          | inl less ↦ inl (record { touched = w.touched; below = less })
          | inr last ↦ inr (w.touched, (let less = w.below in omega (arith, less, last)))
        ]

    -- all that are added to an empty list, in order
    pub all_touched : (number : ℕ) (empty new sorted : List Need) → length rules ≤ number → empty ≡ []
        → Reaches (Passes rules leaves_out) (IsTouched s) (IsTouchedBelow number) empty new
        → IsStrictlySortedBy need_cmp sorted
        → ((n : Need) → Contains sorted n ↔ Contains new n)
        → ListsTouched s leaves_out sorted
    all_touched number empty new sorted past none g ascending same = record {
      ascending = ascending;
      only = λ n h. only n (g.only n ((same n).0 h));
      every = λ n t. every n (g.every n (record { touched = t; below = below n t }));
    }
      where
        only : (n : Need) → Contains empty n ⊎ IsTouched s n → IsTouched s n
        only n (inl h) = absurd (among n [] (subst (λ ns. Contains ns n) none h))
        only n (inr t) = t

        every : (n : Need) → IsListedOrPassed (Passes rules leaves_out) new n → IsListedOrPassed (Passes rules leaves_out) sorted n
        every n (inl h) = inl ((same n).1 h)
        every n (inr (m, h, passes)) = inr (m, (same m).1 h, passes)

        below : (n : Need) → IsTouched s n → n.rule < number
        below n (a, b, p, touched) = let less = rule_there rules (ask_of n) (held_row n.first a) (held_if_any n.second b) p.they_call in
            omega (arith, less, past)

  -- where none is left out, they are all
  pub none_left_out : (needs : List Need) → ListsTouched s false needs → AreTouchedNeeds s needs
  none_left_out needs listed = record { ascending = listed.ascending; exactly = λ n. (listed.only n, λ t. by n (listed.every n t)) }
    where
      by : (n : Need) → IsListedOrPassed (Passes rules false) needs n → Contains needs n
      by n (inl h) = h
      by n (inr (m, h, (breaking, less))) = absurd (false≢true breaking.allowed)
