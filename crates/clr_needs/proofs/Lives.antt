-- Which versions stand where some members are merged: those whose life says so, one for each row that stands.
use Rattle.std.proofs.Common.{◌≡◌, ◌∙◌, Bool, true, false, List, [], ◌⊎◌, inl, inr, refl, sym, ap, subst, Option, Some, None, cond, is_some, not, unwrap_or}
use Rattle.std.proofs.lemmas.Bool.{cases_Bool, false≢true}
use Rattle.clr_rows.specs.declared.cells.CellId.{CellId}
use Rattle.clr_rows.specs.declared.rows.Row.{Row}
use Rattle.clr_needs.specs.declared.needs.VersionId.{VersionId}
use Rattle.clr_needs.specs.Independence.{Names}
use Rattle.clr_needs.specs.Needs.{AreOpposed}
use Rattle.clr_needs.specs.Settings.{Setting, Lifetime, Always, With, Without, Lived, changer, has, new_row, new_version, old_life, old_version, view_with}
use Rattle.clr_needs.specs.Settings.{version}
use Rattle.clr_needs.proofs.Merges.{IsChanger, IsMerge, changer_is, merged_row, standing_row, taken_is, unmerged_row}

module _ {A : Type 0} (c : Setting A) where
  -- a life goes on where these members are merged
  abbrev pub lives : List A → Lifetime A → Bool
  lives ts Always = true
  lives ts (With n) = has c.same ts n
  lives ts (Without n) = not (has c.same ts n)

  -- ---- opposed lives

  -- of two opposed lives just one goes on
  pub opposed_lives : (ts : List A) (l m : Lifetime A) → AreOpposed l m → lives ts m ≡ not (lives ts l)
  opposed_lives ts (With n) (Without k) e = ap (λ x. not (has c.same ts x)) (sym e)
  opposed_lives ts (Without n) (With k) e = ap (has c.same ts) (sym e) ∙ twice (has c.same ts n)
    where
      twice : (b : Bool) → b ≡ not (not b)
      twice true = refl
      twice false = refl
  opposed_lives ts _ _ e = absurd e

  pub never_both : (ts : List A) (l m : Lifetime A) → lives ts l ≡ true → lives ts m ≡ true → AreOpposed l m → ⊥
  never_both ts l m h k e = false≢true (ap not (sym h) ∙ sym (opposed_lives ts l m e) ∙ k)

  pub one_of_both : (ts : List A) (l m : Lifetime A) → AreOpposed l m → (lives ts l ≡ true) ⊎ (lives ts m ≡ true)
  one_of_both ts l m e = elim (cases_Bool (lives ts l)) [ inl h ↦ inl h | inr h ↦ inr (opposed_lives ts l m e ∙ ap not h) ]

  pub opposed_too : (l m : Lifetime A) → AreOpposed l m → AreOpposed m l
  opposed_too (With n) (Without k) e = sym e
  opposed_too (Without n) (With k) e = sym e
  opposed_too _ _ e = absurd e

  -- ---- versions by their cell's changer
  abbrev pub version_by : Bool → CellId → Option A → Option (Lived A)
  version_by fresh q x = cond fresh (new_version c.after q x) (old_version x (c.root q))

  pub version_by_changer : (v : VersionId) → version c v ≡ version_by v.fresh v.cell (changer c v.cell)
  unfolding version
  version_by_changer v = refl

  -- a version that is there has one row and one life
  same_lived : (k l : Lived A) → Some k ≡ Some l → (k.row ≡ l.row) × (k.life ≡ l.life)
  same_lived k l e = let same = ap (λ o. unwrap_or o k) e in (ap (λ m. m.row) same, ap (λ m. m.life) same)

  pub old_is : (x : Option A) (row : Option Row) (l : Lived A) → old_version x row ≡ Some l → (row ≡ Some l.row) × (l.life ≡ old_life x)
  old_is x None l e = cc
  old_is x (Some r) l e = let parts = same_lived (record { row = r; life = old_life x }) l e in (ap Some parts.0, sym parts.1)

  pub new_is : (n : A) (after : Option (Option Row)) (l : Lived A) → new_row n after ≡ Some l → (after ≡ Some (Some l.row)) × (l.life ≡ With n)
  new_is n None l e = cc
  new_is n (Some None) l e = cc
  new_is n (Some (Some r)) l e = let parts = same_lived (record { row = r; life = With n }) l e in (ap (λ k. Some (Some k)) parts.0, sym parts.1)

  is_not : (b : Bool) → not b ≡ true → b ≡ false
  is_not true h = absurd (false≢true h)
  is_not false h = refl

  row_stands : (ts : List A) (fresh : Bool) (q : CellId) (x : Option A) (l : Lived A) → version_by fresh q x ≡ Some l → lives ts l.life ≡ true
      → standing_row c ts q x ≡ Some l.row
  row_stands ts false q None l e h = (old_is None (c.root q) l e).0
  row_stands ts false q (Some n) l e h =
      let is = old_is (Some n) (c.root q) l e in
      unmerged_row c ts q n (is_not (has c.same ts n) (ap (lives ts) (sym is.1) ∙ h)) ∙ is.0
  row_stands ts true q None l e h = cc
  row_stands ts true q (Some n) l e h =
      let is = new_is n (c.after n q) l e in
      merged_row c ts q n (Some l.row) (ap (lives ts) (sym is.1) ∙ h) is.0

  -- a version whose life goes on stands
  pub living_stands : (ts : List A) → IsMerge c ts → (v : VersionId) (l : Lived A) → version c v ≡ Some l → lives ts l.life ≡ true → view_with c ts v.cell
      ≡ Some l.row
  living_stands ts merge v l e h = taken_is c ts merge v.cell ∙ row_stands ts v.fresh v.cell (changer c v.cell) l (sym (version_by_changer v) ∙ e) h

  -- a row that stands at a cell is that of a version whose life goes on
  pub record HasVersion (ts : List A) (q : CellId) (r : Row) : Type 0 where
    pub fresh : Bool
    pub life : Lifetime A
    pub is : version c (record { cell = q; fresh = fresh }) ≡ Some (record { row = r; life = life })
    pub lives : lives ts life ≡ true

  pub has_version : (ts : List A) → IsMerge c ts → (q : CellId) (r : Row) → view_with c ts q ≡ Some r → HasVersion ts q r
  has_version ts merge q r e = by (changer c q) refl (changer_is c q) (sym (taken_is c ts merge q) ∙ e)
    where
      with_life : (fresh : Bool) (life : Lifetime A) (x : Option A) → changer c q ≡ x → version_by fresh q x ≡ Some (record { row = r; life = life })
          → lives ts life ≡ true → HasVersion ts q r
      with_life fresh life x k is h = record {
        fresh = fresh;
        life = life;
        is = version_by_changer (record { cell = q; fresh = fresh }) ∙ ap (version_by fresh q) k ∙ is;
        lives = h;
      }

      new : (n : A) (after : Option (Option Row)) → c.after n q ≡ after → is_some (c.after n q) ≡ true → changer c q ≡ Some n → has c.same ts n ≡ true
          → standing_row c ts q (Some n) ≡ Some r → HasVersion ts q r
      new n None a changes k h f = absurd (false≢true (ap is_some (sym a) ∙ changes))
      new n (Some row) a changes k h f = with_life true (With n) (Some n) k (ap (new_row n) (a ∙ ap Some (sym (merged_row c ts q n row h a) ∙ f))) h

      by : (x : Option A) → changer c q ≡ x → IsChanger c c.members q x → standing_row c ts q x ≡ Some r → HasVersion ts q r
      by None k h f = with_life false Always None k (ap (old_version None) f) refl
      by (Some n) k h f = elim (cases_Bool (has c.same ts n)) [
        | inl j ↦ new n (c.after n q) refl h.1 k j f
        | inr j ↦ with_life false (Without n) (Some n) k (ap (old_version (Some n)) (sym (unmerged_row c ts q n j) ∙ f)) (ap not j)
      ]

  -- ---- old versions, and the members that lives name

  -- an old version lives where nobody is merged
  pub old_lives : (v : VersionId) (l : Lived A) → version c v ≡ Some l → v.fresh ≡ false → lives [] l.life ≡ true
  old_lives v l e old =
      let is = old_is (changer c v.cell) (c.root v.cell) l (ap (λ f. version_by f v.cell (changer c v.cell)) (sym old) ∙ sym (version_by_changer v) ∙ e) in
      ap (lives []) is.1 ∙ go (changer c v.cell)
    where
      go : (x : Option A) → lives [] (old_life x) ≡ true
      go None = refl
      go (Some n) = refl

  pub named_by_old : (x : Option A) (n : A) → Names (old_life x) n → x ≡ Some n
  named_by_old None n e = absurd e
  named_by_old (Some m) n e = ap Some e

  -- whom a version's life names changes its cell, and is a member
  pub names_changer : (v : VersionId) (l : Lived A) (n : A) → version c v ≡ Some l → Names l.life n → changer c v.cell ≡ Some n
  names_changer v l n e names = by v.fresh (changer c v.cell) (sym (version_by_changer v) ∙ e)
    where
      by : (fresh : Bool) (x : Option A) → version_by fresh v.cell x ≡ Some l → x ≡ Some n
      by false x is = named_by_old x n (subst (λ k. Names k n) ((old_is x (c.root v.cell) l is).1) names)
      by true None is = cc
      by true (Some m) is = ap Some (subst (λ k. Names k n) ((new_is m (c.after m v.cell) l is).1) names)

  pub names_member : (v : VersionId) (l : Lived A) (n : A) → version c v ≡ Some l → Names l.life n → has c.same c.members n ≡ true
  names_member v l n e names = (subst (IsChanger c c.members v.cell) (names_changer v l n e names) (changer_is c v.cell)).0
