-- What is the same over a cut and over the whole root: versions, possible needs, touched needs and what serves them.
use Rattle.std.proofs.Common.{◌≡◌, ◌∙◌, Bool, true, false, List, [], ◌∷◌, ◌↔◌, inl, inr, refl, sym, ap, subst, Option, Some, None}
use Rattle.clr_rows.specs.declared.cells.CellId.{CellId}
use Rattle.clr_rules.specs.Needs.{View}
use Rattle.clr_needs.specs.declared.needs.Need.{Need}
use Rattle.clr_needs.specs.declared.needs.VersionId.{VersionId}
use Rattle.clr_needs.specs.Covers.{AreCovered, CoversAlone, Entry, HasEntry, WitnessesCover}
use Rattle.clr_needs.specs.Independence.{Names}
use Rattle.clr_needs.specs.Needs.{IsBesideIfAny, IsChanged, IsPossible, IsTouched, IsTouchedBy, Serves}
use Rattle.clr_needs.specs.Renamings.{IsSameLife, IsSameVersion, IsSameVersionIfAny}
use Rattle.clr_needs.specs.Settings.{Setting, Lifetime, Always, With, Without, Lived, changer, old_version, version}
use Rattle.clr_needs.proofs.Agreement.{Agree, IsOneToOne}
use Rattle.clr_needs.proofs.Lives.{names_changer, old_is, version_by, version_by_changer}
use Rattle.clr_cuts.specs.Cuts.{HasCell, HasCellIfAny, HasChanged, HasServers, HasSubjects, AreSomeOf, IsSafeCut, with_root}

module _ {A : Type 0} (c : Setting A) (rows : View) where
  abbrev d : Setting A
  d = with_root c rows

  -- at a cell of the cut there are the same versions
  pub same_versions : (v : VersionId) → HasCell rows c.root v.cell → version d v ≡ version c v
  same_versions v kept = version_by_changer d v ∙ by v.fresh ∙ sym (version_by_changer c v)
    where
      by : (fresh : Bool) → version_by d fresh v.cell (changer d v.cell) ≡ version_by c fresh v.cell (changer c v.cell)
      by true = refl
      by false = ap (old_version (changer c v.cell)) kept

  -- a new version needs no row of the root
  pub new_versions : (v : VersionId) → v.fresh ≡ true → version d v ≡ version c v
  new_versions v new = version_by_changer d v
      ∙ (λ i. version_by d (new i) v.cell (changer d v.cell))
      ∙ (λ i. version_by c (sym new i) v.cell (changer c v.cell))
      ∙ sym (version_by_changer c v)

  -- what serves in the whole, and is of the cut, serves in the cut
  pub serves_down : (n : Need) (a : Lived A) (b : Option (Lived A)) (v : VersionId) (l : Lived A) → HasCell rows c.root v.cell → Serves c n a b v l
      → Serves d n a b v l
  serves_down n a b v l kept serve = record { is = same_versions v kept ∙ serve.is; it_serves = serve.it_serves }

  pub possible_down : (n : Need) (a : Lived A) (b : Option (Lived A)) → HasSubjects rows c.root n → IsPossible c n a b → IsPossible d n a b
  possible_down n a b kept possible = record {
    first_is = same_versions n.first kept.0 ∙ possible.first_is;
    second_is = by n.second b kept.1 possible.second_is;
    they_call = possible.they_call;
  }
    where
      by : (w : Option VersionId) (b : Option (Lived A)) → HasCellIfAny rows c.root w → IsBesideIfAny c n.first a w b → IsBesideIfAny d n.first a w b
      by None None kept h = tt
      by None (Some m) kept h = absurd h
      by (Some w) None kept h = absurd h
      by (Some w) (Some m) kept h = record { is = same_versions w kept ∙ h.is; ascending = h.ascending; not_opposed = h.not_opposed }

  module _ (part : AreSomeOf rows c.root) where
    old_up : (x : Option A) (q : CellId) (l : Lived A) → old_version x (rows q) ≡ Some l → old_version x (c.root q) ≡ Some l
    old_up x q l e =
        let is = old_is d x (rows q) l e in
        ap (old_version x) (part q l.row is.0) ∙ ap (λ k. Some (record { row = l.row; life = k })) (sym is.1)

    -- a version of the cut is one of the whole
    pub version_up : (v : VersionId) (l : Lived A) → version d v ≡ Some l → version c v ≡ Some l
    version_up v l e = version_by_changer c v ∙ by v.fresh (sym (version_by_changer d v) ∙ e)
      where
        by : (fresh : Bool) → version_by d fresh v.cell (changer d v.cell) ≡ Some l → version_by c fresh v.cell (changer c v.cell) ≡ Some l
        by true is = is
        by false is = old_up (changer c v.cell) v.cell l is

    pub serves_up : (n : Need) (a : Lived A) (b : Option (Lived A)) (v : VersionId) (l : Lived A) → Serves d n a b v l → Serves c n a b v l
    serves_up n a b v l serve = record { is = version_up v l serve.is; it_serves = serve.it_serves }

    pub possible_up : (n : Need) (a : Lived A) (b : Option (Lived A)) → IsPossible d n a b → IsPossible c n a b
    possible_up n a b possible = record {
      first_is = version_up n.first a possible.first_is;
      second_is = by n.second b possible.second_is;
      they_call = possible.they_call;
    }
      where
        by : (w : Option VersionId) (b : Option (Lived A)) → IsBesideIfAny d n.first a w b → IsBesideIfAny c n.first a w b
        by None None h = tt
        by None (Some m) h = absurd h
        by (Some w) None h = absurd h
        by (Some w) (Some m) h = record { is = version_up w m h.is; ascending = h.ascending; not_opposed = h.not_opposed }

    pub touched_up : (n : Need) (a : Lived A) (b : Option (Lived A)) → IsTouchedBy d n a b → IsTouchedBy c n a b
    touched_up n a b (inl fresh) = inl fresh
    touched_up n a b (inr (v, l, serve, changed)) = inr (v, l, serves_up n a b v l serve, changed)

    -- ---- what covers in the cut covers in the whole

    alone_up : (n : Need) (a : Lived A) (b : Option (Lived A)) (v : VersionId) → CoversAlone d n a b v → CoversAlone c n a b v
    alone_up n a b v (l, serve, lasts) = (l, serves_up n a b v l serve, lasts)

    witnesses_up : (n : Need) (a : Lived A) (b : Option (Lived A)) (v : VersionId) (w : Option VersionId) → WitnessesCover d n a b v w
        → WitnessesCover c n a b v w
    witnesses_up n a b v None covers = alone_up n a b v covers
    witnesses_up n a b v (Some w) (inl one) = inl (alone_up n a b v one)
    witnesses_up n a b v (Some w) (inr (inl two)) = inr (inl (alone_up n a b w two))
    witnesses_up n a b v (Some w) (inr (inr (l, m, one, two, opposed))) = inr (inr (l, m, serves_up n a b v l one, serves_up n a b w m two, opposed))

    pub entry_up : (n : Need) (a : Lived A) (b : Option (Lived A)) (es : List Entry) → HasEntry d n a b es → HasEntry c n a b es
    entry_up n a b [] none = absurd none
    entry_up n a b (e ∷ es) (inl (is, covers)) = inl (is, witnesses_up n a b e.1 e.2 covers)
    entry_up n a b (e ∷ es) (inr more) = inr (entry_up n a b es more)

  -- cells that members change --------------------------------------------------------------------

  module _ (changed : HasChanged c rows) where
    pub named_kept : (v : VersionId) (l : Lived A) (x : A) → version c v ≡ Some l → Names l.life x → HasCell rows c.root v.cell
    named_kept v l x e names = changed v.cell x (names_changer c v l x e names)

    pub changed_kept : (v : VersionId) (l : Lived A) → version c v ≡ Some l → IsChanged l.life → HasCell rows c.root v.cell
    changed_kept v l e is = by l.life refl is
      where
        by : (life : Lifetime A) → l.life ≡ life → IsChanged life → HasCell rows c.root v.cell
        by Always k h = absurd h
        by (With x) k h = absurd h
        by (Without x) k h = named_kept v l x e (subst (λ m. Names m x) (sym k) refl)

    pub touched_down : (n : Need) (a : Lived A) (b : Option (Lived A)) → IsTouchedBy c n a b → IsTouchedBy d n a b
    touched_down n a b (inl fresh) = inl fresh
    touched_down n a b (inr (v, l, serve, is)) = inr (v, l, serves_down n a b v l (changed_kept v l serve.is is) serve, is)

  -- safe cuts ------------------------------------------------------------------------------------

  module _ (safe : IsSafeCut c rows) where
    pub kept_touched : (n : Need) → IsTouched c n → HasSubjects rows c.root n
    kept_touched n (a, b, possible, touched) = safe.subjects n a b possible touched

    pub same_touched : (n : Need) → IsTouched d n ↔ IsTouched c n
    same_touched n = (
      λ t. (let (a, b, possible, touched) = t in (a, b, possible_up safe.of_root n a b possible, touched_up safe.of_root n a b touched)),
      λ t. (let (a, b, possible, touched) = t in (
        a,
        b,
        possible_down n a b (safe.subjects n a b possible touched) possible,
        touched_down safe.changed n a b touched,
      )),
    )

    pub covered_up : (es : List Entry) → AreCovered d es → AreCovered c es
    covered_up es covered n a b possible touched =
        let kept = safe.subjects n a b possible touched in
        entry_up safe.of_root n a b es (covered n a b (possible_down n a b kept possible) (touched_down safe.changed n a b touched))

  -- cuts --------------------------------------------------------------------------------------------

  -- a member stands for itself
  abbrev pub Same : A → A → Type 0
  Same x y = x ≡ y

  pub same_one : IsOneToOne Same
  same_one = record { one_right = λ x y z h j. sym h ∙ j; one_left = λ x z y h j. h ∙ sym j }

  same_life : (l : Lifetime A) → IsSameLife Same l l
  same_life Always = tt
  same_life (With x) = refl
  same_life (Without x) = refl

  same_lived : (l : Lived A) → IsSameVersion Same l l
  same_lived l = record { row = refl; life = same_life l.life }

  same_second : (b : Option (Lived A)) → IsSameVersionIfAny Same b b
  same_second None = tt
  same_second (Some m) = same_lived m

  module _ (part : AreSomeOf rows c.root) (servers : HasServers c rows) (n : Need) (a : Lived A) (b : Option (Lived A)) where
    -- a touched need of the cut has the same subjects and servers in the whole
    pub agree_up : IsPossible d n a b → IsTouchedBy d n a b → Agree d c Same n a b a b
    agree_up possible touched = record {
      first = same_lived a;
      second = same_second b;
      to = λ v l serve. (l, serves_up part n a b v l serve, same_lived l);
      back = λ v l serve. (l, serves_down n a b v l (servers n a b v l possible touched serve) serve, same_lived l);
    }

    pub agree_down : IsPossible d n a b → IsTouchedBy d n a b → Agree c d Same n a b a b
    agree_down possible touched = record {
      first = same_lived a;
      second = same_second b;
      to = λ v l serve. (l, serves_down n a b v l (servers n a b v l possible touched serve) serve, same_lived l);
      back = λ v l serve. (l, serves_up part n a b v l serve, same_lived l);
    }
