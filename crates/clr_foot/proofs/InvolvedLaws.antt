-- The needs that are added involve the member, and each that does is added.
use Rattle.std.proofs.Common.{◌≡◌, ◌∙◌, ◌<◌, ◌≤◌, ◌+◌, ℕ, Bool, true, false, List, ◌⊎◌, inl, inr, Option, Some, None, Contains, get_or, is_some, length}
use Rattle.std.proofs.Common.{take, refl, sym, ap, subst}
use Rattle.std.specs.Prelude.{slice_get}
use Rattle.std.specs.FinMap as finite
use Rattle.std.proofs.lemmas.Bool.{false≢true, or_cases, or_left, or_right}
use Rattle.std.proofs.lemmas.Bool.Decides.{Decides-eqb}
use Rattle.clr_rows.specs.Contents.{Changes, Content}
use Rattle.clr_rules.specs.declared.rules.Rule.{Rule}
use Rattle.clr_rules.proofs.Elements.{contained}
use Rattle.clr_needs.specs.declared.needs.Need.{Need}
use Rattle.clr_needs.specs.declared.needs.VersionId.{VersionId}
use Rattle.clr_row_versions.specs.declared.versions.Version.{Version}
use Rattle.clr_row_versions.specs.Candidates.{IsNeedServedBy, IsNeedWith}
use Rattle.clr_needs.specs.Independence.{AreDependent, Involves, Names, NamesIfAny}
use Rattle.clr_foot.specs.Involvement.{IsInvolving, IsToldInvolving}
use Rattle.clr_row_versions.specs.Naming.{names, names_at, names_by}
use Rattle.clr_needs.specs.Members.{after_at, setting}
use Rattle.clr_needs.specs.Needs.{AreServers, IsBesideIfAny, IsPossible, IsPossibleNeed, Lists}
use Rattle.clr_needs.specs.Orders.{need_cmp}
use Rattle.clr_needs.specs.Settings.{Setting, Lifetime, Always, With, Without, Lived, changer, version}
use Rattle.clr_row_versions.specs.Versions.{IsAt, row_and_life}
use Rattle.clr_needs.proofs.NeedSubjects.{subjects_once}
use Rattle.clr_needs.proofs.Reading.{all_taken, one_more, read_of}
use Rattle.clr_needs.proofs.Lives.{named_by_old, new_is, old_is, version_by, version_by_changer}
use Rattle.clr_needs.proofs.Merges.{IsChanger, changer_is}
use Rattle.clr_row_versions.proofs.SharedCells.{key_among}
use Rattle.clr_foot.proofs.TouchLaws.{lived_is}

-- ---- lives and names

pub told_names : (l : Lifetime ℕ) (x : ℕ) → names l x ≡ true → Names l x
told_names Always x e = absurd (false≢true e)
told_names (With n) x e = (Decides-eqb n x).0 e
told_names (Without n) x e = (Decides-eqb n x).0 e

pub names_told : (l : Lifetime ℕ) (x : ℕ) → Names l x → names l x ≡ true
names_told Always x h = absurd h
names_told (With n) x h = (Decides-eqb n x).1 h
names_told (Without n) x h = (Decides-eqb n x).1 h

module _ (c : Setting ℕ) where
  -- ---- one version

  module _ (number x : ℕ) (v : Version) (at : IsAt c v) (names : Names (row_and_life v).life x) where
    pub with_involves : (n : Need) → IsNeedWith c number v.id n → IsInvolving c x n
    with_involves n (rule, inl e, a, b, p) =
        let row = lived_is c v n.first a (sym e) at p.first_is in (a, b, p, inl (subst (λ l. Names l.life x) row names))
    with_involves n (rule, inr e, a, b, p) = (a, b, p, inr (inl (by n.second b refl p.second_is)))
      where
        by : (w : Option VersionId) (m : Option (Lived ℕ)) → n.second ≡ w → IsBesideIfAny c n.first a w m → NamesIfAny m x
        by None None second beside = let clash : None ≡ Some v.id = sym second ∙ e in cc
        by None (Some m) second beside = absurd beside
        by (Some w) None second beside = absurd beside
        by (Some w) (Some m) second beside =
            let same : v.id ≡ w = let both : Some v.id ≡ Some w = sym e ∙ second in cc in
            subst (λ l. Names l.life x) (lived_is c v w m same at beside.is) names

    pub served_involves : (n : Need) → IsNeedServedBy c number v.id n → IsInvolving c x n
    served_involves n (rule, a, b, l, p, serve) =
        (a, b, p, inr (inr (v.id, l, serve, subst (λ m. Names m.life x) (lived_is c v v.id l refl at serve.is) names)))

  -- ---- whether a need involves a member

  module _ (n : Need) (x : ℕ) where
    name_at : (v : VersionId) (l : Lived ℕ) → version c v ≡ Some l → names_at x (version c v) ≡ names l.life x
    name_at v l is = ap (names_at x) is

    no_subject : (a : Lived ℕ) (b : Option (Lived ℕ)) → IsPossible c n a b → names_by x c n.first n.second ≡ false → Names a.life x ⊎ NamesIfAny b x → ⊥
    no_subject a b p e h = by n.second b p.second_is e h
      where
        by : (w : Option VersionId) (b : Option (Lived ℕ)) → IsBesideIfAny c n.first a w b → names_by x c n.first w ≡ false → Names a.life x ⊎ NamesIfAny b x →
            ⊥
        by None None is e (inl h) = false≢true (sym e ∙ name_at n.first a p.first_is ∙ names_told a.life x h)
        by None None is e (inr h) = h
        by None (Some b) is e h = is
        by (Some w) None is e h = is
        by (Some w) (Some b) is e (inl h) = false≢true (sym e
            ∙ or_left (names_at x (version c n.first)) (names_at x (version c w)) (name_at n.first a p.first_is ∙ names_told a.life x h))
        by (Some w) (Some b) is e (inr h) = false≢true (sym e ∙ or_right (names_at x (version c n.first)) (names_at x (version c w)) (name_at w b is.is
            ∙ names_told b.life x h))

    module _ (servers read : List VersionId) (are : AreServers c n servers) (same : read ≡ servers) where
      pub server_involves : (v : VersionId) → Contains read v → names_at x (version c v) ≡ true → IsInvolving c x n
      server_involves v h e =
          let (a, b, l, p, serve) = (are.exactly v).0 (subst (λ vs. Contains vs v) same h) in
          (a, b, p, inr (inr (v, l, serve, told_names l.life x (sym (name_at v l serve.is) ∙ e))))

      pub none_involves : (told : Bool) → told ≡ names_by x c n.first n.second → told ≡ false → ((v : VersionId) → Contains read v → names_at x (version c v)
          ≡ true → ⊥) → ¬ (IsInvolving c x n)
      none_involves told is e none (a, b, p, inl h) = no_subject a b p (sym is ∙ e) (inl h)
      none_involves told is e none (a, b, p, inr (inl h)) = no_subject a b p (sym is ∙ e) (inr h)
      none_involves told is e none (a, b, p, inr (inr (v, l, serve, h))) =
          none v (subst (λ vs. Contains vs v) (sym same) ((are.exactly v).1 (a, b, l, p, serve))) (name_at v l serve.is ∙ names_told l.life x h)

  -- ---- two members

  -- of one need both tell, whatever its subjects were taken for
  pub both_depend : (n : Need) (x y : ℕ) → IsInvolving c x n → IsInvolving c y n → AreDependent c x y
  both_depend n x y (a, b, p, first) (d, e, q, second) =
      let once = subjects_once c n d a e b q p in
      (n, d, e, q, subst (λ k. Involves c n d k x) once.1 (subst (λ k. Involves c n k b x) once.0 first), second)

  module _ (x y : ℕ) (needs read : List Need) (are : Lists need_cmp (IsInvolving c x) needs) (same : read ≡ needs) where
    pub is_possible_at : (k : ℕ) (d : Need) → k < length read → IsPossibleNeed c (get_or read k d)
    is_possible_at k d less = let (a, b, p, h) = (are.exactly (get_or read k d)).0 (read_of read needs k d same less) in (a, b, p)

    pub dependent_at : (k : ℕ) (d n : Need) (told : Bool) → k < length read → n ≡ get_or read k d → IsToldInvolving c y n told → told ≡ true
        → AreDependent c x y
    dependent_at k d n told less is tells e =
        both_depend n x y (subst (IsInvolving c x) (sym is) ((are.exactly (get_or read k d)).0 (read_of read needs k d same less)))
        (subst (IsToldInvolving c y n) e tells)

    pub one_apart_more : (k : ℕ) (d n : Need) (told : Bool) → k < length read → n ≡ get_or read k d → IsToldInvolving c y n told → told ≡ false
        → ((m : Need) → Contains (take k read) m → ¬ (IsInvolving c y m))
        → (m : Need) → Contains (take (k + 1) read) m → ¬ (IsInvolving c y m)
    one_apart_more k d n told less is tells e before m h = by (one_more read k d m less h)
      where
        by : Contains (take k read) m ⊎ (m ≡ get_or read k d) → ¬ (IsInvolving c y m)
        by (inl earlier) = before m earlier
        by (inr last) = subst (λ j. ¬ (IsInvolving c y j)) (is ∙ sym last) (subst (IsToldInvolving c y n) e tells)

    pub all_apart : (k : ℕ) → length read ≤ k → ((m : Need) → Contains (take k read) m → ¬ (IsInvolving c y m)) → ¬ (AreDependent c x y)
    all_apart k past none (n, a, b, p, first, second) =
        none n (all_taken read k n past (subst (λ ns. Contains ns n) (sym same) ((are.exactly n).1 (a, b, p, first)))) (a, b, p, second)

-- ---- the cells and the rules

module _ (rules : List Rule) (root : Content) (sets : List Changes) where
  abbrev c : Setting ℕ
  c = setting rules root sets

  -- the cell of a version whose life names a member is changed by it
  named_changes : (v : VersionId) (l : Lived ℕ) (x : ℕ) → version c v ≡ Some l → Names l.life x → is_some (c.after x v.cell) ≡ true
  named_changes v l x e names = by v.fresh (changer c v.cell) (changer_is c v.cell) (sym (version_by_changer c v) ∙ e)
    where
      changes : (o : Option ℕ) → IsChanger c c.members v.cell o → o ≡ Some x → is_some (c.after x v.cell) ≡ true
      changes None h k = cc
      changes (Some m) h k = let same : m ≡ x = cc in subst (λ j. is_some (c.after j v.cell) ≡ true) same h.1

      by : (fresh : Bool) (o : Option ℕ) → IsChanger c c.members v.cell o → version_by c fresh v.cell o ≡ Some l → is_some (c.after x v.cell) ≡ true
      by false o h is = changes o h (named_by_old c o x (subst (λ k. Names k x) ((old_is c o (c.root v.cell) l is).1) names))
      by true None h is = cc
      by true (Some m) h is = changes (Some m) h (ap Some (subst (λ k. Names k x) ((new_is c m (c.after m v.cell) l is).1) names))

  module _ (x : ℕ) (set : Changes) (at : slice_get sets x ≡ Some set) where
    pub key_of : (v : VersionId) (l : Lived ℕ) → version c v ≡ Some l → Names l.life x → Contains (finite.keys set) v.cell
    key_of v l is names = contained v.cell (finite.keys set) (key_among set v.cell (ap (λ s. is_some (after_at s v.cell)) (sym at)
        ∙ named_changes v l x is names))
