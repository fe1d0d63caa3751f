-- The subjects of a need, and the members that it involves.
use Rattle.std.proofs.Common.{◌≡◌, ◌∙◌, true, ◌⊎◌, inl, inr, refl, sym, ap, subst, Option, Some, None}
use Rattle.std.proofs.lemmas.Bool.{or_cases}
use Rattle.clr_needs.specs.declared.needs.Need.{Need}
use Rattle.clr_needs.specs.declared.needs.VersionId.{VersionId}
use Rattle.clr_needs.specs.Covers.{IsBlocker, IsLifeOf}
use Rattle.clr_needs.specs.Independence.{Involves, Names, NamesIfAny}
use Rattle.clr_needs.specs.Needs.{IsBesideIfAny, IsChanged, IsPossible, IsTouchedBy, is_fresh}
use Rattle.clr_needs.specs.Settings.{Setting, Lifetime, With, Without, Lived, changer, has, version}
use Rattle.clr_needs.proofs.Lives.{names_member, new_is, version_by, version_by_changer}

module _ {A : Type 0} (c : Setting A) (n : Need) where
  -- a need has one first subject, and one second
  pub subjects_once : (a x : Lived A) (b y : Option (Lived A)) → IsPossible c n a b → IsPossible c n x y → (x ≡ a) × (y ≡ b)
  subjects_once a x b y p q = (let e : Some x ≡ Some a = sym q.first_is ∙ p.first_is in cc, by n.second b y p.second_is q.second_is)
    where
      by : (w : Option VersionId) (b y : Option (Lived A)) → IsBesideIfAny c n.first a w b → IsBesideIfAny c n.first x w y → y ≡ b
      by None None None h k = refl
      by None None (Some y) h k = absurd k
      by None (Some b) y h k = absurd h
      by (Some w) None y h k = absurd h
      by (Some w) (Some b) None h k = absurd k
      by (Some w) (Some b) (Some y) h k = sym k.is ∙ h.is

  -- what holds of all members that lives name holds of whomever a possible need involves
  pub each_involved : (P : A → Type 0) → ((v : VersionId) (l : Lived A) → version c v ≡ Some l → (x : A) → Names l.life x → P x)
      → (a : Lived A) (b : Option (Lived A)) (x : A) → IsPossible c n a b → Involves c n a b x → P x
  each_involved P named a b x possible (inl e) = named n.first a possible.first_is x e
  each_involved P named a b x possible (inr (inl e)) = by n.second b possible.second_is e
    where
      by : (w : Option VersionId) (m : Option (Lived A)) → IsBesideIfAny c n.first a w m → NamesIfAny m x → P x
      by w None is e = absurd e
      by None (Some m) is e = absurd is
      by (Some w) (Some m) is e = named w m is.is x e
  each_involved P named a b x possible (inr (inr (v, l, serve, e))) = named v l serve.is x e

  pub involved_member : (a : Lived A) (b : Option (Lived A)) (x : A) → IsPossible c n a b → Involves c n a b x → has c.same c.members x ≡ true
  involved_member = each_involved (λ x. has c.same c.members x ≡ true) (λ v l is x e. names_member c v l x is e)

  -- a member that breaks a need is involved in it
  pub blocker_involves : (a : Lived A) (b : Option (Lived A)) (x : A) → IsBlocker c n a b x → Involves c n a b x
  blocker_involves a b x (inl e) = inl (subst (λ l. Names l x) (sym e) refl)
  blocker_involves a b x (inr (inl e)) = inr (inl (by b e))
    where
      by : (b : Option (Lived A)) → IsLifeOf (With x) b → NamesIfAny b x
      by None e = absurd e
      by (Some m) e = subst (λ l. Names l x) e refl
  blocker_involves a b x (inr (inr (v, l, serve, e))) = inr (inr (v, l, serve, subst (λ k. Names k x) (sym e) refl))

  -- ---- a touched need involves a member

  changed_names : (l : Lifetime A) → IsChanged l → (x : A) × Names l x
  changed_names (Without x) h = (x, refl)
  changed_names _ h = absurd h

  -- a new version lives with a member
  new_names : (v : VersionId) (l : Lived A) → version c v ≡ Some l → v.fresh ≡ true → (x : A) × Names l.life x
  new_names v l e new = by (changer c v.cell) (sym (ap (λ f. version_by c f v.cell (changer c v.cell)) new) ∙ sym (version_by_changer c v) ∙ e)
    where
      by : (x : Option A) → version_by c true v.cell x ≡ Some l → (x : A) × Names l.life x
      by None is = cc
      by (Some m) is = (m, subst (λ k. Names k m) (sym (new_is c m (c.after m v.cell) l is).1) refl)

  pub touched_involves : (a : Lived A) (b : Option (Lived A)) → IsPossible c n a b → IsTouchedBy c n a b → (x : A) × Involves c n a b x
  touched_involves a b possible (inr (v, l, serve, changed)) = let (x, e) = changed_names l.life changed in (x, inr (inr (v, l, serve, e)))
  touched_involves a b possible (inl fresh) = by (or_cases n.first.fresh (is_fresh n.second) fresh)
    where
      second : (w : Option VersionId) (m : Option (Lived A)) → IsBesideIfAny c n.first a w m → is_fresh w ≡ true → (x : A) × NamesIfAny m x
      second None m is new = cc
      second (Some w) None is new = absurd is
      second (Some w) (Some m) is new = new_names w m is.is new

      by : (n.first.fresh ≡ true) ⊎ (is_fresh n.second ≡ true) → (x : A) × Involves c n a b x
      by (inl new) = let (x, e) = new_names n.first a possible.first_is new in (x, inl e)
      by (inr new) = let (x, e) = second n.second b possible.second_is new in (x, inr (inl e))
