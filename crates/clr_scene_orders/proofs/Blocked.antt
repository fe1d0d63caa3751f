-- A touched need has a blocker: a member that brings a subject, or takes a serving version away.
use Rattle.std.proofs.Common.{◌≡◌, ◌∙◌, ◌⊎◌, ℕ, Bool, true, false, Option, Some, None, inl, inr, refl, sym, ap}
use Rattle.std.proofs.lemmas.Bool.{or_cases}
use Rattle.clr_needs.specs.declared.needs.Need.{Need}
use Rattle.clr_needs.specs.declared.needs.VersionId.{VersionId}
use Rattle.clr_needs.specs.Covers.{IsBlocker, IsLifeOf}
use Rattle.clr_needs.specs.Needs.{IsBesideIfAny, IsChanged, IsPossible, IsTouchedBy, is_fresh}
use Rattle.clr_needs.specs.Settings.{Setting, Lifetime, Always, With, Without, Lived, changer, version}
use Rattle.clr_needs.proofs.Lives.{names_member, new_is, version_by, version_by_changer}

module _ (c : Setting ℕ) (n : Need) where
  changed_without : (l : Lifetime ℕ) → IsChanged l → (x : ℕ) × (l ≡ Without x)
  changed_without (Without x) h = (x, refl)
  changed_without Always h = absurd h
  changed_without (With x) h = absurd h

  -- a new version lives with a member
  new_with : (v : VersionId) (l : Lived ℕ) → version c v ≡ Some l → v.fresh ≡ true → (x : ℕ) × (l.life ≡ With x)
  new_with v l e new = by (changer c v.cell) (sym (ap (λ f. version_by c f v.cell (changer c v.cell)) new) ∙ sym (version_by_changer c v) ∙ e)
    where
      by : (x : Option ℕ) → version_by c true v.cell x ≡ Some l → (x : ℕ) × (l.life ≡ With x)
      by None is = absurd (cc)
      by (Some m) is = (m, (new_is c m (c.after m v.cell) l is).1)

  pub touched_is_blocked : (a : Lived ℕ) (b : Option (Lived ℕ)) → IsPossible c n a b → IsTouchedBy c n a b → (x : ℕ) × IsBlocker c n a b x
  touched_is_blocked a b possible (inr (v, l, serve, changed)) = let (x, e) = changed_without l.life changed in (x, inr (inr (v, l, serve, e)))
  touched_is_blocked a b possible (inl fresh) = by (or_cases n.first.fresh (is_fresh n.second) fresh)
    where
      second : (w : Option VersionId) (m : Option (Lived ℕ)) → IsBesideIfAny c n.first a w m → is_fresh w ≡ true → (x : ℕ) × IsLifeOf (With x) m
      second None m is new = absurd (cc)
      second (Some w) None is new = absurd is
      second (Some w) (Some m) is new = let (x, e) = new_with w m is.is new in (x, sym e)

      by : (n.first.fresh ≡ true) ⊎ (is_fresh n.second ≡ true) → (x : ℕ) × IsBlocker c n a b x
      by (inl new) = let (x, e) = new_with n.first a possible.first_is new in (x, inl e)
      by (inr new) = let (x, e) = second n.second b possible.second_is new in (x, inr (inl e))
