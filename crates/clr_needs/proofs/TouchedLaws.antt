-- A touched need is kept by the root: a new subject doesn't stand there, and an old server that a member changes does.
use Rattle.std.proofs.Common.{◌≡◌, ◌∙◌, inl, inr, Bool, true, false, sym, ap, subst, Option, Some, None}
use Rattle.std.proofs.lemmas.Bool.{false≢true, or_cases}
use Rattle.clr_rules.specs.Needs.{Stands, StandsBeside}
use Rattle.clr_needs.specs.declared.needs.Need.{Need}
use Rattle.clr_needs.specs.declared.needs.VersionId.{VersionId}
use Rattle.clr_needs.specs.Needs.{IsBesideIfAny, IsChanged, IsPossible, IsTouchedBy, held_if_any, is_fresh}
use Rattle.clr_needs.specs.Settings.{Setting, DoChange, Lived, changer, held_row, version}
use Rattle.clr_needs.proofs.Lives.{new_is, old_is, version_by, version_by_changer}
use Rattle.clr_needs.proofs.Merges.{IsChanger, changer_is}
use Rattle.clr_needs.proofs.Meetings.{IsKeptIn}

module _ {A : Type 0} (c : Setting A) (changes : DoChange c) where
  -- a new version doesn't stand in the root
  new_stands_not : (v : VersionId) (l : Lived A) → version c v ≡ Some l → v.fresh ≡ true → Stands c.root (held_row v l) → ⊥
  new_stands_not v l is new stands = by (changer c v.cell) (changer_is c v.cell)
      (ap (λ f. version_by c f v.cell (changer c v.cell)) (sym new) ∙ sym (version_by_changer c v) ∙ is)
    where
      by : (x : Option A) → IsChanger c c.members v.cell x → version_by c true v.cell x ≡ Some l → ⊥
      by None k e = cc
      by (Some m) k e = changes m v.cell (Some l.row) k.0 (new_is c m (c.after m v.cell) l e).0 (sym stands)

  -- a version that a member changes stands in the root
  changed_stands : (v : VersionId) (l : Lived A) → version c v ≡ Some l → IsChanged l.life → Stands c.root (held_row v l)
  changed_stands v l is changed = by v.fresh (changer c v.cell) (sym (version_by_changer c v) ∙ is)
    where
      by : (fresh : Bool) (x : Option A) → version_by c fresh v.cell x ≡ Some l → Stands c.root (held_row v l)
      by false x e = (old_is c x (c.root v.cell) l e).0
      by true None e = cc
      by true (Some m) e = absurd (subst IsChanged ((new_is c m (c.after m v.cell) l e).1) changed)

  pub touched_is_kept : (n : Need) (a : Lived A) (b : Option (Lived A)) → IsPossible c n a b → IsTouchedBy c n a b → IsKeptIn c c.root n a b
  touched_is_kept n a b possible (inl new) need = absurd (elim (or_cases n.first.fresh (is_fresh n.second) new) [
    | inl first ↦ new_stands_not n.first a possible.first_is first need.stands
    | inr second ↦ beside n.second b possible.second_is second need.beside
  ])
    where
      beside : (w : Option VersionId) (m : Option (Lived A)) → IsBesideIfAny c n.first a w m → is_fresh w ≡ true
          → StandsBeside c.root (held_row n.first a) (held_if_any w m) → ⊥
      beside None m is e stands = false≢true e
      beside (Some w) None is e stands = is
      beside (Some w) (Some m) is e stands = new_stands_not w m is.is e stands.0
  touched_is_kept n a b possible (inr (v, l, serve, changed)) need = (held_row v l, changed_stands v l serve.is changed, serve.it_serves)
