-- A need that nothing covers is broken where its blockers' changes are over the root: its subjects stand there, and what would serve there covers it.
use Rattle.std.proofs.Common.{◌≡◌, ◌∙◌, true, List, ◌⊎◌, inl, inr, refl, sym, ap, subst, Option, Some, None, not}
use Rattle.std.proofs.lemmas.Bool.{cases_Bool, false≢true}
use Rattle.clr_rules.specs.Needs.{BreaksNoMore}
use Rattle.clr_needs.specs.declared.needs.Need.{Need}
use Rattle.clr_needs.specs.declared.needs.VersionId.{VersionId}
use Rattle.clr_needs.specs.Covers.{AreBlockers, IsBlocker, IsLifeOf, IsUncovered}
use Rattle.clr_needs.specs.Independence.{Names}
use Rattle.clr_needs.specs.Needs.{AreOpposed, IsBesideIfAny, IsPossible, IsTouchedBy, Serves}
use Rattle.clr_needs.specs.Settings.{Setting, AreDisjoint, DoChange, Lifetime, Always, With, Without, Lived, has, view_with}
use Rattle.clr_needs.proofs.Merges.{IsMerge}
use Rattle.clr_needs.proofs.Lives.{lives, names_member, opposed_too}
use Rattle.clr_needs.proofs.Meetings.{HasServer, IsStandingNeed, IsSubjectLife, is_need, server_of}
use Rattle.clr_needs.proofs.TouchedLaws.{touched_is_kept}

module _ {A : Type 0} (c : Setting A) where
  itself : (l : Lifetime A) → AreOpposed l l → ⊥
  itself Always h = h
  itself (With n) h = h
  itself (Without n) h = h

  module _ (n : Need) (a : Lived A) (b : Option (Lived A)) (possible : IsPossible c n a b) where
    -- the lives of the subjects of a possible need aren't opposed
    subjects_agree : (l m : Lifetime A) → IsSubjectLife c a b l → IsSubjectLife c a b m → AreOpposed l m → ⊥
    subjects_agree l m h k opposed = by n.second b possible.second_is h k
      where
        by : (w : Option VersionId) (second : Option (Lived A)) → IsBesideIfAny c n.first a w second → IsSubjectLife c a second l → IsSubjectLife c a second m →
            ⊥
        by w second is (inl e) (inl f) = itself a.life (subst (λ x. AreOpposed x a.life) e (subst (AreOpposed l) f opposed))
        by None None is (inl e) (inr f) = absurd f
        by None None is (inr e) k = absurd e
        by None (Some d) is h k = absurd is
        by (Some w) None is (inl e) (inr f) = absurd f
        by (Some w) None is (inr e) k = absurd e
        by (Some w) (Some d) is (inl e) (inr f) = is.not_opposed (subst (λ x. AreOpposed x d.life) e (subst (AreOpposed l) f opposed))
        by (Some w) (Some d) is (inr e) (inl f) = is.not_opposed
            (opposed_too c d.life a.life (subst (λ x. AreOpposed x a.life) e (subst (AreOpposed l) f opposed)))
        by (Some w) (Some d) is (inr e) (inr f) = itself d.life (subst (λ x. AreOpposed x d.life) e (subst (AreOpposed l) f opposed))

    -- a member that a subject's life names
    subject_names_member : (l : Lifetime A) (x : A) → IsSubjectLife c a b l → Names l x → has c.same c.members x ≡ true
    subject_names_member l x (inl e) names = names_member c n.first a x possible.first_is (subst (λ k. Names k x) e names)
    subject_names_member l x (inr h) names = by n.second b possible.second_is h
      where
        by : (w : Option VersionId) (second : Option (Lived A)) → IsBesideIfAny c n.first a w second → IsLifeOf l second → has c.same c.members x ≡ true
        by None None is e = absurd e
        by None (Some d) is e = absurd is
        by (Some w) None is e = absurd e
        by (Some w) (Some d) is e = names_member c w d x is.is (subst (λ k. Names k x) e names)

  -- the member brings a subject, or takes a serving version away
  abbrev Blocking : Need → Lived A → Option (Lived A) → A → Type 0
  Blocking n a b x = IsSubjectLife c a b (With x) ⊎ ((v : VersionId) × (l : Lived A) × Serves c n a b v l × (l.life ≡ Without x))

  blocker_is : (n : Need) (a : Lived A) (b : Option (Lived A)) (x : A) → IsBlocker c n a b x → Blocking n a b x
  blocker_is n a b x (inl e) = inl (inl (sym e))
  blocker_is n a b x (inr (inl h)) = inl (inr h)
  blocker_is n a b x (inr (inr s)) = inr s

  with_subject : (n : Need) (a : Lived A) (b : Option (Lived A)) (x : A) → IsSubjectLife c a b (With x) → IsBlocker c n a b x
  with_subject n a b x (inl e) = inl (sym e)
  with_subject n a b x (inr h) = inr (inl h)

  module _ (n : Need) (a : Lived A) (b : Option (Lived A)) (ts : List A) (uncovered : IsUncovered c n a b) (blockers : AreBlockers c n a b ts) where
    blocks : (x : A) → has c.same ts x ≡ true → Blocking n a b x
    blocks x h = blocker_is n a b x (blockers.only x h)

    -- no version serves that lasts as long as a subject
    none_lasts : (v : VersionId) (l : Lived A) (life : Lifetime A) → Serves c n a b v l → l.life ≡ life → IsSubjectLife c a b life → ⊥
    none_lasts v l life serve e h = uncovered.not_alone v (l, serve, inr (subst (IsSubjectLife c a b) (sym e) h))

    -- the blockers are merged with each member that a subject needs, and without each that takes a subject away
    subjects_live : (l : Lifetime A) → IsSubjectLife c a b l → lives c ts l ≡ true
    subjects_live Always h = refl
    subjects_live (With x) h = blockers.every x (subject_names_member n a b uncovered.possible (With x) x h refl) (with_subject n a b x h)
    subjects_live (Without x) h = elim (cases_Bool (has c.same ts x)) [
      | inl merged ↦ absurd (no_blocker (blocks x merged))
      | inr out ↦ ap not out
    ]
      where
        no_blocker : Blocking n a b x → ⊥
        no_blocker (inl with) = subjects_agree n a b uncovered.possible (With x) (Without x) with h refl
        no_blocker (inr (v, l, serve, e)) = none_lasts v l (Without x) serve e h

    -- what serves where the blockers are merged would cover the need
    none_serves : HasServer c ts n a b → ⊥
    none_serves s = by s.lived.life refl
      where
        none_with : (x : A) → s.lived.life ≡ With x → Blocking n a b x → ⊥
        none_with x e (inl with) = none_lasts s.id s.lived (With x) s.serves e with
        none_with x e (inr (v, l, serve, f)) = uncovered.not_together s.id v (
          s.lived,
          l,
          s.serves,
          serve,
          subst (λ k. AreOpposed k l.life) (sym e)
              (subst (AreOpposed (With x)) (sym f) refl),
        )

        by : (life : Lifetime A) → s.lived.life ≡ life → ⊥
        by Always e = uncovered.not_alone s.id (s.lived, s.serves, inl e)
        by (With x) e = none_with x e (blocks x (sym (ap (lives c ts) e) ∙ s.lives))
        by (Without x) e =
            let member = names_member c s.id s.lived x s.serves.is (subst (λ k. Names k x) (sym e) refl) in
            let merged = blockers.every x member (inr (inr (s.id, s.lived, s.serves, e))) in
            false≢true (sym (ap not merged) ∙ sym (ap (lives c ts) e) ∙ s.lives)

    pub uncovered_breaks : AreDisjoint c → DoChange c → IsTouchedBy c n a b → BreaksNoMore c.rules c.root (view_with c ts) → ⊥
    uncovered_breaks apart changes touched no_more =
        let merge : IsMerge c ts = record { apart = apart; part = blockers.part } in
        let need : IsStandingNeed c ts n a b = record { possible = uncovered.possible; live = subjects_live } in
        none_serves (server_of c ts n a b merge
        (no_more _ _ _ (touched_is_kept c changes n a b uncovered.possible touched) (is_need c ts n a b merge need)))
