-- Where each touched need is covered, the root with the changes of more members over it breaks no need but those that it breaks with fewer.
-- An old subject that stands with more stands with fewer, and what serves with fewer stands with more, or a member changes it and so touches the need.
use Rattle.std.proofs.Common.{◌≡◌, ◌∙◌, true, false, not, List, [], inl, inr, refl, sym, ap, subst, Option, Some, None}
use Rattle.std.proofs.lemmas.Bool.{cases_Bool, false≢true, or_left, or_right}
use Rattle.clr_rules.specs.Needs.{BreaksNoMore, Holds, View}
use Rattle.clr_needs.specs.declared.needs.Need.{Need}
use Rattle.clr_needs.specs.declared.needs.VersionId.{VersionId}
use Rattle.clr_needs.specs.Covers.{AreCovered, Entry, IsLifeOf}
use Rattle.clr_needs.specs.Needs.{IsBesideIfAny, IsPossible, IsTouchedBy, is_fresh}
use Rattle.clr_needs.specs.Settings.{Setting, AreDisjoint, AreAmong, Lifetime, Always, With, Without, Lived, has, version, view_with}
use Rattle.clr_needs.proofs.Merges.{IsMerge, none_merged, root_is}
use Rattle.clr_needs.proofs.Lives.{lives, old_lives}
use Rattle.clr_needs.proofs.Meetings.{HasServer, IsKeptIn, IsStandingNeed, IsSubjectLife, entry_serves, is_need, met_by, no_more_where_met, server_of}

module _ {A : Type 0} (c : Setting A) where
  -- a covered setting
  pub record IsCoveredSetting (es : List Entry) : Type 0 where
    pub apart : AreDisjoint c
    pub covered : AreCovered c es

  module _ (fewer more : List A) (part : AreAmong c fewer more) where
    -- whom more leave out, fewer leave out too
    left_out : (m : A) → not (has c.same more m) ≡ true → not (has c.same fewer m) ≡ true
    left_out m out = elim (cases_Bool (has c.same fewer m)) [
      | inl in_fewer ↦ absurd (false≢true (ap not (sym (part m in_fewer)) ∙ out))
      | inr out_too ↦ ap not out_too
    ]

    -- an old version that lives with more lives with fewer
    old_lives_in_fewer : (v : VersionId) (l : Lived A) → version c v ≡ Some l → v.fresh ≡ false → lives c more l.life ≡ true → lives c fewer l.life ≡ true
    old_lives_in_fewer v l is old living = by l.life refl
      where
        by : (life : Lifetime A) → l.life ≡ life → lives c fewer l.life ≡ true
        by Always e = ap (lives c fewer) e
        by (With m) e = absurd (false≢true (sym (ap (lives c []) e) ∙ old_lives c v l is old))
        by (Without m) e = ap (lives c fewer) e ∙ left_out m (sym (ap (lives c more) e) ∙ living)

    module _ (n : Need) (a : Lived A) (b : Option (Lived A)) (possible : IsPossible c n a b) where
      -- old subjects that live with more live with fewer
      old_subjects_live : ((l : Lifetime A) → IsSubjectLife c a b l → lives c more l ≡ true) → n.first.fresh ≡ false → is_fresh n.second ≡ false
          → (l : Lifetime A) → IsSubjectLife c a b l → lives c fewer l ≡ true
      old_subjects_live live first second l (inl e) = ap (lives c fewer) e ∙ old_lives_in_fewer n.first a possible.first_is first (live a.life (inl refl))
      old_subjects_live live first second l (inr h) = beside n.second b possible.second_is second h (λ k e. live k (inr e))
        where
          beside : (w : Option VersionId) (m : Option (Lived A)) → IsBesideIfAny c n.first a w m → is_fresh w ≡ false → IsLifeOf l m
              → ((k : Lifetime A) → IsLifeOf k m → lives c more k ≡ true) → lives c fewer l ≡ true
          beside None None is old e live = absurd e
          beside None (Some m) is old e live = absurd is
          beside (Some w) None is old e live = absurd is
          beside (Some w) (Some m) is old e live = ap (lives c fewer) e ∙ old_lives_in_fewer w m is.is old (live m.life refl)

      -- a need of old subjects that fewer keep has a server with fewer
      pub fewer_serve : IsMerge c fewer → IsStandingNeed c more n a b → IsKeptIn c (view_with c fewer) n a b → n.first.fresh ≡ false
          → is_fresh n.second ≡ false → HasServer c fewer n a b
      fewer_serve merge need kept first second =
          let now : IsStandingNeed c fewer n a b = record { possible = possible; live = old_subjects_live need.live first second } in
          server_of c fewer n a b merge (kept (is_need c fewer n a b merge now))

      module _ (es : List Entry) (setting : IsCoveredSetting es) (need : IsStandingNeed c more n a b) where
        touched_is_served : IsTouchedBy c n a b → HasServer c more n a b
        touched_is_served is = entry_serves c more n a b need es (setting.covered n a b possible is)

        -- what serves with fewer stays, or a member changes it and so touches the need
        server_of_fewer : HasServer c fewer n a b → HasServer c more n a b
        server_of_fewer s = by s.lived.life refl
          where
            by : (l : Lifetime A) → s.lived.life ≡ l → HasServer c more n a b
            by Always e = record { id = s.id; lived = s.lived; serves = s.serves; lives = ap (lives c more) e }
            by (With m) e = record {
              id = s.id;
              lived = s.lived;
              serves = s.serves;
              lives = ap (lives c more) e ∙ part m (sym (ap (lives c fewer) e) ∙ s.lives);
            }
            by (Without m) e = touched_is_served (inr (s.id, s.lived, s.serves, rw e tt))

        standing_is_served : IsMerge c fewer → IsKeptIn c (view_with c fewer) n a b → HasServer c more n a b
        standing_is_served merge kept = elim (cases_Bool n.first.fresh) [
          | inl new ↦ touched_is_served (inl (or_left n.first.fresh (is_fresh n.second) new))
          | inr old ↦ elim (cases_Bool (is_fresh n.second)) [
            | inl new ↦ touched_is_served (inl (or_right n.first.fresh (is_fresh n.second) new))
            | inr old_too ↦ server_of_fewer (fewer_serve merge need kept old old_too)
          ]
        ]

  pub covered_breaks_no_more : (es : List Entry) → IsCoveredSetting es → (fewer more : List A) → AreAmong c fewer more → AreAmong c more c.members
      → BreaksNoMore c.rules (view_with c fewer) (view_with c more)
  covered_breaks_no_more es setting fewer more part members =
      let merge : IsMerge c more = record { apart = setting.apart; part = members } in
      let merge_too : IsMerge c fewer = record { apart = setting.apart; part = λ m h. members m (part m h) } in
      no_more_where_met c (view_with c fewer) more merge
      (λ n a b need kept. met_by c more n a b merge (standing_is_served fewer more part n a b need.possible es setting need merge_too kept))

  -- the root breaks what it breaks without any member
  pub of_root : (ts : List A) → BreaksNoMore c.rules (view_with c []) (view_with c ts) → BreaksNoMore c.rules c.root (view_with c ts)
  of_root ts h = subst (λ (view : View). BreaksNoMore c.rules view (view_with c ts)) (λ i q. root_is c q i) h

  pub covered_breaks_no_more_than_root : (es : List Entry) → IsCoveredSetting es → (ts : List A) → AreAmong c ts c.members
      → BreaksNoMore c.rules c.root (view_with c ts)
  covered_breaks_no_more_than_root es setting ts members = of_root ts (covered_breaks_no_more es setting [] ts (λ m h. absurd (false≢true h)) members)

  pub covered_holds : (es : List Entry) → IsCoveredSetting es → Holds c.rules c.root → (ts : List A) → AreAmong c ts c.members
      → Holds c.rules (view_with c ts)
  covered_holds es setting holds ts members ask first second need =
      covered_breaks_no_more_than_root es setting ts members ask first second (λ now. holds ask first second now) need

  -- a need of old subjects that the root keeps has a server in it
  pub root_server : (n : Need) (a : Lived A) (b : Option (Lived A)) → IsPossible c n a b → AreDisjoint c → IsKeptIn c c.root n a b
      → n.first.fresh ≡ false → is_fresh n.second ≡ false → HasServer c [] n a b
  root_server n a b possible apart kept first second =
      let merge = none_merged c apart in
      let kept_too : IsKeptIn c (view_with c []) n a b = subst (λ (view : View). IsKeptIn c view n a b) (λ i q. sym (root_is c q) i) kept in
      let now : IsStandingNeed c [] n a b = record { possible = possible; live = subjects_live } in
      server_of c [] n a b merge (kept_too (is_need c [] n a b merge now))
    where
      subjects_live : (l : Lifetime A) → IsSubjectLife c a b l → lives c [] l ≡ true
      subjects_live l (inl e) = ap (lives c []) e ∙ old_lives c n.first a possible.first_is first
      subjects_live l (inr h) = beside n.second b possible.second_is second h
        where
          beside : (w : Option VersionId) (m : Option (Lived A)) → IsBesideIfAny c n.first a w m → is_fresh w ≡ false → IsLifeOf l m → lives c [] l ≡ true
          beside None None is old e = absurd e
          beside None (Some m) is old e = absurd is
          beside (Some w) None is old e = absurd is
          beside (Some w) (Some m) is old e = ap (lives c []) e ∙ old_lives c w m is.is old
