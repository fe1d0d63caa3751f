-- The needs that are added are touched, and each touched one is added.
use Rattle.std.proofs.Common.{◌≡◌, ◌∙◌, ℕ, Bool, true, false, List, ◌⊎◌, inl, inr, Option, Some, None, refl, sym, ap, subst}
use Rattle.std.specs.Option.{option_map}
use Rattle.std.proofs.lemmas.Bool.{and_from, and_parts, false≢true}
use Rattle.clr_rules.specs.Calls.{calls, serves}
use Rattle.clr_spots.specs.Spots.{are_sharing}
use Rattle.clr_finders.specs.Sharing.{may_serve_under}
use Rattle.clr_rows.specs.Held.{Held}
use Rattle.clr_rows.specs.Cells.{cell_cmp}
use Rattle.clr_needs.specs.declared.needs.Need.{Need}
use Rattle.clr_needs.specs.declared.needs.VersionId.{VersionId}
use Rattle.clr_row_versions.specs.declared.versions.Version.{Version}
use Rattle.clr_row_versions.specs.Candidates.{IsNeedAmong, IsNeedBetween, IsNeedOf, IsNeedOfPair, IsNeedServedBy, IsNeedWith, id_of, may_be_paired, serves_if_any}
use Rattle.clr_needs.specs.Needs.{AreOpposed, IsBeside, IsBesideIfAny, IsPossible, Serves, ask_of, held_if_any}
use Rattle.clr_needs.specs.Settings.{Setting, Lived, held_row, version}
use Rattle.clr_row_versions.specs.Serving.{IsNeverServed}
use Rattle.clr_foot.specs.Serving.{MayBeServed}
use Rattle.clr_foot.specs.Touches.{IsNeighbour, IsNeedServedAmong, may_be_subject}
use Rattle.clr_row_versions.specs.Versions.{AreAt, FindsAll, FitsSetting, HasVersion, IsAt, row_and_life, row_of}
use Rattle.clr_row_versions.proofs.CandidateLaws.{they_call}
use Rattle.clr_row_versions.proofs.CandidateLaws.{both_paired}
use Rattle.clr_foot.proofs.SharingLaws.{is_second_subject, is_subject, may_serve_there, near_all, server_near, server_near_second, subjects_near}

held_named : (t : Option Version) → held_if_any (option_map id_of t) (option_map row_and_life t) ≡ option_map row_of t
held_named None = refl
held_named (Some t) = refl

module _ (c : Setting ℕ) where
  pub lived_is : (v : Version) (id : VersionId) (l : Lived ℕ) → v.id ≡ id → IsAt c v → version c id ≡ Some l → row_and_life v ≡ l
  lived_is v id l same at is = let e : Some (row_and_life v) ≡ Some l = sym at ∙ ap (version c) same ∙ is in cc

  -- ---- the needs of versions are possible

  module _ (number : ℕ) (r : Option Version) (s : Version) (at : IsAt c s) where
    rows_call : (t : Option Version) (n : Need) → IsNeedOf c.rules number r s t n
        → calls c.rules (ask_of n) (held_row n.first (row_and_life s)) (held_if_any n.second (option_map row_and_life t)) ≡ true
    rows_call t n w =
        (λ i. calls c.rules (ask_of n) ((w.first i).cell, s.row.now) (held_if_any (w.second i) (option_map row_and_life t)))
        ∙ ap (calls c.rules (ask_of n) (row_of s)) (held_named t) ∙ they_call c.rules number r s t n w

    pub alone_possible : (n : Need) → IsNeedOf c.rules number r s None n → IsPossible c n (row_and_life s) None
    alone_possible n w = record {
      first_is = ap (version c) w.first ∙ at;
      second_is = subst (λ x. IsBesideIfAny c n.first (row_and_life s) x None) (sym w.second) tt;
      they_call = rows_call None n w;
    }

    pub pair_possible : (t : Version) (n : Need) → IsAt c t → IsNeedBetween c.rules number r s t n → IsPossible c n (row_and_life s) (Some (row_and_life t))
    pair_possible t n at_too w = record {
      first_is = ap (version c) w.need.first ∙ at;
      second_is = subst (λ x. IsBesideIfAny c n.first (row_and_life s) x (Some (row_and_life t))) (sym w.need.second) beside;
      they_call = rows_call (Some t) n w.need;
    }
      where
        beside : IsBeside c n.first (row_and_life s) t.id (row_and_life t)
        beside = record { is = at_too; ascending = ap (λ v. cell_cmp v.cell t.id.cell) w.need.first ∙ w.ascending; not_opposed = w.not_opposed }

  -- the server serves them
  server_serves : (number : ℕ) (r s : Version) (t : Option Version) (n : Need) → IsAt c r → IsNeedOf c.rules number (Some r) s t n
      → Serves c n (row_and_life s) (option_map row_and_life t) r.id (row_and_life r)
  server_serves number r s t n at w = record {
    is = at;
    it_serves = (λ i. serves c.rules (ask_of n) ((w.first i).cell, s.row.now) (held_if_any (w.second i) (option_map row_and_life t)) (row_of r))
        ∙ ap (λ h. serves c.rules (ask_of n) (row_of s) h (row_of r)) (held_named t)
        ∙ (and_parts (serves_if_any c.rules (ask_of n) s t (Some r)) _ w.asked).0;
  }

  -- ---- what is added is a need with the version, or one that it serves

  module _ (number : ℕ) (v : Version) (at : IsAt c v) where
    pub alone_with : (n : Need) → IsNeedOf c.rules number None v None n → IsNeedWith c number v.id n
    alone_with n w = (w.rule, inl w.first, row_and_life v, None, alone_possible number None v at n w)

    pub among_with : (others : List Version) (n : Need) → AreAt c others → IsNeedAmong c.rules number None v others n → IsNeedWith c number v.id n
    among_with others n are (t, h, inl w) = (
      w.need.rule,
      inl w.need.first,
      row_and_life v,
      Some (row_and_life t),
      pair_possible number None v at t n
          (are t h) w,
    )
    among_with others n are (t, h, inr w) = (
      w.need.rule,
      inr w.need.second,
      row_and_life t,
      Some (row_and_life v),
      pair_possible number None t (are t h) v n at
          w,
    )

    pub among_served : (near : List Version) (n : Need) → AreAt c near → IsNeedServedAmong c.rules number v near near n → IsNeedServedBy c number v.id n
    among_served near n are (s, h, inl w) =
        (w.rule, row_and_life s, None, row_and_life v, alone_possible number (Some v) s (are s h) n w, server_serves number v s None n at w)
    among_served near n are (s, h, inr (t, k, inl w)) = (
      w.need.rule,
      row_and_life s,
      Some (row_and_life t),
      row_and_life v,
      pair_possible number (Some v) s (are s h) t n (are t k) w,
      server_serves number v s
          (Some t) n at w.need,
    )
    among_served near n are (s, h, inr (t, k, inr w)) = (
      w.need.rule,
      row_and_life t,
      Some (row_and_life s),
      row_and_life v,
      pair_possible number (Some v) t (are t k) s n (are s h) w,
      server_serves number v t
          (Some s) n at w.need,
    )

  -- ---- possible needs are those of their versions

  -- a need by its versions
  need_of_versions : (number : ℕ) (r : Option Version) (s : Version) (t : Option Version) (n : Need) (a : Lived ℕ) (b : Option (Lived ℕ))
      → n.rule ≡ number
      → s.id ≡ n.first
      → option_map id_of t ≡ n.second
      → row_and_life s ≡ a
      → option_map row_and_life t ≡ b
      → calls c.rules (ask_of n) (held_row n.first a) (held_if_any n.second b) ≡ true
      → serves_if_any c.rules (ask_of n) s t r ≡ true
      → IsNeedOf c.rules number r s t n
  need_of_versions number r s t n a b rule first second row rows called serve = record {
    rule = rule;
    first = sym first;
    second = sym second;
    asked = and_from (serves_if_any c.rules (ask_of n) s t r) _ serve
        (sym (ap (calls c.rules (ask_of n) (row_of s)) (held_named t))
        ∙ (λ i. calls c.rules (ask_of n) ((first i).cell, (row i).row) (held_if_any (second i) (rows i))) ∙ called);
  }

  serves_versions : (r s : Version) (t : Option Version) (n : Need) (a : Lived ℕ) (b : Option (Lived ℕ)) (l : Lived ℕ)
      → s.id ≡ n.first
      → option_map id_of t ≡ n.second
      → row_and_life s ≡ a
      → option_map row_and_life t ≡ b
      → row_and_life r ≡ l
      → serves c.rules (ask_of n) (held_row n.first a) (held_if_any n.second b) (held_row r.id l) ≡ true
      → serves_if_any c.rules (ask_of n) s t (Some r) ≡ true
  serves_versions r s t n a b l first second row rows server serve =
      sym (ap (λ h. serves c.rules (ask_of n) (row_of s) h (row_of r)) (held_named t))
      ∙ (λ i. serves c.rules (ask_of n) ((first i).cell, (row i).row) (held_if_any (second i) (rows i)) (r.id.cell, (server i).row)) ∙ serve

  -- two versions in the order of their cells
  pub need_between : (number : ℕ) (r : Option Version) (s t : Version) (n : Need) (a : Lived ℕ) (w : VersionId) (b : Lived ℕ)
      → n.rule ≡ number
      → s.id ≡ n.first
      → t.id ≡ w
      → n.second ≡ Some w
      → IsAt c s
      → IsAt c t
      → version c n.first ≡ Some a
      → IsBeside c n.first a w b
      → calls c.rules (ask_of n) (held_row n.first a) (Some (held_row w b)) ≡ true
      → (row_and_life s ≡ a → row_and_life t ≡ b → serves_if_any c.rules (ask_of n) s (Some t) r ≡ true)
      → IsNeedBetween c.rules number r s t n
  need_between number r s t n a w b rule first same second at at_too is beside called serve =
      let row = lived_is s n.first a first at is in
      let rows = lived_is t w b same at_too beside.is in
      record {
        ascending = (λ i. cell_cmp (first i).cell (same i).cell) ∙ beside.ascending;
        not_opposed = subst (λ l. ¬ (AreOpposed l.life (row_and_life t).life)) (sym row) (subst (λ l. ¬ (AreOpposed a.life l.life)) (sym rows)
            beside.not_opposed);
        need = need_of_versions number r s (Some t) n a (Some b) rule first (ap Some same ∙ sym second) row (ap Some rows)
            (ap (λ x. calls c.rules (ask_of n) (held_row n.first a) (held_if_any x (Some b))) second ∙ called) (serve row rows);
      }

  -- what is near a version's row is near the version
  near_of : (v : Version) (id : VersionId) (l : Lived ℕ) (s : Held) (number rule : ℕ) → rule ≡ number → v.id ≡ id → row_and_life v ≡ l
      → IsNeighbour false c.rules rule (held_row id l) s → IsNeighbour false c.rules number (row_of v) s
  near_of v id l s number rule is same row near =
      subst (λ h. IsNeighbour false c.rules number h s) (λ i. ((sym same i).cell, (sym row i).row))
      (subst (λ k. IsNeighbour false c.rules k (held_row id l) s) is near)

  -- a need with a version alone
  alone_found : (number : ℕ) (v : Version) (at : IsAt c v) (n : Need) (a : Lived ℕ) → n.rule ≡ number → n.first ≡ v.id → n.second ≡ None → version c n.first
      ≡ Some a
      → calls c.rules (ask_of n) (held_row n.first a) None ≡ true → IsNeedOf c.rules number None v None n
  alone_found number v at n a rule first second is called =
      need_of_versions number None v None n a None rule (sym first) (sym second) (lived_is v n.first a (sym first) at is) refl
      (ap (λ w. calls c.rules (ask_of n) (held_row n.first a) (held_if_any {A = ℕ} w None)) second ∙ called) refl

  -- a need with a version that is of no side of two subjects is that of the version alone
  pub alone_of_one : (number : ℕ) (v : Version) (at : IsAt c v) (told : Bool) → told ≡ may_be_paired c.rules number (row_of v) → told ≡ false → (n : Need)
      → IsNeedWith c number v.id n
      → IsNeedOf c.rules number None v None n
  alone_of_one number v at told is fails n (rule, subject, a, b, p) = by n.second b refl p.second_is p.they_call subject
    where
      paired : (id : VersionId) (l : Lived ℕ) → v.id ≡ id → version c id ≡ Some l → may_be_paired c.rules n.rule (held_row id l) ≡ true → ⊥
      paired id l same there may =
          let row = lived_is v id l same at there in
          false≢true (sym fails ∙ is ∙ (λ i. may_be_paired c.rules (sym rule i) ((same i).cell, (row i).row)) ∙ may)

      by : (w : Option VersionId) (b : Option (Lived ℕ)) → n.second ≡ w → IsBesideIfAny c n.first a w b
          → calls c.rules (ask_of n) (held_row n.first a) (held_if_any {A = ℕ} w b) ≡ true
          → (n.first ≡ v.id) ⊎ (n.second ≡ Some v.id) → IsNeedOf c.rules number None v None n
      by None None second beside called (inl e) = alone_found number v at n a rule e second p.first_is called
      by None None second beside called (inr e) = let clash : None ≡ Some v.id = sym second ∙ e in cc
      by None (Some b) second beside called subject = absurd beside
      by (Some w) None second beside called subject = absurd beside
      by (Some w) (Some b) second beside called (inl e) =
          absurd (paired n.first a (sym e) p.first_is (both_paired c.rules (ask_of n) (held_row n.first a) (held_row w b) called).0)
      by (Some w) (Some b) second beside called (inr e) =
          let same : v.id ≡ w = let both : Some v.id ≡ Some w = sym e ∙ second in cc in
          absurd (paired w b same beside.is (both_paired c.rules (ask_of n) (held_row n.first a) (held_row w b) called).1)

  module _ (fits : FitsSetting c) (number : ℕ) (v : Version) (at : IsAt c v) (near : List Version) (P : VersionId → Type 0) (are : AreAt c near)
      (every : (id : VersionId) (l : Lived ℕ) → P id → version c id ≡ Some l → IsNeighbour false c.rules number (row_of v) (held_row id l)
      → HasVersion near id) where
    -- a need with a version is found: it stands alone, or beside one that is near
    abbrev pub IsFound : Need → Type 0
    IsFound n = IsNeedOf c.rules number None v None n ⊎ IsNeedAmong c.rules number None v near n

    need_is_found : (n : Need) (id : VersionId) → ((t : Version) → t.id ≡ id → IsAt c t → IsNeedOfPair c.rules number None v t n) → HasVersion near id
        → IsFound n
    need_is_found n id pair (t, h, e) = inr (t, h, pair t e (are t h))

    -- the other subject is one of those that are looked for, so it is near, and in either order the two make the need
    pub with_found : (n : Need) → IsNeedWith c number v.id n → ((w : VersionId) → n.first ≡ v.id → n.second ≡ Some w → P w) → (n.second ≡ Some v.id → P n.first)
        → IsFound n
    with_found n (rule, subject, a, b, p) second_sought first_sought = by n.second b refl p.second_is p.they_call subject
      where
        by : (w : Option VersionId) (b : Option (Lived ℕ)) → n.second ≡ w → IsBesideIfAny c n.first a w b
            → calls c.rules (ask_of n) (held_row n.first a) (held_if_any {A = ℕ} w b) ≡ true
            → (n.first ≡ v.id) ⊎ (n.second ≡ Some v.id) → IsFound n
        by None None second beside called (inl e) = inl (alone_found number v at n a rule e second p.first_is called)
        by None None second beside called (inr e) = let clash : None ≡ Some v.id = sym second ∙ e in cc
        by None (Some b) second beside called subject = absurd beside
        by (Some w) None second beside called subject = absurd beside
        by (Some w) (Some b) second beside called (inl e) =
            let row = lived_is v n.first a (sym e) at p.first_is in
            let shared = (subjects_near c fits (ask_of n) (held_row n.first a) (held_row w b) called).0 in
            let near = near_of v n.first a (held_row w b) number n.rule rule (sym e) row (near_all c.rules n.rule (held_row n.first a) (held_row w b) shared
            (is_second_subject c.rules (ask_of n) (held_row n.first a) (held_row w b) called)) in
            need_is_found n w (λ t same t_at. inl (need_between number None v t n a w b rule (sym e) same second at t_at p.first_is beside called
            (λ row rows. refl)))
            (every w b (second_sought w e second) beside.is near)
        by (Some w) (Some b) second beside called (inr e) =
            let same : w ≡ v.id = let both : Some w ≡ Some v.id = sym second ∙ e in cc in
            let row = lived_is v w b (sym same) at beside.is in
            let shared = (subjects_near c fits (ask_of n) (held_row n.first a) (held_row w b) called).1 in
            let near = near_of v w b (held_row n.first a) number n.rule rule (sym same) row
            (near_all c.rules n.rule (held_row w b) (held_row n.first a) shared
            (is_subject c.rules (ask_of n) (held_row n.first a) (Some (held_row w b)) called)) in
            need_is_found n n.first (λ t is t_at. inr (need_between number None t v n a w b rule is (sym same) second t_at at p.first_is beside called
            (λ row rows. refl)))
            (every n.first a (first_sought e) p.first_is near)

  -- a need that a version serves is found among those near it
  module _ (number : ℕ) (r : Version) (at : IsAt c r) (near : List Version) (found : FindsAll c (MayBeServed c.rules number (row_of r)) near) where
    pub served_found : (n : Need) → IsNeedServedBy c number r.id n → IsNeedServedAmong c.rules number r near near n
    served_found n (rule, a, b, l, p, v) = by n.second b refl p.second_is p.they_call v.it_serves
      where
        server : row_and_life r ≡ l
        server = lived_is r r.id l refl at v.is

        close : (id : VersionId) (m : Lived ℕ) → are_sharing c.rules n.rule (held_row r.id l) (held_row id m) ≡ true
            → may_be_subject c.rules n.rule id.cell ≡ true → ¬ (IsNeverServed c.rules number (row_of r) (held_row id m))
            → MayBeServed c.rules number (row_of r) (held_row id m)
        close id m shared subject served = (
          near_of r r.id l (held_row id m) number n.rule rule refl server (near_all c.rules n.rule (held_row r.id l) (held_row id m)
              shared subject),
          served,
        )

        its_row : (s : Held) (t : Option Held) → serves c.rules (ask_of n) s t (held_row r.id l) ≡ true → serves c.rules (ask_of n) s t (row_of r) ≡ true
        its_row s t serve = (λ i. serves c.rules (ask_of n) s t (r.id.cell, (server i).row)) ∙ serve

        first_served : (t : Option Held) → serves c.rules (ask_of n) (held_row n.first a) t (held_row r.id l) ≡ true
            → ¬ (IsNeverServed c.rules number (row_of r) (held_row n.first a))
        first_served t serve never = never.first (ask_of n) t rule (its_row (held_row n.first a) t serve)

        second_served : (t : Held) → serves c.rules (ask_of n) (held_row n.first a) (Some t) (held_row r.id l) ≡ true
            → ¬ (IsNeverServed c.rules number (row_of r) t)
        second_served t serve never = never.second (ask_of n) (held_row n.first a) rule (its_row (held_row n.first a) (Some t) serve)

        by : (w : Option VersionId) (b : Option (Lived ℕ)) → n.second ≡ w → IsBesideIfAny c n.first a w b
            → calls c.rules (ask_of n) (held_row n.first a) (held_if_any {A = ℕ} w b) ≡ true
            → serves c.rules (ask_of n) (held_row n.first a) (held_if_any {A = ℕ} w b) (held_row r.id l) ≡ true → IsNeedServedAmong c.rules number r near near n
        by None (Some b) second beside called serve = absurd beside
        by (Some w) None second beside called serve = absurd beside
        by None None second beside called serve =
            let (s, h, same) = found.every n.first a p.first_is
            (close n.first a (server_near c.rules (ask_of n) (held_row n.first a) None (held_row r.id l) called serve).1
            (is_subject c.rules (ask_of n) (held_row n.first a) None called) (first_served None serve)) in
            let row = lived_is s n.first a same (found.are s h) p.first_is in
            let called_too = ap (λ w. calls c.rules (ask_of n) (held_row n.first a) (held_if_any {A = ℕ} w None)) second ∙ called in
            let serve_too = ap (λ w. serves c.rules (ask_of n) (held_row n.first a) (held_if_any {A = ℕ} w None) (held_row r.id l)) second ∙ serve in (
              s,
              h,
              inl (need_of_versions number (Some r) s None n a None rule same (sym second) row refl called_too
                  (serves_versions r s None n a None l same (sym second) row refl server serve_too)),
            )
        by (Some w) (Some b) second beside called serve =
            let (s, h, same) = found.every n.first a p.first_is
            (close n.first a (server_near c.rules (ask_of n) (held_row n.first a) (Some (held_row w b)) (held_row r.id l) called serve).1
            (is_subject c.rules (ask_of n) (held_row n.first a) (Some (held_row w b)) called) (first_served (Some (held_row w b)) serve)) in
            let (t, k, same_too) = found.every w b beside.is
            (close w b (server_near_second c.rules (ask_of n) (held_row n.first a) (held_row w b) (held_row r.id l) called serve)
            (is_second_subject c.rules (ask_of n) (held_row n.first a) (held_row w b) called) (second_served (held_row w b) serve)) in
            let serve_too = ap (λ w. serves c.rules (ask_of n) (held_row n.first a) (held_if_any {A = ℕ} w (Some b)) (held_row r.id l)) second ∙ serve in (
              s,
              h,
              inr (
                t,
                k,
                inl (need_between number (Some r) s t n a w b rule same same_too second (found.are s h) (found.are t k) p.first_is beside called
                    (λ row rows. serves_versions r s (Some t) n a (Some b) l same (ap Some same_too ∙ sym second) row (ap Some rows) server serve_too)),
              ),
            )

  -- only a version of the side that serves serves any
  pub not_served : (number : ℕ) (r : Version) (at : IsAt c r) (told : Bool) → told ≡ may_serve_under c.rules number (row_of r) → told ≡ false → (n : Need)
      → IsNeedServedBy c number r.id n → ⊥
  not_served number r at told is fails n (rule, a, b, l, p, v) =
      let row = lived_is r r.id l refl at v.is in
      false≢true (sym fails ∙ is ∙ (λ i. may_serve_under c.rules (sym rule i) (r.id.cell, (row i).row))
      ∙ may_serve_there c.rules (ask_of n) (held_row n.first a) (held_if_any n.second b) (held_row r.id l) p.they_call v.it_serves)
