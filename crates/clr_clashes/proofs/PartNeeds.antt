-- A need that nothing covers, in the setting of some members and in that of all: it is uncovered in both where the members of the part hold all that break it.
use Rattle.std.proofs.Common.{◌≡◌, ◌∙◌, [], ◌⊎◌, inl, inr, refl, sym, ap, subst, Option, Some, None}
use Rattle.std.specs.Prelude.{⊤}
use Rattle.std.proofs.lemmas.Bool.{cases_Bool, false≢true, or_left, or_right}
use Rattle.clr_rules.specs.Calls.{calls, serves}
use Rattle.clr_needs.specs.declared.needs.Need.{Need}
use Rattle.clr_needs.specs.declared.needs.VersionId.{VersionId}
use Rattle.clr_needs.specs.Covers.{CoversAlone, CoverTogether, IsBlocker, IsLifeOf, IsUncovered, Lasts}
use Rattle.clr_needs.specs.Needs.{AreOpposed, IsBesideIfAny, IsChanged, IsPossible, IsTouchedBy, Serves, ask_of, held_if_any, is_fresh}
use Rattle.clr_needs.specs.Settings.{Setting, AreDisjoint, Lifetime, Always, With, Without, Lived, held_row, version}
use Rattle.clr_needs.proofs.CoverLaws.{root_server}
use Rattle.clr_needs.proofs.Lives.{lives}
use Rattle.clr_needs.proofs.Meetings.{HasServer}
use Rattle.clr_needs.proofs.PartLaws.{IsPart, opposed_down}
use Rattle.clr_needs.proofs.PartLives.{IsHidden, IsInside, IsLifeIn, IsSecondIn, IsVersionIn, IsVersionOfPart}

module _ {A B : Type 0} (c : Setting B) (d : Setting A) (stands : A → B → Type 0) (part : IsPart c d stands) where
  -- ---- lives

  -- nobody outside takes the version away
  abbrev IsKept : Lifetime B → Type 0
  IsKept m = (y : B) → m ≡ Without y → IsInside stands y

  opposed_up : (l k : Lifetime A) (m o : Lifetime B) → IsLifeIn stands l m → IsLifeIn stands k o → AreOpposed l k → AreOpposed m o
  opposed_up (With x) (Without z) (With y) (Without w) h j e = part.one.one_right x y w h (subst (λ u. stands u w) (sym e) j)
  opposed_up (Without x) (With z) (Without y) (With w) h j e = part.one.one_right x y w h (subst (λ u. stands u w) (sym e) j)
  opposed_up (With x) (Without z) (With y) _ h j e = absurd j
  opposed_up (With x) (Without z) _ o h j e = absurd h
  opposed_up (Without x) (With z) (Without y) _ h j e = absurd j
  opposed_up (Without x) (With z) _ o h j e = absurd h
  opposed_up _ _ m o h j e = absurd e

  always_up : (m : Lifetime B) → IsLifeIn stands Always m → IsKept m → m ≡ Always
  always_up Always h kept = refl
  always_up (Without y) h kept = absurd (h (kept y refl))
  always_up (With y) h kept = absurd h

  pub with_up : (x : A) (m : Lifetime B) → IsLifeIn stands (With x) m → (y : B) × (m ≡ With y) × stands x y
  with_up x (With y) h = (y, refl, h)
  with_up x _ h = absurd h

  pub without_up : (x : A) (m : Lifetime B) → IsLifeIn stands (Without x) m → (y : B) × (m ≡ Without y) × stands x y
  without_up x (Without y) h = (y, refl, h)
  without_up x _ h = absurd h

  -- versions of one life in the part are of one life in the whole, or always stand there
  same_up : (l k : Lifetime A) (m o : Lifetime B) → IsLifeIn stands l m → IsLifeIn stands k o → IsKept m → l ≡ k → (m ≡ Always) ⊎ (m ≡ o)
  same_up Always k m o h j kept e = inl (always_up m h kept)
  same_up (With x) k m o h j kept e =
      let (y, f, is) = with_up x m h in
      let (w, g, its) = with_up x o (subst (λ u. IsLifeIn stands u o) (sym e) j) in
      inr (f ∙ ap With (part.one.one_right x y w is its) ∙ sym g)
  same_up (Without x) k m o h j kept e =
      let (y, f, is) = without_up x m h in
      let (w, g, its) = without_up x o (subst (λ u. IsLifeIn stands u o) (sym e) j) in
      inr (f ∙ ap Without (part.one.one_right x y w is its) ∙ sym g)

  always_down : (l : Lifetime A) → IsLifeIn stands l Always → l ≡ Always
  always_down Always h = refl
  always_down _ h = absurd h

  pub with_down : (l : Lifetime A) (y : B) → IsLifeIn stands l (With y) → (x : A) × (l ≡ With x) × stands x y
  with_down (With x) y h = (x, refl, h)
  with_down _ y h = absurd h

  pub without_down : (l : Lifetime A) (y : B) → IsLifeIn stands l (Without y) → ((l ≡ Always) × ¬ (IsInside stands y)) ⊎ ((x : A) × (l ≡ Without x) × stands x y)
  without_down Always y h = inl (refl, h)
  without_down (Without x) y h = inr (x, refl, h)
  without_down (With x) y h = absurd h

  -- versions of one life in the whole are of one life in the part
  same_down : (l k : Lifetime A) (m : Lifetime B) → IsLifeIn stands l m → IsLifeIn stands k m → l ≡ k
  same_down l k Always h j = always_down l h ∙ sym (always_down k j)
  same_down l k (With y) h j =
      let (x, e, is) = with_down l y h in
      let (z, f, its) = with_down k y j in
      e ∙ ap With (part.one.one_left x z y is its) ∙ sym f
  same_down l k (Without y) h j = by (without_down l y h) (without_down k y j)
    where
      by : ((l ≡ Always) × ¬ (IsInside stands y)) ⊎ ((x : A) × (l ≡ Without x) × stands x y) → ((k ≡ Always) × ¬ (IsInside stands y))
          ⊎ ((x : A) × (k ≡ Without x) × stands x y) → l ≡ k
      by (inl (e, out)) (inl (f, gone)) = e ∙ sym f
      by (inl (e, out)) (inr (x, f, is)) = absurd (out (x, is))
      by (inr (x, e, is)) (inl (f, out)) = absurd (out (x, is))
      by (inr (x, e, is)) (inr (z, f, its)) = e ∙ ap Without (part.one.one_left x z y is its) ∙ sym f

  -- ---- versions that are there in the part

  shown : (v : VersionId) (m : Lived B) → version c v ≡ Some m → ¬ (IsHidden stands m.life) → (l : Lived A) × (version d v ≡ Some l) × IsVersionIn stands l m
  shown v m e seen = by (version d v) refl (subst (IsVersionOfPart stands (version d v)) e (part.versions v))
    where
      by : (o : Option (Lived A)) → version d v ≡ o → IsVersionOfPart stands o (Some m) → (l : Lived A) × (version d v ≡ Some l) × IsVersionIn stands l m
      by None is h = absurd (seen h)
      by (Some l) is h = (l, is, h)

  -- what lives with a member inside is there
  seen_with : (m : Lifetime B) → ((y : B) → m ≡ With y → IsInside stands y) → ¬ (IsHidden stands m)
  seen_with (With y) inside hidden = hidden (inside y refl)
  seen_with _ inside hidden = hidden

  same_held : (v : VersionId) (l : Lived A) (m : Lived B) → l.row ≡ m.row → held_row v l ≡ held_row v m
  same_held v l m row = λ i. (v.cell, row i)

  same_second : (w : Option VersionId) (q : Option (Lived A)) (b : Option (Lived B)) → IsSecondIn stands q b → held_if_any w q ≡ held_if_any w b
  same_second None q b same = refl
  same_second (Some w) None None same = refl
  same_second (Some w) None (Some m) same = absurd same
  same_second (Some w) (Some l) None same = absurd same
  same_second (Some w) (Some l) (Some m) same = ap Some (same_held w l m same.row)

  -- ---- one need

  module _ (n : Need) (p : Lived A) (q : Option (Lived A)) (a : Lived B) (b : Option (Lived B)) (first : IsVersionIn stands p a)
      (second : IsSecondIn stands q b) where
    same_serves : (v : VersionId) (l : Lived A) (m : Lived B) → l.row ≡ m.row
        → serves d.rules (ask_of n) (held_row n.first p) (held_if_any n.second q) (held_row v l)
        ≡ serves c.rules (ask_of n) (held_row n.first a) (held_if_any n.second b) (held_row v m)
    same_serves v l m row = λ i. serves (part.rules i) (ask_of n) (same_held n.first p a first.row i) (same_second n.second q b second i)
        (same_held v l m row i)

    pub up_serves : (v : VersionId) (l : Lived A) → Serves d n p q v l → (m : Lived B) × Serves c n a b v m × IsVersionIn stands l m
    up_serves v l serve = by (version c v) refl (subst (λ o. IsVersionOfPart stands o (version c v)) serve.is (part.versions v))
      where
        by : (o : Option (Lived B)) → version c v ≡ o → IsVersionOfPart stands (Some l) o → (m : Lived B) × Serves c n a b v m × IsVersionIn stands l m
        by None is h = absurd h
        by (Some m) is h = (m, record { is = is; it_serves = sym (same_serves v l m h.row) ∙ serve.it_serves }, h)

    pub down_serves : (v : VersionId) (m : Lived B) → Serves c n a b v m → ¬ (IsHidden stands m.life) → (l : Lived A) × Serves d n p q v l × IsVersionIn stands l m
    down_serves v m serve seen = let (l, is, same) = shown v m serve.is seen in (
      l,
      record {
        is = is;
        it_serves = same_serves v l m same.row
            ∙ serve.it_serves;
      },
      same,
    )

    -- ---- what covers

    life_of_up : (l : Lifetime A) (m : Lifetime B) → IsLifeIn stands l m → IsKept m → IsLifeOf l q → (m ≡ Always) ⊎ IsLifeOf m b
    life_of_up l m h kept e = by q b second e
      where
        by : (q : Option (Lived A)) (b : Option (Lived B)) → IsSecondIn stands q b → IsLifeOf l q → (m ≡ Always) ⊎ IsLifeOf m b
        by None b is e = absurd e
        by (Some k) None is e = absurd is
        by (Some k) (Some o) is e = same_up l k.life m o.life h is.life kept e

    lasts_up : (l : Lifetime A) (m : Lifetime B) → IsLifeIn stands l m → IsKept m → Lasts l p q → Lasts m a b
    lasts_up l m h kept (inl e) = inl (always_up m (subst (λ k. IsLifeIn stands k m) e h) kept)
    lasts_up l m h kept (inr (inl e)) = elim (same_up l p.life m a.life h first.life kept e) [ inl f ↦ inl f | inr f ↦ inr (inl f) ]
    lasts_up l m h kept (inr (inr e)) = elim (life_of_up l m h kept e) [ inl f ↦ inl f | inr f ↦ inr (inr f) ]

    life_of_down : (l : Lifetime A) (m : Lifetime B) → IsLifeIn stands l m → IsLifeOf m b → IsLifeOf l q
    life_of_down l m h e = by q b second e
      where
        by : (q : Option (Lived A)) (b : Option (Lived B)) → IsSecondIn stands q b → IsLifeOf m b → IsLifeOf l q
        by None None is e = absurd e
        by None (Some o) is e = absurd is
        by (Some k) None is e = absurd is
        by (Some k) (Some o) is e = same_down l k.life m h (subst (IsLifeIn stands k.life) (sym e) is.life)

    lasts_down : (l : Lifetime A) (m : Lifetime B) → IsLifeIn stands l m → Lasts m a b → Lasts l p q
    lasts_down l m h (inl e) = inl (always_down l (subst (IsLifeIn stands l) e h))
    lasts_down l m h (inr (inl e)) = inr (inl (same_down l p.life m h (subst (IsLifeIn stands p.life) (sym e) first.life)))
    lasts_down l m h (inr (inr e)) = inr (inr (life_of_down l m h e))

    -- a subject that lives with a member is of a member inside
    second_inside : (y : B) → IsLifeOf (With y) b → IsInside stands y
    second_inside y e = by q b second e
      where
        by : (q : Option (Lived A)) (b : Option (Lived B)) → IsSecondIn stands q b → IsLifeOf (With y) b → IsInside stands y
        by q None is e = absurd e
        by None (Some o) is e = absurd is
        by (Some k) (Some o) is e = let (x, f, in_it) = with_down k.life y (subst (IsLifeIn stands k.life) (sym e) is.life) in (x, in_it)

    first_inside : (y : B) → a.life ≡ With y → IsInside stands y
    first_inside y e = let (x, f, in_it) = with_down p.life y (subst (IsLifeIn stands p.life) e first.life) in (x, in_it)

    lasting_seen : (m : Lifetime B) → Lasts m a b → ¬ (IsHidden stands m)
    lasting_seen m lasts = seen_with m (λ y e. by y (subst (λ k. Lasts k a b) e lasts))
      where
        by : (y : B) → Lasts (With y) a b → IsInside stands y
        by y (inl e) = absurd (subst IsWith e tt)
          where
            IsWith : Lifetime B → Type 0
            IsWith (With z) = ⊤
            IsWith _ = ⊥
        by y (inr (inl e)) = first_inside y (sym e)
        by y (inr (inr e)) = second_inside y e

    alone_down : (v : VersionId) → CoversAlone c n a b v → CoversAlone d n p q v
    alone_down v (m, serve, lasts) =
        let (l, it, same) = down_serves v m serve (lasting_seen m.life lasts) in
        (l, it, lasts_down l.life m.life same.life lasts)

    -- ---- uncovered in the part

    module _ (uncovered : IsUncovered d n p q) (possible : IsPossible c n a b) where
      -- whoever takes a serving version away is inside: else it would always stand in the part
      taker_inside : (v : VersionId) (m : Lived B) (y : B) → Serves c n a b v m → m.life ≡ Without y → IsInside stands y
      taker_inside v m y serve e =
          let (l, it, same) = down_serves v m serve (subst (λ k. ¬ (IsHidden stands k)) (sym e) (λ h. h)) in
          elim (without_down l.life y (subst (IsLifeIn stands l.life) e same.life)) [
            | inl always ↦ absurd (uncovered.not_alone v (l, it, inl always.0))
            | inr found ↦ (found.0, found.2)
          ]

      pub blockers_inside : (y : B) → IsBlocker c n a b y → IsInside stands y
      blockers_inside y (inl e) = first_inside y e
      blockers_inside y (inr (inl e)) = second_inside y e
      blockers_inside y (inr (inr (v, m, serve, e))) = taker_inside v m y serve e

      paired : (v w : VersionId) (m o : Lived B) (y : B) → Serves c n a b v m → Serves c n a b w o → m.life ≡ With y → o.life ≡ Without y → ⊥
      paired v w m o y serve other e f =
          let in_it = taker_inside w o y other f in
          let (l, it, same) = down_serves v m serve (subst (λ k. ¬ (IsHidden stands k)) (sym e) (λ h. h in_it)) in
          let (k, its, alike) = down_serves w o other (subst (λ k. ¬ (IsHidden stands k)) (sym f) (λ h. h)) in
          let opposed : AreOpposed m.life o.life = subst (λ j. AreOpposed j o.life) (sym e) (subst (AreOpposed (With y)) (sym f) refl) in
          uncovered.not_together v w (l, k, it, its, opposed_down c d stands part l.life k.life m.life o.life same.life alike.life opposed)

      none_together : (v w : VersionId) → CoverTogether c n a b v w → ⊥
      none_together v w (m, o, serve, other, opposed) = by m.life o.life refl refl opposed
        where
          by : (j k : Lifetime B) → m.life ≡ j → o.life ≡ k → AreOpposed j k → ⊥
          by (With y) (Without z) f g e = paired v w m o y serve other f (g ∙ ap Without (sym e))
          by (Without y) (With z) f g e = paired w v o m z other serve g (f ∙ ap Without e)
          by _ _ f g e = absurd e

      pub uncovered_up : IsUncovered c n a b
      uncovered_up = record { possible = possible; not_alone = λ v h. uncovered.not_alone v (alone_down v h); not_together = none_together }

    changed_up : (l : Lifetime A) (m : Lifetime B) → IsLifeIn stands l m → IsChanged l → IsChanged m
    changed_up (Without x) (Without y) h changed = changed
    changed_up (Without x) _ h changed = absurd h
    changed_up _ m h changed = absurd changed

    pub touched_up : IsTouchedBy d n p q → IsTouchedBy c n a b
    touched_up (inl fresh) = inl fresh
    touched_up (inr (v, l, serve, changed)) = let (m, it, same) = up_serves v l serve in inr (v, m, it, changed_up l.life m.life same.life changed)

    -- ---- uncovered in the whole, all that break it being inside

    module _ (uncovered : IsUncovered c n a b) (inside : (y : B) → IsBlocker c n a b y → IsInside stands y) (possible : IsPossible d n p q) where
      none_alone : (v : VersionId) → CoversAlone d n p q v → ⊥
      none_alone v (l, serve, lasts) =
          let (m, it, same) = up_serves v l serve in
          uncovered.not_alone v (m, it, lasts_up l.life m.life same.life (λ y e. inside y (inr (inr (v, m, it, e)))) lasts)

      neither_together : (v w : VersionId) → CoverTogether d n p q v w → ⊥
      neither_together v w (l, k, serve, other, opposed) =
          let (m, it, same) = up_serves v l serve in
          let (o, its, alike) = up_serves w k other in
          uncovered.not_together v w (m, o, it, its, opposed_up l.life k.life m.life o.life same.life alike.life opposed)

      pub uncovered_down : IsUncovered d n p q
      uncovered_down = record { possible = possible; not_alone = none_alone; not_together = neither_together }

      -- what touches it in the whole touches it inside: a subject is new, or one inside takes a row away that serves it
      pub touched_down : IsTouchedBy c n a b → IsTouchedBy d n p q
      touched_down (inl new) = inl new
      touched_down (inr (v, m, serve, is)) = by m.life refl
        where
          changed : (y : B) (l : Lifetime A) → IsLifeIn stands l (Without y) → IsInside stands y → IsChanged l
          changed y (Without x) h in_it = tt
          changed y Always h in_it = absurd (h in_it)
          changed y (With x) h in_it = absurd h

          by : (o : Lifetime B) → m.life ≡ o → IsTouchedBy d n p q
          by Always e = absurd (subst IsChanged e is)
          by (With y) e = absurd (subst IsChanged e is)
          by (Without y) e =
              let (l, it, same) = down_serves v m serve (subst (λ k. ¬ (IsHidden stands k)) (sym e) (λ h. h)) in
              inr (v, l, it, changed y l.life (subst (IsLifeIn stands l.life) e same.life) (inside y (inr (inr (v, m, serve, e)))))

  -- ---- subjects in the part

  pub record AreShown (n : Need) (a : Lived B) (b : Option (Lived B)) : Type 0 where
    pub first : Lived A
    pub second : Option (Lived A)
    pub possible : IsPossible d n first second
    pub in_first : IsVersionIn stands first a
    pub in_second : IsSecondIn stands second b

  pub are_shown : (n : Need) (a : Lived B) (b : Option (Lived B)) → IsPossible c n a b → ((y : B) → IsBlocker c n a b y → IsInside stands y) → AreShown n a b
  are_shown n a b possible inside =
      let (p, is, same) = shown n.first a possible.first_is (seen_with a.life (λ y e. inside y (inl e))) in
      let (q, beside, others) = second p same n.second b possible.second_is (λ y e. inside y (inr (inl e))) in
      record {
        first = p;
        second = q;
        possible = record {
          first_is = is;
          second_is = beside;
          they_call = (λ i. calls (part.rules i) (ask_of n) (same_held n.first p a same.row i) (same_second n.second q b others i)) ∙ possible.they_call;
        };
        in_first = same;
        in_second = others;
      }
    where
      second : (p : Lived A) → IsVersionIn stands p a → (w : Option VersionId) (b : Option (Lived B)) → IsBesideIfAny c n.first a w b
          → ((y : B) → IsLifeOf (With y) b → IsInside stands y)
          → (q : Option (Lived A)) × IsBesideIfAny d n.first p w q × IsSecondIn stands q b
      second p same None None is in_it = (None, tt, tt)
      second p same None (Some m) is in_it = absurd is
      second p same (Some w) None is in_it = absurd is
      second p same (Some w) (Some m) is in_it =
          let (l, at, alike) = shown w m is.is (seen_with m.life (λ y e. in_it y (sym e))) in (
            Some l,
            record {
              is = at;
              ascending = is.ascending;
              not_opposed = λ e. is.not_opposed (opposed_up p.life l.life a.life m.life same.life alike.life e);
            },
            alike,
          )
