-- A need is covered exactly where something serves it always, or a helper of it is a blocker or goes before one.
use Rattle.std.proofs.Common.{◌≡◌, ◌∙◌, ◌⊎◌, inl, inr, refl, sym, subst, Option, Some, None}
use Rattle.clr_needs.specs.declared.needs.Need.{Need}
use Rattle.clr_needs.specs.declared.needs.VersionId.{VersionId}
use Rattle.clr_needs.specs.Covers.{IsBlocker, IsLifeOf}
use Rattle.clr_needs.specs.Needs.{Serves}
use Rattle.clr_needs.specs.Settings.{Setting, Lifetime, Always, With, Without, Lived}
use Rattle.clr_needs.proofs.Meetings.{IsSubjectLife}
use Rattle.clr_ordered_needs.specs.Covers.{CoversAlone, CoverTogether, HasCover, Lasts, LastsWhile, LastsWhileIfAny, NeverBothLive, OneAlwaysLives}
use Rattle.clr_ordered_needs.specs.Covers.{SubjectsNeverMeet, WitnessesCover}
use Rattle.clr_ordered_needs.specs.Helpers.{HelpComesFirst, IsHelper, IsServedAlways}
use Rattle.clr_ordered_needs.specs.Laws.{CoverIsHelp}
use Rattle.clr_ordered_needs.specs.Turns.{Order, IsUpTo}

module _ {A : Type 0} (c : Setting A) (n : Need) (a : Lived A) (b : Option (Lived A)) where
  -- whom a subject waits for blocks the need, and who ends one helps it
  pub subject_blocks : (y : A) → IsSubjectLife c a b (With y) → IsBlocker c n a b y
  subject_blocks y (inl e) = inl (sym e)
  subject_blocks y (inr h) = inr (inl h)

  pub subject_helps : (x : A) → IsSubjectLife c a b (Without x) → IsHelper c n a b x
  subject_helps x (inl e) = inl (sym e)
  subject_helps x (inr h) = inr (inl h)

  -- a version of this life serves
  abbrev ServesFor : Lifetime A → Type 0
  ServesFor life = (v : VersionId) × (l : Lived A) × Serves c n a b v l × (l.life ≡ life)

  module _ (before : Order A) where
    abbrev IsHelped : Type 0
    IsHelped = IsServedAlways c n a b ⊎ HelpComesFirst before c n a b

    -- covers are help -----------------------------------------------------------------------------

    of_lasting : (l k : Lifetime A) → ServesFor l → IsSubjectLife c a b k → LastsWhile before l k → IsHelped
    of_lasting Always k serves h while = inl serves
    of_lasting (With x) (With y) serves h while = inr (x, y, inr (inr serves), subject_blocks y h, while)
    of_lasting (Without y) (Without x) serves h while = inr (x, y, subject_helps x h, inr (inr serves), while)
    of_lasting _ _ serves h while = absurd while

    of_second : (d : Option (Lived A)) → ((k : Lifetime A) → IsLifeOf k d → IsSubjectLife c a b k) → (l : Lifetime A) → ServesFor l
        → LastsWhileIfAny before l d → IsHelped
    of_second None of l serves while = absurd while
    of_second (Some d) of l serves while = of_lasting l d.life serves (of d.life refl) while

    of_alone : (v : VersionId) → CoversAlone before c n a b v → IsHelped
    of_alone v (l, serve, inl while) = of_lasting l.life a.life (v, l, serve, refl) (inl refl) while
    of_alone v (l, serve, inr while) = of_second b (λ k h. inr h) l.life (v, l, serve, refl) while

    of_one : (l k : Lifetime A) → ServesFor l → ServesFor k → OneAlwaysLives before l k → IsHelped
    of_one (With x) (Without y) serves serves_too up = inr (x, y, inr (inr serves), inr (inr serves_too), up)
    of_one (Without y) (With x) serves serves_too up = inr (x, y, inr (inr serves_too), inr (inr serves), up)
    of_one _ _ serves serves_too up = absurd up

    of_together : (v w : VersionId) → CoverTogether before c n a b v w → IsHelped
    of_together v w (l, m, serve, serve_too, up) = of_one l.life m.life (v, l, serve, refl) (w, m, serve_too, refl) up

    of_both : (k j : Lifetime A) → IsSubjectLife c a b k → IsSubjectLife c a b j → NeverBothLive before k j → IsHelped
    of_both (With y) (Without x) h g up = inr (x, y, subject_helps x g, subject_blocks y h, up)
    of_both (Without x) (With y) h g up = inr (x, y, subject_helps x h, subject_blocks y g, up)
    of_both _ _ h g up = absurd up

    of_never : (d : Option (Lived A)) → ((k : Lifetime A) → IsLifeOf k d → IsSubjectLife c a b k) → SubjectsNeverMeet before a d → IsHelped
    of_never None of never = absurd never
    of_never (Some d) of never = of_both a.life d.life (inl refl) (of d.life refl) never

    of_witnesses : (v : VersionId) (w : Option VersionId) → WitnessesCover before c n a b v w → IsHelped
    of_witnesses v None cover = of_alone v cover
    of_witnesses v (Some w) (inl cover) = of_alone v cover
    of_witnesses v (Some w) (inr (inl cover)) = of_alone w cover
    of_witnesses v (Some w) (inr (inr cover)) = of_together v w cover

    of_cover : HasCover before c n a b → IsHelped
    of_cover (inl never) = of_never b (λ k h. inr h) never
    of_cover (inr (v, w, cover)) = of_witnesses v w cover

    -- help covers ---------------------------------------------------------------------------------

    -- what lasts while a subject's life does
    lasts_with : (l k : Lifetime A) → IsSubjectLife c a b k → LastsWhile before l k → Lasts before l a b
    lasts_with l k (inl same) while = inl (subst (LastsWhile before l) same while)
    lasts_with l k (inr of) while = inr (by b of)
      where
        by : (d : Option (Lived A)) → IsLifeOf k d → LastsWhileIfAny before l d
        by None h = absurd h
        by (Some d) same = subst (LastsWhile before l) same while

    alone_for : (life k : Lifetime A) → ServesFor life → IsSubjectLife c a b k → LastsWhile before life k → HasCover before c n a b
    alone_for life k (v, l, serve, e) h while =
        inr (v, None, (l, serve, lasts_with l.life k h (subst (λ m. LastsWhile before m k) (sym e) while)))

    -- a subject that waits for a member, and one that has ended by then, never stand together
    never_meet : (y x : A) → IsUpTo before x y → IsSubjectLife c a b (With y) → IsSubjectLife c a b (Without x) → SubjectsNeverMeet before a b
    never_meet y x up = by b
      where
        by : (d : Option (Lived A)) → IsSubjectLife c a d (With y) → IsSubjectLife c a d (Without x) → SubjectsNeverMeet before a d
        by d (inl e) (inl f) = let one : With y ≡ Without x = e ∙ sym f in absurd (cc)
        by None (inl e) (inr f) = absurd f
        by None (inr e) k = absurd e
        by (Some d) (inl e) (inr f) = subst (λ k. NeverBothLive before k d.life) e (subst (NeverBothLive before (With y)) f up)
        by (Some d) (inr e) (inl f) = subst (λ k. NeverBothLive before k d.life) f (subst (NeverBothLive before (Without x)) e up)
        by (Some d) (inr e) (inr f) = let one : With y ≡ Without x = e ∙ sym f in absurd (cc)

    by_subject : (x y : A) → IsSubjectLife c a b (Without x) → IsBlocker c n a b y → IsUpTo before x y → HasCover before c n a b
    by_subject x y h (inl e) up = inl (never_meet y x up (inl (sym e)) h)
    by_subject x y h (inr (inl e)) up = inl (never_meet y x up (inr e) h)
    by_subject x y h (inr (inr serves)) up = alone_for (Without y) (Without x) serves h up

    by_server : (x y : A) → ServesFor (With x) → IsBlocker c n a b y → IsUpTo before x y → HasCover before c n a b
    by_server x y serves (inl e) up = alone_for (With x) (With y) serves (inl (sym e)) up
    by_server x y serves (inr (inl e)) up = alone_for (With x) (With y) serves (inr e) up
    by_server x y (v, l, serve, e) (inr (inr (w, m, serve_too, f))) up = inr (
      v,
      Some w,
      inr (inr (l, m, serve, serve_too, subst (λ k. OneAlwaysLives before k m.life) (sym e) (subst (OneAlwaysLives before (With x)) (sym f) up))),
    )

    by_help : (x y : A) → IsHelper c n a b x → IsBlocker c n a b y → IsUpTo before x y → HasCover before c n a b
    by_help x y (inl e) = by_subject x y (inl (sym e))
    by_help x y (inr (inl e)) = by_subject x y (inr e)
    by_help x y (inr (inr serves)) = by_server x y serves

    help_covers : IsHelped → HasCover before c n a b
    help_covers (inl serves) = alone_for Always a.life serves (inl refl) tt
    help_covers (inr (x, y, helper, blocker, up)) = by_help x y helper blocker up

pub cover_is_help : {A : Type 0} (before : Order A) (c : Setting A) → CoverIsHelp before c
cover_is_help before c n a b possible = (of_cover c n a b before, help_covers c n a b before)
