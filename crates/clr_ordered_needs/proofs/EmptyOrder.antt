-- Where no member goes before another, needs are covered as in every order.
use Rattle.std.proofs.Common.{◌≡◌, List, [], ◌∷◌, ◌⊎◌, inl, inr, refl, sym, ap, subst, Option, Some, None}
use Rattle.std.proofs.lemmas.Bool.{false≢true}
use Rattle.clr_needs.specs.declared.needs.Need.{Need}
use Rattle.clr_needs.specs.declared.needs.VersionId.{VersionId}
use Rattle.clr_needs.specs.Covers.{Entry}
use Rattle.clr_needs.specs.Covers as unordered
use Rattle.clr_needs.specs.Needs.{AreOpposed, IsBesideIfAny, IsPossible}
use Rattle.clr_needs.specs.Settings.{Setting, Lifetime, Always, With, Without, Lived}
use Rattle.clr_ordered_needs.specs.Covers.{CoversAlone, CoverTogether, HasCover, HasEntry, Lasts, LastsWhile, NeverBothLive, OneAlwaysLives}
use Rattle.clr_ordered_needs.specs.Covers.{SubjectsNeverMeet, WitnessesCover}
use Rattle.clr_ordered_needs.specs.Laws.{NoOrderIsEveryOrder}
use Rattle.clr_ordered_needs.specs.Turns.{IsUpTo, no_order}

module _ {A : Type 0} where
  same_of : (n p : A) → IsUpTo no_order n p → n ≡ p
  same_of n p (inl same) = same
  same_of n p (inr goes) = absurd (false≢true goes)

  -- lives ------------------------------------------------------------------------------------

  opposed_never : (l m : Lifetime A) → NeverBothLive no_order l m → AreOpposed l m
  opposed_never (With p) (Without n) h = sym (same_of n p h)
  opposed_never (Without n) (With p) h = same_of n p h
  opposed_never _ _ h = absurd h

  one_opposed : (l m : Lifetime A) → OneAlwaysLives no_order l m → AreOpposed l m
  one_opposed (With n) (Without p) h = same_of n p h
  one_opposed (Without p) (With n) h = sym (same_of n p h)
  one_opposed _ _ h = absurd h

  opposed_one : (l m : Lifetime A) → AreOpposed l m → OneAlwaysLives no_order l m
  opposed_one (With n) (Without p) e = inl e
  opposed_one (Without p) (With n) e = inl (sym e)
  opposed_one _ _ e = absurd e

  lasts_is : (l k : Lifetime A) → LastsWhile no_order l k → (l ≡ Always) ⊎ (l ≡ k)
  lasts_is Always k h = inl refl
  lasts_is (With n) (With p) h = inr (ap With (same_of n p h))
  lasts_is (Without p) (Without n) h = inr (ap Without (sym (same_of n p h)))
  lasts_is _ _ h = absurd h

  itself : (l : Lifetime A) → LastsWhile no_order l l
  itself Always = tt
  itself (With n) = inl refl
  itself (Without n) = inl refl

  lasts_in_every : (l : Lifetime A) (a : Lived A) (b : Option (Lived A)) → Lasts no_order l a b → unordered.Lasts l a b
  lasts_in_every l a b (inl while) = elim (lasts_is l a.life while) [ inl h ↦ inl h | inr h ↦ inr (inl h) ]
  lasts_in_every l a None (inr while) = absurd while
  lasts_in_every l a (Some b) (inr while) = elim (lasts_is l b.life while) [ inl h ↦ inl h | inr h ↦ inr (inr h) ]

  lasts_in_none : (l : Lifetime A) (a : Lived A) (b : Option (Lived A)) → unordered.Lasts l a b → Lasts no_order l a b
  lasts_in_none l a b (inl e) = inl (subst (λ k. LastsWhile no_order k a.life) (sym e) tt)
  lasts_in_none l a b (inr (inl e)) = inl (subst (λ k. LastsWhile no_order k a.life) (sym e) (itself a.life))
  lasts_in_none l a None (inr (inr h)) = absurd h
  lasts_in_none l a (Some b) (inr (inr e)) = inr (subst (λ k. LastsWhile no_order k b.life) (sym e) (itself b.life))

  module _ (c : Setting A) (n : Need) (a : Lived A) (b : Option (Lived A)) where
    -- covers ---------------------------------------------------------------------------------

    alone_in_every : (v : VersionId) → CoversAlone no_order c n a b v → unordered.CoversAlone c n a b v
    alone_in_every v (l, serve, lasts) = (l, serve, lasts_in_every l.life a b lasts)

    alone_in_none : (v : VersionId) → unordered.CoversAlone c n a b v → CoversAlone no_order c n a b v
    alone_in_none v (l, serve, lasts) = (l, serve, lasts_in_none l.life a b lasts)

    together_in_every : (v w : VersionId) → CoverTogether no_order c n a b v w → unordered.CoverTogether c n a b v w
    together_in_every v w (l, m, serve, serve_too, one) = (l, m, serve, serve_too, one_opposed l.life m.life one)

    together_in_none : (v w : VersionId) → unordered.CoverTogether c n a b v w → CoverTogether no_order c n a b v w
    together_in_none v w (l, m, serve, serve_too, opposed) = (l, m, serve, serve_too, opposed_one l.life m.life opposed)

    witnesses_in_every : (v : VersionId) (w : Option VersionId) → WitnessesCover no_order c n a b v w → unordered.WitnessesCover c n a b v w
    witnesses_in_every v None cover = alone_in_every v cover
    witnesses_in_every v (Some w) (inl cover) = inl (alone_in_every v cover)
    witnesses_in_every v (Some w) (inr (inl cover)) = inr (inl (alone_in_every w cover))
    witnesses_in_every v (Some w) (inr (inr cover)) = inr (inr (together_in_every v w cover))

    witnesses_in_none : (v : VersionId) (w : Option VersionId) → unordered.WitnessesCover c n a b v w → WitnessesCover no_order c n a b v w
    witnesses_in_none v None cover = alone_in_none v cover
    witnesses_in_none v (Some w) (inl cover) = inl (alone_in_none v cover)
    witnesses_in_none v (Some w) (inr (inl cover)) = inr (inl (alone_in_none w cover))
    witnesses_in_none v (Some w) (inr (inr cover)) = inr (inr (together_in_none v w cover))

    pub entry_in_every : (es : List Entry) → HasEntry no_order c n a b es → unordered.HasEntry c n a b es
    entry_in_every [] h = absurd h
    entry_in_every (e ∷ es) (inl (same, cover)) = inl (same, witnesses_in_every e.1 e.2 cover)
    entry_in_every (e ∷ es) (inr later) = inr (entry_in_every es later)

    pub entry_in_none : (es : List Entry) → unordered.HasEntry c n a b es → HasEntry no_order c n a b es
    entry_in_none [] h = absurd h
    entry_in_none (e ∷ es) (inl (same, cover)) = inl (same, witnesses_in_none e.1 e.2 cover)
    entry_in_none (e ∷ es) (inr later) = inr (entry_in_none es later)

    -- the subjects of a possible need can stand together
    pub can_meet : IsPossible c n a b → SubjectsNeverMeet no_order a b → ⊥
    can_meet possible never = by n.second b possible.second_is never
      where
        by : (w : Option VersionId) (d : Option (Lived A)) → IsBesideIfAny c n.first a w d → SubjectsNeverMeet no_order a d → ⊥
        by w None is h = h
        by None (Some d) is h = absurd is
        by (Some w) (Some d) is h = is.not_opposed (opposed_never a.life d.life h)

    none_covers : unordered.IsUncovered c n a b → HasCover no_order c n a b → ⊥
    none_covers u (inl never) = can_meet u.possible never
    none_covers u (inr (v, None, cover)) = u.not_alone v (alone_in_every v cover)
    none_covers u (inr (v, Some w, inl cover)) = u.not_alone v (alone_in_every v cover)
    none_covers u (inr (v, Some w, inr (inl cover))) = u.not_alone w (alone_in_every w cover)
    none_covers u (inr (v, Some w, inr (inr cover))) = u.not_together v w (together_in_every v w cover)

  pub no_order_is_every_order : (c : Setting A) → NoOrderIsEveryOrder c
  no_order_is_every_order c = record {
    covered = λ es. (
      λ covered n a b possible touched. elim (covered n a b possible touched) [
        | inl never ↦ absurd (can_meet c n a b possible never)
        | inr has ↦ entry_in_every c n a b es has
      ],
      λ covered n a b possible touched. inr (entry_in_none c n a b es (covered n a b possible touched)),
    );
    uncovered = λ n a b. (
      λ u. (
        record {
          possible = u.possible;
          not_alone = λ v h. u.no_cover (inr (v, None, alone_in_none c n a b v h));
          not_together = λ v w h. u.no_cover (inr (v, Some w, inr (inr (together_in_none c n a b v w h))));
        },
        u.touched,
      ),
      λ (u, touched). record { possible = u.possible; touched = touched; no_cover = none_covers c n a b u },
    );
    in_turn = λ ts n p goes. absurd (false≢true goes);
  }
