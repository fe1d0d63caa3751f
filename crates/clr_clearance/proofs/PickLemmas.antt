-- What picked witnesses cover, and what a need without any breaks.
use Rattle.std.proofs.Common.{◌≡◌, ◌∙◌, ℕ, true, List, [], ◌∷◌, inl, inr, refl, sym, ap, subst, Option, Some, None, map}
use Rattle.std.proofs.lemmas.Bool.{false≢true, or_cases, or_left, or_right}
use Rattle.std.specs.Ordering.{nat_cmp}
use Rattle.clr_rules.proofs.Elements.{Among, among, among_mapped, contained}
use Rattle.clr_needs.specs.declared.needs.Need.{Need}
use Rattle.clr_needs.specs.declared.needs.VersionId.{VersionId}
use Rattle.clr_needs.specs.Covers.{AreBlockers, AreCovered, CoverTogether, Entry, HasEntry, IsBlocker, IsLifeOf, IsUncovered, WitnessesCover}
use Rattle.clr_needs.specs.Independence.{Names}
use Rattle.clr_needs.specs.Needs.{AreOpposed, IsBesideIfAny, IsPossible, Lists}
use Rattle.clr_needs.specs.Picks.{HasBoth, IsPick, Picks, ServesAs}
use Rattle.clr_needs.specs.Settings.{Setting, Lifetime, With, Without, Lived, has}
use Rattle.clr_needs.proofs.Lives.{names_member}
use Rattle.clr_clearance.specs.Plans.{ArePicked}

module _ (c : Setting ℕ) (n : Need) (a : Lived ℕ) (b : Option (Lived ℕ)) where
  -- witnesses of one member, before and after its merge
  opposed_pair : (x : ℕ) (v w : VersionId) → ServesAs c n a b (Without x) v → ServesAs c n a b (With x) w → CoverTogether c n a b v w
  opposed_pair x v w old new = (
    old.0,
    new.0,
    old.1,
    new.1,
    subst (λ l. AreOpposed old.0.life l) (sym new.2)
        (subst (λ l. AreOpposed l (With x)) (sym old.2) refl),
  )

  pub pick_covers : (v : VersionId) (w : Option VersionId) → IsPick c n a b (Some (v, w)) → WitnessesCover c n a b v w
  pick_covers v None pick = pick.0
  pick_covers v (Some w) pick = inr (inr (opposed_pair pick.1.0 v w pick.1.3.0 pick.1.4.0))

  -- two that cover together are those of one member
  member_of_pair : (v w : VersionId) → CoverTogether c n a b v w → (x : ℕ) × HasBoth c n a b x
  member_of_pair v w pair = by pair.0.life pair.1.life refl refl pair.4
    where
      by : (l m : Lifetime ℕ) → pair.0.life ≡ l → pair.1.life ≡ m → AreOpposed l m → (x : ℕ) × HasBoth c n a b x
      by (With x) (Without y) e f same = (x, ((w, (pair.1, pair.3, f ∙ ap Without (sym same))), (v, (pair.0, pair.2, e))))
      by (Without x) (With y) e f same = (x, ((v, (pair.0, pair.2, e)), (w, (pair.1, pair.3, f ∙ ap With (sym same)))))
      by _ _ e f same = absurd same

  pub unpicked_is_uncovered : IsPossible c n a b → IsPick c n a b None → IsUncovered c n a b
  unpicked_is_uncovered possible pick = record {
    possible = possible;
    not_alone = pick.0;
    not_together = λ v w pair. (let both = member_of_pair v w pair in pick.1 both.0 both.1);
  }

  -- a member that breaks a need is one of the setting
  blocker_is_member : IsPossible c n a b → (x : ℕ) → IsBlocker c n a b x → has c.same c.members x ≡ true
  blocker_is_member possible x (inl e) = names_member c n.first a x possible.first_is (subst (λ l. Names l x) (sym e) refl)
  blocker_is_member possible x (inr (inl h)) = beside n.second b possible.second_is h
    where
      beside : (w : Option VersionId) (d : Option (Lived ℕ)) → IsBesideIfAny c n.first a w d → IsLifeOf (With x) d → has c.same c.members x ≡ true
      beside None None is e = absurd e
      beside None (Some d) is e = absurd is
      beside (Some w) None is e = absurd e
      beside (Some w) (Some d) is e = names_member c w d x is.is (subst (λ l. Names l x) e refl)
  blocker_is_member possible x (inr (inr s)) = names_member c s.0 s.1 x s.2.is (subst (λ l. Names l x) (sym s.3) refl)

-- the list of those that break a need -------------------------------------------------------------------

module _ (c : Setting ℕ) where
  has_among : (list : List ℕ) (x : ℕ) → has c.same list x ≡ true → Among x list
  has_among [] x h = absurd (false≢true h)
  has_among (y ∷ ys) x h = elim (or_cases (c.same y x) (has c.same ys x) h) [ inl same ↦ inl ((c.decides y x).0 same) | inr more ↦ inr (has_among ys x more) ]

  among_has : (list : List ℕ) (x : ℕ) → Among x list → has c.same list x ≡ true
  among_has [] x h = absurd h
  among_has (y ∷ ys) x (inl e) = or_left (c.same y x) (has c.same ys x) ((c.decides y x).1 e)
  among_has (y ∷ ys) x (inr h) = or_right (c.same y x) (has c.same ys x) (among_has ys x h)

  pub blockers_are : (n : Need) (a : Lived ℕ) (b : Option (Lived ℕ)) (list : List ℕ) → IsPossible c n a b → Lists nat_cmp (IsBlocker c n a b) list
      → AreBlockers c n a b list
  blockers_are n a b list possible lists = record {
    part = λ x h. blocker_is_member c n a b possible x ((lists.exactly x).0 (contained x list (has_among list x h)));
    only = λ x h. (lists.exactly x).0 (contained x list (has_among list x h));
    every = λ x h blocks. among_has list x (among x list ((lists.exactly x).1 blocks));
  }

  -- picked entries cover ------------------------------------------------------------------------------------

  entry_among : (n : Need) (a : Lived ℕ) (b : Option (Lived ℕ)) (entries : List Entry) (e : Entry) → Among e entries → e.0 ≡ n → WitnessesCover c n a b e.1 e.2
      → HasEntry c n a b entries
  entry_among n a b [] e there same covers = absurd there
  entry_among n a b (f ∷ fs) e (inl one) same covers = inl (
    ap (λ (x : Entry). x.0) one
        ∙ same,
    subst (λ (x : Entry). WitnessesCover c n a b x.1 x.2) (sym one) covers,
  )
  entry_among n a b (f ∷ fs) e (inr more) same covers = inr (entry_among n a b fs e more same covers)

  pub picked_cover : (entries : List Entry) → ArePicked c entries → AreCovered c entries
  picked_cover entries picked n a b possible touched =
      let (e, there, same) = among_mapped (λ (x : Entry). x.0) n entries
      (among n (map (λ (x : Entry). x.0) entries) ((picked.needs.exactly n).1 (a, b, possible, touched))) in
      let pick = subst (λ m. Picks c m (Some (e.1, e.2))) same (picked.picks e (contained e entries there)) in
      entry_among n a b entries e there same (pick_covers c n a b e.1 e.2 (pick a b possible))
