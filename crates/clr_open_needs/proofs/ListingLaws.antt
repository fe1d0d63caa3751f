-- Open needs that are found one after another are all that there are.
use Rattle.std.proofs.Common.{◌≡◌, ◌∙◌, ◌<◌, ◌≤◌, ◌+◌, ◌⊎◌, ℕ, zero, suc, List, [], ◌∷◌, ◌++◌, inl, inr, Contains, Option, Some, None, get_or, length, take}
use Rattle.std.proofs.Common.{refl, sym, ap, subst, arith}
use Rattle.std.specs.List.Sorted.{IsStrictlySortedBy}
use Rattle.std.specs.declared.cmp.Ordering.TheVariants.{Less}
use Rattle.std.proofs.lemmas.List.{take_all, take_more}
use Rattle.std.proofs.lemmas.List.Elements.{Contains-append_left, Contains-append_right}
use Rattle.clr_rules.proofs.Elements.{Among, among, among_either, among_left, among_right, contained, each_of, rising_joined}
use Rattle.clr_needs.specs.declared.needs.Need.{Need}
use Rattle.clr_needs.specs.declared.needs.VersionId.{VersionId}
use Rattle.clr_needs.specs.Covers.{CoverTogether, IsUncovered, IsUncoveredNeed}
use Rattle.clr_needs.specs.Needs.{AreOpposed, AreTouchedNeeds, IsPossible}
use Rattle.clr_needs.specs.Orders.{need_cmp}
use Rattle.clr_needs.specs.Picks.{HasBoth, IsPick, Picks, ServesAs}
use Rattle.clr_needs.specs.Settings.{Setting, Lifetime, With, Without, Lived}
use Rattle.clr_needs.proofs.Reading.{all_taken, none_taken, one_more, read_in}
use Rattle.clr_order_search.specs.declared.open_needs.OpenNeed.{OpenNeed}
use Rattle.clr_open_needs.specs.declared.listing.OpenNeeds.{OpenNeeds}
use Rattle.clr_open_needs.specs.Listing.{AddsNeed}
use Rattle.clr_open_needs.specs.OpenNeeds.{AreOpenNeeds, AreSidesOf, HasSides, IsOpenNeed, IsPicked}

-- what is picked, and what is uncovered ------------------------------------------------------

module _ (c : Setting ℕ) (n : Need) (a : Lived ℕ) (b : Option (Lived ℕ)) where
  -- two that cover together are those of one member
  member_of_pair : (v w : VersionId) → CoverTogether c n a b v w → (x : ℕ) × HasBoth c n a b x
  member_of_pair v w pair = by pair.0.life pair.1.life refl refl pair.4
    where
      by : (l m : Lifetime ℕ) → pair.0.life ≡ l → pair.1.life ≡ m → AreOpposed l m → (x : ℕ) × HasBoth c n a b x
      by (With x) (Without y) e f same = (x, ((w, (pair.1, pair.3, f ∙ ap Without (sym same))), (v, (pair.0, pair.2, e))))
      by (Without x) (With y) e f same = (x, ((v, (pair.0, pair.2, e)), (w, (pair.1, pair.3, f ∙ ap With (sym same)))))
      by _ _ e f same = absurd same

  unpicked_uncovered : IsPossible c n a b → IsPick c n a b None → IsUncovered c n a b
  unpicked_uncovered possible pick = record {
    possible = possible;
    not_alone = pick.0;
    not_together = λ v w pair. (let both = member_of_pair v w pair in pick.1 both.0 both.1);
  }

  -- witnesses of one member cover together
  opposed_pair : (x : ℕ) (v w : VersionId) → ServesAs c n a b (Without x) v → ServesAs c n a b (With x) w → CoverTogether c n a b v w
  opposed_pair x v w old new =
      (old.0, new.0, old.1, new.1, subst (λ l. AreOpposed old.0.life l) (sym new.2) (subst (λ l. AreOpposed l (With x)) (sym old.2) refl))

  pub picked_covered : (p : VersionId × Option VersionId) → IsPick c n a b (Some p) → ¬ (IsUncovered c n a b)
  picked_covered (v, None) pick uncovered = uncovered.not_alone v pick.0
  picked_covered (v, Some w) pick uncovered = uncovered.not_together v w (opposed_pair pick.1.0 v w pick.1.3.0 pick.1.4.0)

-- the needs before a position come before the need that stands there
earlier : (xs : List Need) (k : ℕ) (d m : Need) → k < length xs → IsStrictlySortedBy need_cmp xs → Among m (take k xs) → need_cmp m (get_or xs k d) ≡ Less
unfolding IsStrictlySortedBy
earlier [] k d m less rises h = absurd (omega (arith, less))
earlier (x ∷ xs) zero d m less rises h = absurd h
earlier (x ∷ xs) (suc k) d m less rises (inl e) =
    let within : k < length xs = omega (arith, less) in
    subst (λ o. need_cmp o (get_or xs k d) ≡ Less) e
    (each_of (λ y. need_cmp x y ≡ Less) (get_or xs k d) xs rises.0 (among (get_or xs k d) xs (read_in xs k d within)))
earlier (x ∷ xs) (suc k) d m less rises (inr h) = earlier xs k d m (omega (arith, less)) rises.1 h

-- the touched needs, one after another -------------------------------------------------------

-- sides, one after another
sides_joined : (c : Setting ℕ) (ns : List Need) (sides : List OpenNeed) (n : Need) (put : OpenNeed) → AreSidesOf c ns sides → HasSides c n put
    → AreSidesOf c (ns ++ n ∷ []) (sides ++ put ∷ [])
sides_joined c [] [] n put are is = (is, tt)
sides_joined c [] (o ∷ os) n put are is = absurd are
sides_joined c (m ∷ ms) [] n put are is = absurd are
sides_joined c (m ∷ ms) (o ∷ os) n put are is = (are.0, sides_joined c ms os n put are.1 is)

-- exactly those of the needs so far that nothing covers
pub record AreOpenTo (c : Setting ℕ) (read : List Need) (k : ℕ) (needs : List Need) (sides : List OpenNeed) : Type 0 where
  pub ascending : IsStrictlySortedBy need_cmp needs
  pub so_far : (n : Need) → Among n needs → Contains (take k read) n
  pub uncovered : (n : Need) → Among n needs → IsUncoveredNeed c n
  pub every : (n : Need) → Contains (take k read) n → IsUncoveredNeed c n → Among n needs
  pub are_sides : AreSidesOf c needs sides
  pub told : (n : Need) → Contains (take k read) n → Among n needs ⊎ IsPicked c n

pub none_open_yet : (c : Setting ℕ) (read needs : List Need) (sides : List OpenNeed) → needs ≡ [] → sides ≡ [] → AreOpenTo c read 0 needs sides
unfolding IsStrictlySortedBy
none_open_yet c read needs sides none no_sides = subst (AreOpenTo c read 0 needs) (sym no_sides) (subst (λ ns. AreOpenTo c read 0 ns []) (sym none) (record {
  ascending = tt;
  so_far = λ n h. absurd h;
  uncovered = λ n h. absurd h;
  every = λ n h. absurd (none_taken read n h);
  are_sides = tt;
  told = λ n h. absurd (none_taken read n h);
}))

module _ (c : Setting ℕ) (all read : List Need) (touched : AreTouchedNeeds c all) (same : read ≡ all) where
  here : AreTouchedNeeds c read
  here = subst (AreTouchedNeeds c) (sym same) touched

  module _ (k : ℕ) (d : Need) (less : k < length read) (old new : OpenNeeds) (are : AreOpenTo c read k old.needs.items old.sides.items) where
    abbrev n : Need
    n = get_or read k d

    abbrev needs : List Need
    needs = old.needs.items

    next : take (k + 1) read ≡ take k read ++ n ∷ []
    next = take_more read k d less

    more : (m : Need) → Contains (take k read) m → Contains (take (k + 1) read) m
    more m h = subst (λ ns. Contains ns m) (sym next) (Contains-append_left (take k read) (n ∷ []) m h)

    it : Contains (take (k + 1) read) n
    it = subst (λ ns. Contains ns n) (sym next) (Contains-append_right (take k read) (n ∷ []) n (contained n (n ∷ []) (inl refl)))

    last : (m : Need) → Among m (n ∷ []) → n ≡ m
    last m (inl e) = e
    last m (inr h) = absurd h

    below : (x y : Need) → Among x needs → Among y (n ∷ []) → need_cmp x y ≡ Less
    below x y h j = subst (λ z. need_cmp x z ≡ Less) (last y j) (earlier read k d x less here.ascending (among x (take k read) (are.so_far x h)))

    ascends : IsStrictlySortedBy need_cmp (needs ++ n ∷ [])
    unfolding IsStrictlySortedBy
    ascends = rising_joined need_cmp needs (n ∷ []) are.ascending (tt, tt) below

    is_uncovered : Picks c n None → IsUncoveredNeed c n
    is_uncovered none = (let (a, b, possible, by) = (here.exactly n).0 (read_in read k d less) in (a, b, unpicked_uncovered c n a b possible (none a b possible)))

    put : (o : OpenNeed) → Picks c n None → HasSides c n o → AreOpenTo c read (k + 1) (needs ++ n ∷ []) (old.sides.items ++ o ∷ [])
    put o none is = record {
      ascending = ascends;
      so_far = λ m h. elim (among_either m needs (n ∷ []) h) [
        | inl before ↦ more m (are.so_far m before)
        | inr now ↦ subst (Contains (take (k + 1) read)) (last m now) it
      ];
      uncovered = λ m h. elim (among_either m needs (n ∷ []) h) [
        | inl before ↦ are.uncovered m before
        | inr now ↦ subst (IsUncoveredNeed c) (last m now) (is_uncovered none)
      ];
      every = λ m h open_too. elim (one_more read k d m less h) [
        | inl before ↦ among_left m needs (n ∷ []) (are.every m before open_too)
        | inr now ↦ among_right m needs (n ∷ []) (inl (sym now))
      ];
      are_sides = sides_joined c needs old.sides.items n o are.are_sides is;
      told = λ m h. elim (one_more read k d m less h) [
        | inl before ↦ elim (are.told m before) [ inl there ↦ inl (among_left m needs (n ∷ []) there) | inr p ↦ inr p ]
        | inr now ↦ inl (among_right m needs (n ∷ []) (inl (sym now)))
      ];
    }

    passed : (p : VersionId × Option VersionId) → Picks c n (Some p) → AreOpenTo c read (k + 1) needs old.sides.items
    passed p picks = record {
      ascending = are.ascending;
      so_far = λ m h. more m (are.so_far m h);
      uncovered = are.uncovered;
      every = λ m h open_too. elim (one_more read k d m less h) [
        | inl before ↦ are.every m before open_too
        | inr now ↦ absurd (picked (subst (IsUncoveredNeed c) now open_too))
      ];
      are_sides = are.are_sides;
      told = λ m h. elim (one_more read k d m less h) [
        | inl before ↦ are.told m before
        | inr now ↦ inr (subst (IsPicked c) (sym now) (p, picks))
      ];
    }
      where
        picked : ¬ (IsUncoveredNeed c n)
        picked (a, b, uncovered) = picked_covered c n a b p (picks a b uncovered.possible) uncovered

    pub one_noted : AddsNeed c n old new → AreOpenTo c read (k + 1) new.needs.items new.sides.items
    one_noted (inl (p, picks, stays)) = subst (λ (f : OpenNeeds). AreOpenTo c read (k + 1) f.needs.items f.sides.items) (sym stays) (passed p picks)
    one_noted (inr (none, puts)) = subst (AreOpenTo c read (k + 1) new.needs.items) (sym puts.sides)
        (subst (λ ns. AreOpenTo c read (k + 1) ns (old.sides.items ++ puts.put ∷ [])) (sym puts.needs) (put puts.put none puts.has_sides))

  pub all_open : (k : ℕ) (found : OpenNeeds) → length read ≤ k → AreOpenTo c read k found.needs.items found.sides.items → AreOpenNeeds c found
  all_open k found past are = record {
    needs = record {
      ascending = are.ascending;
      exactly = λ n. (
        λ h. only n (among n found.needs.items h),
        λ w. contained n found.needs.items (are.every n (all_taken read k n past ((here.exactly n).1 w.touched)) w.uncovered),
      );
    };
    sides = are.are_sides;
    told = λ n is. elim (are.told n (all_taken read k n past ((here.exactly n).1 is))) [ inl h ↦ inl (contained n found.needs.items h) | inr p ↦ inr p ];
  }
    where
      only : (n : Need) → Among n found.needs.items → IsOpenNeed c n
      only n h = record {
        touched = (here.exactly n).0 (subst (λ ns. Contains ns n) (take_all k read past) (are.so_far n h));
        uncovered = are.uncovered n h;
      }
