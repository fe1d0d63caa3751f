-- What is kept once all touched needs were looked at are the smallest clashes, and they decide which members leave no touched need uncovered.
use Rattle.std.proofs.Common.{◌≡◌, ◌∙◌, ◌<◌, ◌≤◌, ◌+◌, ◌⊎◌, ℕ, zero, suc, List, [], ◌∷◌, inl, inr, Contains, Option, Some, None, get_or, length, take, refl}
use Rattle.std.proofs.Common.{sym, ap, subst, arith}
use Rattle.std.specs.List.Sorted.{IsStrictlySortedBy}
use Rattle.std.specs.Ordering.{ordering_reverse}
use Rattle.std.specs.declared.cmp.Ordering.{Ordering}
use Rattle.std.specs.declared.cmp.Ordering.TheVariants.{Less, Equal, Greater}
use Rattle.std.proofs.lemmas.List.{take_more}
use Rattle.std.proofs.lemmas.List.Elements.{Contains-append_left, Contains-append_right}
use Rattle.clr_rules.proofs.Elements.{Among, among, contained, each_of}
use Rattle.clr_needs.specs.declared.needs.Need.{Need}
use Rattle.clr_needs.specs.declared.needs.VersionId.{VersionId}
use Rattle.clr_needs.specs.Covers.{CoverTogether, IsUncovered}
use Rattle.clr_needs.specs.Needs.{AreOpposed, AreTouchedNeeds, IsPossible}
use Rattle.clr_needs.specs.Orders.{need_cmp}
use Rattle.clr_needs.specs.Picks.{HasBoth, IsPick, ServesAs}
use Rattle.clr_needs.specs.Settings.{Setting, Lifetime, With, Without, Lived}
use Rattle.clr_needs.proofs.Reading.{all_taken, none_taken, one_more, read_in}
use Rattle.clr_needs.proofs.NeedOrder.{need_exact, need_total}
use Rattle.clr_clashes.specs.Clashes.{IsBrokenBy}
use Rattle.clr_clashes.specs.Keeping.{AddsNeedClash}
use Rattle.clr_clashes.specs.Laws.{ListedClashesDecideSubsets}
use Rattle.clr_clashes.specs.ListedClashes.{AreSmallestClashes, IsListedClash, ListedClash}
use Rattle.clr_clashes.proofs.ClashLaws.{clashes_decide}
use Rattle.clr_clashes.proofs.Kept.{AreKept, IsNext, kept_beside_covered, kept_with_clash, none_kept}

-- what is picked, and what is uncovered ------------------------------------------------------

module _ (c : Setting ℕ) (n : Need) (a : Lived ℕ) (b : Option (Lived ℕ)) where
  -- two that cover together are those of one member
  member_of_pair : (v w : VersionId) → CoverTogether c n a b v w → (x : ℕ) × HasBoth c n a b x
  member_of_pair v w pair = by pair.0.life pair.1.life refl refl pair.4
    where
      by : (l m : Lifetime ℕ) → pair.0.life ≡ l → pair.1.life ≡ m → AreOpposed l m → (x : ℕ) × HasBoth c n a b x
      by (With x) (Without y) e f same = (x, ((w, (pair.1, pair.3, f ∙ ap Without (sym same))), (v, (pair.0, pair.2, e))))
      by (Without x) (With y) e f same = (x, ((v, (pair.0, pair.2, e)), (w, (pair.1, pair.3, f ∙ ap With (sym same)))))
      by _ _ e f same = absurd same

  pub unpicked_uncovered : IsPossible c n a b → IsPick c n a b None → IsUncovered c n a b
  unpicked_uncovered possible pick = record {
    possible = possible;
    not_alone = pick.0;
    not_together = λ v w pair. (let both = member_of_pair v w pair in pick.1 both.0 both.1);
  }

  -- witnesses of one member cover together
  pub opposed_pair : (x : ℕ) (v w : VersionId) → ServesAs c n a b (Without x) v → ServesAs c n a b (With x) w → CoverTogether c n a b v w
  opposed_pair x v w old new =
      (old.0, new.0, old.1, new.1, subst (λ l. AreOpposed old.0.life l) (sym new.2) (subst (λ l. AreOpposed l (With x)) (sym old.2) refl))

  pub picked_covered : (p : VersionId × Option VersionId) → IsPick c n a b (Some p) → ¬ (IsUncovered c n a b)
  picked_covered (v, None) pick uncovered = uncovered.not_alone v pick.0
  picked_covered (v, Some w) pick uncovered = uncovered.not_together v w (opposed_pair pick.1.0 v w pick.1.3.0 pick.1.4.0)

-- needs that neither comes before the other are one
same_need : (m n : Need) → ¬ (need_cmp m n ≡ Less) → ¬ (need_cmp n m ≡ Less) → m ≡ n
same_need m n first second = by (need_cmp m n) refl
  where
    by : (o : Ordering) → need_cmp m n ≡ o → m ≡ n
    by Less e = absurd (first e)
    by Equal e = need_exact m n e
    by Greater e = absurd (second (need_total.antisymm n m ∙ ap ordering_reverse e))

-- the needs before a position come before the need that stands there
pub earlier : (xs : List Need) (k : ℕ) (d m : Need) → k < length xs → IsStrictlySortedBy need_cmp xs → Among m (take k xs) → need_cmp m (get_or xs k d) ≡ Less
unfolding IsStrictlySortedBy
earlier [] k d m less rises h = absurd (omega (arith, less))
earlier (x ∷ xs) zero d m less rises h = absurd h
earlier (x ∷ xs) (suc k) d m less rises (inl e) =
    let within : k < length xs = omega (arith, less) in
    subst (λ o. need_cmp o (get_or xs k d) ≡ Less) e
    (each_of (λ y. need_cmp x y ≡ Less) (get_or xs k d) xs rises.0 (among (get_or xs k d) xs (read_in xs k d within)))
earlier (x ∷ xs) (suc k) d m less rises (inr h) = earlier xs k d m (omega (arith, less)) rises.1 h

-- the touched needs, one after another -------------------------------------------------------

module _ (c : Setting ℕ) (needs read : List Need) (touched : AreTouchedNeeds c needs) (same : read ≡ needs) where
  -- the clashes of the needs so far are kept
  abbrev pub AreKeptTo : ℕ → List ListedClash → Type 0
  AreKeptTo k ks = AreKept c (λ n. Contains (take k read) n) ks

  pub none_kept_yet : (ks : List ListedClash) → ks ≡ [] → AreKeptTo 0 ks
  none_kept_yet ks none = subst (AreKeptTo 0) (sym none) (none_kept c (λ n. Contains (take 0 read) n) (λ n h. none_taken read n h))

  here : AreTouchedNeeds c read
  here = subst (AreTouchedNeeds c) (sym same) touched

  module _ (k : ℕ) (d : Need) (less : k < length read) (old new : List ListedClash) (are : AreKeptTo k old) where
    abbrev n : Need
    n = get_or read k d

    later : (m : Need) → Contains (take k read) m → need_cmp m n ≡ Less
    later m h = earlier read k d m less here.ascending (among m (take k read) h)

    ahead : (m : Need) → Contains (take k read) m → Contains (take (k + 1) read) m
    ahead m h = subst (λ ns. Contains ns m) (sym (take_more read k d less)) (Contains-append_left (take k read) (n ∷ []) m h)

    it : Contains (take (k + 1) read) n
    it = subst (λ ns. Contains ns n) (sym (take_more read k d less)) (Contains-append_right (take k read) (n ∷ []) n (contained n (n ∷ []) (inl refl)))

    back : (m : Need) → Contains (take (k + 1) read) m → Contains (take k read) m ⊎ (m ≡ n)
    back m h = one_more read k d m less h

    abbrev before : Need → Type 0
    before m = Contains (take k read) m

    abbrev next : Need → Type 0
    next m = Contains (take (k + 1) read) m

    step : IsNext c before next n
    step = record { later = later; ahead = ahead; it = it; back = back }

    pub one_noted : AddsNeedClash c n old new → AreKeptTo (k + 1) new
    one_noted (inl (p, picks, stays)) = subst (AreKeptTo (k + 1)) (sym stays) (kept_beside_covered c before next n step old are
        (λ xs broken. (let (a, b, uncovered) = broken.uncovered in picked_covered c n a b p (picks a b uncovered.possible) uncovered)))
    one_noted (inr (members, none, blocks, is)) = subst (AreKeptTo (k + 1)) (sym is) (kept_with_clash c before next n step old are members broken)
      where
        broken : IsBrokenBy c n members
        broken = (let is_touched = (here.exactly n).0 (read_in read k d less) in let (a, b, possible, by) = is_touched in record {
          touched = is_touched;
          uncovered = (a, b, unpicked_uncovered c n a b possible (none a b possible));
          blockers = blocks;
        })

  module _ (k : ℕ) (ks : List ListedClash) (past : length read ≤ k) (are : AreKeptTo k ks) where
    seen : (n : Need) (list : List ℕ) → IsBrokenBy c n list → Contains (take k read) n
    seen n list broken = all_taken read k n past ((here.exactly n).1 broken.touched)

    listed : (j : ListedClash) → Contains ks j → IsListedClash c j
    listed j h = let p = are.each j h in record {
      smallest = record { clash = (j.need, p.broken); smallest = λ other (m, broken) within. p.smallest m other (seen m other broken) broken within };
      broken = p.broken;
      least = λ m broken. p.least m (seen m j.members broken) broken;
    }

    there : (j : ListedClash) → IsListedClash c j → Contains ks j
    there j p =
        let (i, at, inside) = are.every j.need j.members (seen j.need j.members p.broken) p.broken in
        let q = are.each i at in
        let members : i.members ≡ j.members = p.smallest.smallest i.members (i.need, q.broken) inside in
        let need : i.need ≡ j.need = same_need i.need j.need
        (p.least i.need (subst (IsBrokenBy c i.need) members q.broken))
        (q.least j.need (seen j.need j.members p.broken) (subst (IsBrokenBy c j.need) (sym members) p.broken)) in
        subst (Contains ks) (λ t. record { members = members t; need = need t }) at

    pub all_kept : AreSmallestClashes c ks
    all_kept = record {
      lists = record { ascending = are.ascending; exactly = λ j. (listed j, there j) };
      every = λ list (n, broken). are.every n list (seen n list broken) broken;
    }

-- a list of the smallest clashes decides what they do ----------------------------------------

pub listed_clashes_decide : ListedClashesDecideSubsets
listed_clashes_decide rules root sets ks positions apart are ascending below =
    let decide = clashes_decide rules root sets positions apart ascending below in (
      λ covered j h. decide.0 covered j.members ((are.lists.exactly j).0 h).smallest,
      λ none. decide.1 (λ list smallest within. (let (j, h, inside) = are.every list smallest.clash in none j h (λ x in_it. within x (inside x in_it)))),
    )
