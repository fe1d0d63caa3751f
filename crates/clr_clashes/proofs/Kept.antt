-- Of clashes that are found one after another, those that hold no other are kept.
use Rattle.std.proofs.Common.{◌≡◌, ◌∙◌, ◌⊎◌, ◌==◌, ℕ, Bool, true, false, cond, not, List, [], ◌∷◌, ◌++◌, inl, inr, Contains, refl, sym, ap, subst}
use Rattle.std.specs.List.{filter, list_any}
use Rattle.std.specs.List.Sorted.{IsStrictlySortedBy}
use Rattle.std.specs.Ordering.{nat_cmp}
use Rattle.std.specs.declared.cmp.Ordering.TheVariants.{Less}
use Rattle.std.proofs.lemmas.Bool.{and_from, and_parts, cases_Bool, false≢true}
use Rattle.std.proofs.lemmas.Bool.Decides.{Decides-eqb}
use Rattle.std.proofs.lemmas.Cmp.{nat_cmp_total}
use Rattle.std.proofs.lemmas.List.Kept.{IsStrictlySortedBy-filter}
use Rattle.clr_rules.proofs.Elements.{Among, among, among_either, among_kept, among_left, among_right, any_by, contained, kept_among, not_both, not_itself}
use Rattle.clr_rules.proofs.Elements.{rising_joined, same_rising, some_of}
use Rattle.clr_needs.specs.declared.needs.Need.{Need}
use Rattle.clr_needs.specs.Orders.{need_cmp}
use Rattle.clr_needs.specs.Settings.{Setting}
use Rattle.clr_needs.proofs.NeedOrder.{need_total}
use Rattle.clr_clashes.specs.Clashes.{IsAllIn, IsBrokenBy}
use Rattle.clr_clashes.specs.Keeping.{is_all_in, with_clash}
use Rattle.clr_clashes.specs.ListedClashes.{ListedClash, listed_cmp}

-- lists within lists -------------------------------------------------------------------------

pub told_within : (xs ys : List ℕ) → is_all_in xs ys ≡ true → IsAllIn xs ys
told_within xs ys e x h = contained x ys (by xs e (among x xs h))
  where
    by : (xs : List ℕ) → is_all_in xs ys ≡ true → Among x xs → Among x ys
    by [] e h = absurd h
    by (z ∷ xs) e (inl same) =
        let (y, there, is) = some_of (λ y. y == z) ys (and_parts (list_any (λ y. y == z) ys) (is_all_in xs ys) e).0 in
        subst (λ w. Among w ys) ((Decides-eqb y z).0 is ∙ same) there
    by (z ∷ xs) e (inr h) = by xs (and_parts (list_any (λ y. y == z) ys) (is_all_in xs ys) e).1 h

pub within_told : (xs ys : List ℕ) → IsAllIn xs ys → is_all_in xs ys ≡ true
within_told xs ys within = by xs (λ x h. among x ys (within x (contained x xs h)))
  where
    by : (xs : List ℕ) → ((x : ℕ) → Among x xs → Among x ys) → is_all_in xs ys ≡ true
    by [] h = refl
    by (x ∷ xs) h = and_from (list_any (λ y. y == x) ys) (is_all_in xs ys)
        (any_by (λ y. y == x) x ys (h x (inl refl)) ((Decides-eqb x x).1 refl))
        (by xs (λ y k. h y (inr k)))

within_both : (xs ys zs : List ℕ) → IsAllIn xs ys → IsAllIn ys zs → IsAllIn xs zs
within_both xs ys zs first second x h = second x (first x h)

within_same : (xs ys : List ℕ) → IsStrictlySortedBy nat_cmp xs → IsStrictlySortedBy nat_cmp ys → IsAllIn xs ys → IsAllIn ys xs → xs ≡ ys
within_same xs ys p q there back = same_rising nat_cmp_total xs ys p q
    (λ x h. among x ys (there x (contained x xs h))) (λ x h. among x xs (back x (contained x ys h)))

-- one more need ------------------------------------------------------------------------------

module _ (c : Setting ℕ) where
  -- the members that break a need ascend, and are one list
  rises : (n : Need) (xs : List ℕ) → IsBrokenBy c n xs → IsStrictlySortedBy nat_cmp xs
  rises n xs broken = let (a, b, uncovered) = broken.uncovered in (broken.blockers a b uncovered.possible).ascending

  one : (n : Need) (xs ys : List ℕ) → IsBrokenBy c n xs → IsBrokenBy c n ys → xs ≡ ys
  one n xs ys broken other =
      let (a, b, uncovered) = broken.uncovered in
      let these = broken.blockers a b uncovered.possible in
      let those = other.blockers a b uncovered.possible in
      within_same xs ys these.ascending those.ascending
      (λ x h. (those.exactly x).1 ((these.exactly x).0 h)) (λ x h. (these.exactly x).1 ((those.exactly x).0 h))

  -- of the needs that were looked at, the least one that just these members break; and none is broken by fewer of them
  pub record IsKept (seen : Need → Type 0) (k : ListedClash) : Type 0 where
    pub looked_at : seen k.need
    pub broken : IsBrokenBy c k.need k.members
    pub smallest : (n : Need) (xs : List ℕ) → seen n → IsBrokenBy c n xs → IsAllIn xs k.members → xs ≡ k.members
    pub least : (n : Need) → seen n → IsBrokenBy c n k.members → ¬ (need_cmp n k.need ≡ Less)

  -- members that break one of these needs hold the members of a clash that is kept
  pub record AreKept (seen : Need → Type 0) (ks : List ListedClash) : Type 0 where
    pub ascending : IsStrictlySortedBy listed_cmp ks
    pub each : (k : ListedClash) → Contains ks k → IsKept seen k
    pub every : (n : Need) (xs : List ℕ) → seen n → IsBrokenBy c n xs → (k : ListedClash) × Contains ks k × IsAllIn k.members xs

  pub none_kept : (seen : Need → Type 0) → ((n : Need) → ¬ (seen n)) → AreKept seen []
  unfolding IsStrictlySortedBy
  none_kept seen none = record { ascending = tt; each = λ k h. absurd (among k [] h); every = λ n xs h broken. absurd (none n h) }

  -- one need beside those that were seen, which come before it
  pub record IsNext (seen next : Need → Type 0) (n : Need) : Type 0 where
    pub later : (m : Need) → seen m → need_cmp m n ≡ Less
    pub ahead : (m : Need) → seen m → next m
    pub it : next n
    pub back : (m : Need) → next m → seen m ⊎ (m ≡ n)

  module _ (seen next : Need → Type 0) (n : Need) (step : IsNext seen next n) (ks : List ListedClash) (are : AreKept seen ks) where
    open step use {later, ahead, it, back}

    -- what was kept still is, where the members that break one more need aren't fewer of its own
    still_kept : (k : ListedClash) → IsKept seen k → ((xs : List ℕ) → IsBrokenBy c n xs → IsAllIn xs k.members → xs ≡ k.members) → IsKept next k
    still_kept k p same = record {
      looked_at = ahead k.need p.looked_at;
      broken = p.broken;
      smallest = λ m xs is. smallest m xs (back m is);
      least = λ m is. least m (back m is);
    }
      where
        smallest : (m : Need) (xs : List ℕ) → seen m ⊎ (m ≡ n) → IsBrokenBy c m xs → IsAllIn xs k.members → xs ≡ k.members
        smallest m xs (inl before) broken within = p.smallest m xs before broken within
        smallest m xs (inr e) broken within = same xs (subst (λ o. IsBrokenBy c o xs) e broken) within

        least : (m : Need) → seen m ⊎ (m ≡ n) → IsBrokenBy c m k.members → ¬ (need_cmp m k.need ≡ Less)
        least m (inl before) broken less = p.least m before broken less
        least m (inr e) broken less = not_both need_total n k.need (subst (λ o. need_cmp o k.need ≡ Less) e less) (later k.need p.looked_at)

    -- nothing breaks it
    pub kept_beside_covered : ((xs : List ℕ) → ¬ (IsBrokenBy c n xs)) → AreKept next ks
    kept_beside_covered none = record {
      ascending = are.ascending;
      each = λ k h. still_kept k (are.each k h) (λ xs broken within. absurd (none xs broken));
      every = λ m xs is broken. every m xs (back m is) broken;
    }
      where
        every : (m : Need) (xs : List ℕ) → seen m ⊎ (m ≡ n) → IsBrokenBy c m xs → (k : ListedClash) × Contains ks k × IsAllIn k.members xs
        every m xs (inl before) broken = are.every m xs before broken
        every m xs (inr e) broken = absurd (none xs (subst (λ o. IsBrokenBy c o xs) e broken))

    module _ (members : List ℕ) (broken : IsBrokenBy c n members) where
      -- the members that break it hold those of one that is kept
      module _ (j : ListedClash) (there : Contains ks j) (inside : IsAllIn j.members members) where
        same_members : (k : ListedClash) → IsKept seen k → (xs : List ℕ) → IsBrokenBy c n xs → IsAllIn xs k.members → xs ≡ k.members
        same_members k p xs breaks within =
            let same = one n xs members breaks broken in
            let j_in_xs : IsAllIn j.members xs = (λ x h. subst (λ ys. Contains ys x) (sym same) (inside x h)) in
            let is = are.each j there in
            let e = p.smallest j.need j.members is.looked_at is.broken (within_both j.members xs k.members j_in_xs within) in
            within_same xs k.members (rises n xs breaks) (rises k.need k.members p.broken) within (λ x h. j_in_xs x (subst (λ ys. Contains ys x) (sym e) h))

        kept_beside_larger : AreKept next ks
        kept_beside_larger = record {
          ascending = are.ascending;
          each = λ k h. still_kept k (are.each k h) (same_members k (are.each k h));
          every = λ m xs is breaks. every m xs (back m is) breaks;
        }
          where
            every : (m : Need) (xs : List ℕ) → seen m ⊎ (m ≡ n) → IsBrokenBy c m xs → (k : ListedClash) × Contains ks k × IsAllIn k.members xs
            every m xs (inl before) breaks = are.every m xs before breaks
            every m xs (inr e) breaks =
                let same = one n xs members (subst (λ o. IsBrokenBy c o xs) e breaks) broken in
                (j, there, λ x h. subst (λ ys. Contains ys x) (sym same) (inside x h))

      -- some members hold those of no clash that is kept
      module _ (none : (j : ListedClash) → Contains ks j → ¬ (IsAllIn j.members members)) where
        abbrev clash : ListedClash
        clash = record { members = members; need = n }

        abbrev stays : ListedClash → Bool
        stays j = not (is_all_in members j.members)

        abbrev after : List ListedClash
        after = filter stays ks ++ clash ∷ []

        no_smaller : (m : Need) (xs : List ℕ) → seen m → IsBrokenBy c m xs → ¬ (IsAllIn xs members)
        no_smaller m xs before breaks within =
            let (j, there, inside) = are.every m xs before breaks in
            none j there (within_both j.members xs members inside within)

        clash_kept : IsKept next clash
        clash_kept = record {
          looked_at = it;
          broken = broken;
          smallest = λ m xs is breaks within. (elim (back m is) [
            | inl before ↦ absurd (no_smaller m xs before breaks within)
            | inr e ↦ one n xs members (subst (λ o. IsBrokenBy c o xs) e breaks) broken
          ]);
          least = λ m is breaks less. (elim (back m is) [
            | inl before ↦ no_smaller m members before breaks (λ x h. h)
            | inr e ↦ not_itself need_total n (subst (λ o. need_cmp o n ≡ Less) e less)
          ]);
        }

        -- what stays doesn't hold them
        not_held : (j : ListedClash) → stays j ≡ true → ¬ (IsAllIn members j.members)
        not_held j e within = false≢true (sym (ap not (within_told members j.members within)) ∙ e)

        stayed : (k : ListedClash) → Among k (filter stays ks) → Among k ks × (stays k ≡ true)
        stayed k h = among_kept stays k ks h

        each_after : (k : ListedClash) → Among k (filter stays ks) ⊎ Among k (clash ∷ []) → IsKept next k
        each_after k (inl h) = let (there, e) = stayed k h in still_kept k (are.each k (contained k ks there)) (λ xs breaks within.
            absurd (not_held k e (λ x in_it. within x (subst (λ ys. Contains ys x) (sym (one n xs members breaks broken)) in_it))))
        each_after k (inr (inl e)) = subst (IsKept next) e clash_kept
        each_after k (inr (inr h)) = absurd h

        rises_after : IsStrictlySortedBy listed_cmp after
        unfolding IsStrictlySortedBy
        rises_after = rising_joined listed_cmp (filter stays ks) (clash ∷ []) (IsStrictlySortedBy-filter listed_cmp stays ks are.ascending) (tt, tt) below
          where
            below : (j k : ListedClash) → Among j (filter stays ks) → Among k (clash ∷ []) → need_cmp j.need k.need ≡ Less
            below j k h (inl e) = subst (λ (i : ListedClash). need_cmp j.need i.need ≡ Less) e
                (later j.need (are.each j (contained j ks (stayed j h).0)).looked_at)
            below j k h (inr g) = absurd g

        at_end : Contains after clash
        at_end = contained clash after (among_right clash (filter stays ks) (clash ∷ []) (inl refl))

        every_after : (m : Need) (xs : List ℕ) → seen m ⊎ (m ≡ n) → IsBrokenBy c m xs → (k : ListedClash) × Contains after k × IsAllIn k.members xs
        every_after m xs (inr e) breaks =
            let same = one n xs members (subst (λ o. IsBrokenBy c o xs) e breaks) broken in
            (clash, at_end, λ x h. subst (λ ys. Contains ys x) (sym same) h)
        every_after m xs (inl before) breaks =
            let (j, there, inside) = are.every m xs before breaks in
            by j there inside (cases_Bool (is_all_in members j.members))
          where
            by : (j : ListedClash) → Contains ks j → IsAllIn j.members xs → (is_all_in members j.members ≡ true) ⊎ (is_all_in members j.members ≡ false)
                → (k : ListedClash) × Contains after k × IsAllIn k.members xs
            by j there inside (inl e) = (clash, at_end, within_both members j.members xs (told_within members j.members e) inside)
            by j there inside (inr e) =
                (j, contained j after (among_left j (filter stays ks) (clash ∷ []) (kept_among stays j ks (among j ks there) (ap not e))), inside)

        kept_with_smaller : AreKept next after
        kept_with_smaller = record {
          ascending = rises_after;
          each = λ k h. each_after k (among_either k (filter stays ks) (clash ∷ []) (among k after h));
          every = λ m xs is breaks. every_after m xs (back m is) breaks;
        }

      pub kept_with_clash : AreKept next (with_clash ks (record { members = members; need = n }))
      kept_with_clash = by (list_any (λ (j : ListedClash). is_all_in j.members members) ks) refl
        where
          by : (b : Bool) → list_any (λ (j : ListedClash). is_all_in j.members members) ks ≡ b
              → AreKept next (cond b ks (filter (λ (j : ListedClash). not (is_all_in members j.members)) ks ++ record { members = members; need = n } ∷ []))
          by true e =
              let (j, there, is) = some_of (λ (j : ListedClash). is_all_in j.members members) ks e in
              kept_beside_larger j (contained j ks there) (told_within j.members members is)
          by false e = kept_with_smaller (λ j there within.
              false≢true (sym e ∙ any_by (λ (j : ListedClash). is_all_in j.members members) j ks (among j ks there) (within_told j.members members within)))
