-- Touched needs are looked at one after another, and those without witnesses are listed with the members that break them.
use Rattle.std.proofs.Common.{◌≡◌, ◌∙◌, ◌<◌, ◌≤◌, ◌+◌, ◌⊎◌, ℕ, List, [], ◌∷◌, ◌++◌, inl, inr, Contains, Option, Some, None, get_or, length, take, refl}
use Rattle.std.proofs.Common.{sym, ap, subst}
use Rattle.std.specs.List.Sorted.{IsStrictlySortedBy}
use Rattle.std.specs.declared.cmp.Ordering.TheVariants.{Less}
use Rattle.std.proofs.lemmas.Cmp.{nat_cmp_total}
use Rattle.std.proofs.lemmas.List.{take_more}
use Rattle.std.proofs.lemmas.List.Elements.{Contains-append_cases, Contains-append_left, Contains-append_right}
use Rattle.clr_rules.proofs.Elements.{Among, among, contained, rising_joined, same_rising}
use Rattle.clr_needs.specs.declared.needs.Need.{Need}
use Rattle.clr_needs.specs.declared.needs.VersionId.{VersionId}
use Rattle.clr_needs.specs.Needs.{AreTouchedNeeds, IsTouched}
use Rattle.clr_needs.specs.Orders.{need_cmp}
use Rattle.clr_needs.specs.Picks.{Blocks, Picks}
use Rattle.clr_needs.specs.Settings.{Setting}
use Rattle.clr_needs.proofs.Reading.{all_taken, alone, none_taken, one_more, read_in}
use Rattle.clr_clashes.specs.BrokenNeeds.{AddsBrokenNeed, AreBrokenNeeds, IsBrokenNeed}
use Rattle.clr_clashes.specs.ListedClashes.{ListedClash, listed_cmp}
use Rattle.clr_clashes.proofs.ListedLaws.{earlier, picked_covered, unpicked_uncovered}

module _ (c : Setting ℕ) where
  -- lists of the members that break one need are one
  one_list_of : (n : Need) (xs ys : List ℕ) → IsTouched c n → Blocks c n xs → Blocks c n ys → xs ≡ ys
  one_list_of n xs ys (a, b, possible, touched) these those =
      let p = these a b possible in
      let q = those a b possible in
      same_rising nat_cmp_total xs ys p.ascending q.ascending
      (λ x h. among x ys ((q.exactly x).1 ((p.exactly x).0 (contained x xs h))))
      (λ x h. among x xs ((p.exactly x).1 ((q.exactly x).0 (contained x ys h))))

  -- a need isn't picked for and left without witnesses
  not_picked_too : (n : Need) (p : VersionId × Option VersionId) → IsTouched c n → Picks c n (Some p) → Picks c n None → ⊥
  not_picked_too n p (a, b, possible, touched) some none =
      picked_covered c n a b p (some a b possible) (unpicked_uncovered c n a b possible (none a b possible))

  -- those of the needs that were seen
  pub record AreBrokenOf (seen : Need → Type 0) (ks : List ListedClash) : Type 0 where
    pub ascending : IsStrictlySortedBy listed_cmp ks
    pub each : (j : ListedClash) → Contains ks j → seen j.need × IsBrokenNeed c j
    pub every : (j : ListedClash) → seen j.need → IsBrokenNeed c j → Contains ks j

  module _ (needs read : List Need) (touched : AreTouchedNeeds c needs) (same : read ≡ needs) where
    abbrev pub AreBrokenTo : ℕ → List ListedClash → Type 0
    AreBrokenTo k ks = AreBrokenOf (λ n. Contains (take k read) n) ks

    pub none_yet : (ks : List ListedClash) → ks ≡ [] → AreBrokenTo 0 ks
    unfolding IsStrictlySortedBy
    none_yet ks none = subst (AreBrokenTo 0) (sym none)
        (record { ascending = tt; each = λ j h. absurd (among j [] h); every = λ j h broken. absurd (none_taken read j.need h) })

    here : AreTouchedNeeds c read
    here = subst (AreTouchedNeeds c) (sym same) touched

    module _ (k : ℕ) (d : Need) (less : k < length read) (old new : List ListedClash) (are : AreBrokenTo k old) where
      abbrev n : Need
      n = get_or read k d

      ahead : (m : Need) → Contains (take k read) m → Contains (take (k + 1) read) m
      ahead m h = subst (λ ns. Contains ns m) (sym (take_more read k d less)) (Contains-append_left (take k read) (n ∷ []) m h)

      it : Contains (take (k + 1) read) n
      it = subst (λ ns. Contains ns n) (sym (take_more read k d less)) (Contains-append_right (take k read) (n ∷ []) n (contained n (n ∷ []) (inl refl)))

      it_touched : IsTouched c n
      it_touched = (here.exactly n).0 (read_in read k d less)

      picked : (p : VersionId × Option VersionId) → Picks c n (Some p) → AreBrokenTo (k + 1) old
      picked p some = record {
        ascending = are.ascending;
        each = λ j h. (let (seen, broken) = are.each j h in (ahead j.need seen, broken));
        every = λ j h broken. elim (one_more read k d j.need less h) [
          | inl before ↦ are.every j before broken
          | inr last ↦ absurd (not_picked_too n p it_touched some (subst (λ m. Picks c m None) last broken.none))
        ];
      }

      module _ (members : List ℕ) (none : Picks c n None) (blocks : Blocks c n members) where
        abbrev one : ListedClash
        one = record { members = members; need = n }

        rises : IsStrictlySortedBy listed_cmp (old ++ one ∷ [])
        unfolding IsStrictlySortedBy
        rises = rising_joined listed_cmp old (one ∷ []) are.ascending (tt, tt) before
          where
            before : (x y : ListedClash) → Among x old → Among y (one ∷ []) → listed_cmp x y ≡ Less
            before x y h (inl e) = subst (λ (z : ListedClash). need_cmp x.need z.need ≡ Less) e
                (earlier read k d x.need less here.ascending (among x.need (take k read) (are.each x (contained x old h)).0))
            before x y h (inr j) = absurd j

        added : AreBrokenTo (k + 1) (old ++ one ∷ [])
        added = record {
          ascending = rises;
          each = λ j h. elim (Contains-append_cases old (one ∷ []) j h) [
            | inl before ↦ (let (seen, broken) = are.each j before in (ahead j.need seen, broken))
            | inr last ↦ subst (λ (x : ListedClash). Contains (take (k + 1) read) x.need × IsBrokenNeed c x) (sym (alone one j last))
                (it, record { touched = it_touched; none = none; blockers = blocks })
          ];
          every = λ j h broken. elim (one_more read k d j.need less h) [
            | inl before ↦ Contains-append_left old (one ∷ []) j (are.every j before broken)
            | inr last ↦ Contains-append_right old (one ∷ []) j (contained j (one ∷ []) (inl (is_one j last broken)))
          ];
        }
          where
            is_one : (j : ListedClash) → j.need ≡ n → IsBrokenNeed c j → one ≡ j
            is_one j last broken =
                let members_same = one_list_of n members j.members it_touched blocks (subst (λ m. Blocks c m j.members) last broken.blockers) in
                λ i. record { members = members_same i; need = sym last i }

      pub one_noted : AddsBrokenNeed c n old new → AreBrokenTo (k + 1) new
      one_noted (inl (p, some, stays)) = subst (AreBrokenTo (k + 1)) (sym stays) (picked p some)
      one_noted (inr (members, none, blocks, is)) = subst (AreBrokenTo (k + 1)) (sym is) (added members none blocks)

    pub all_noted : (k : ℕ) (ks : List ListedClash) → length read ≤ k → AreBrokenTo k ks → AreBrokenNeeds c ks
    all_noted k ks past are = record {
      ascending = are.ascending;
      exactly = λ j. (λ h. (are.each j h).1, λ broken. are.every j (all_taken read k j.need past ((here.exactly j.need).1 broken.touched)) broken);
    }
