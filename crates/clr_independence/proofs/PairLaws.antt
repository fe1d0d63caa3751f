-- Pairs of members, one after another.
use Rattle.std.proofs.Common.{◌≡◌, ◌∙◌, ◌<◌, ◌≤◌, ◌+◌, ◌-◌, ◌⊎◌, ℕ, zero, suc, Bool, true, false, not, List, [], ◌∷◌, ◌++◌, inl, inr, Contains, Some}
use Rattle.std.proofs.Common.{get_or, length, map, refl, sym, ap, subst, arith, append_assoc, append-nil}
use Rattle.std.specs.Prelude.{option_map, slice_get}
use Rattle.std.proofs.lemmas.Option.{slice_get-map, slice_get_read}
use Rattle.std.specs.List.{flat_map, range_with_len}
use Rattle.std.proofs.lemmas.Grind.{flat_map-append}
use Rattle.std.proofs.lemmas.List.{map-append}
use Rattle.std.proofs.lemmas.List.Elements.{Contains-append_cases}
use Rattle.clr_rules.proofs.Elements.{among}
use Rattle.clr_needs.specs.declared.needs.Need.{Need}
use Rattle.clr_needs.specs.Settings.{Setting}
use Rattle.clr_needs.specs.Tests.{IsTestOf}
use Rattle.clr_independence.specs.declared.member_pairs.MemberPair.{MemberPair}
use Rattle.clr_independence.specs.Pairs.{AddsPairs, AreAscending, AreNeedsOf, ArePairs, IsPairByNeeds, ShareOne, TellsIfApart, pair_members}
use Rattle.clr_independence.specs.Pairs.{pairs_with}
use Rattle.clr_independence.proofs.NeedLaws.{pair_is_independent}

range_more : (a n j : ℕ) → a + n ≡ j → range_with_len a (n + 1) ≡ range_with_len a n ++ j ∷ []
range_more a zero j e = ap (λ k. k ∷ []) (let same : a ≡ j = omega (arith, e) in same)
range_more a (suc n) j e =
    let next : suc n + 1 ≡ suc (n + 1) = omega arith in
    ap (range_with_len a) next ∙ ap (λ (ks : List ℕ). a ∷ ks) (range_more (a + 1) n j (omega (arith, e)))

abbrev beside : ℕ → ℕ → ℕ × ℕ
beside i j = (i, j)

-- of one member ------------------------------------------------------------------------------

module _ (lists : List (List Need)) (first : ℕ) where
  -- the pairs with the members before a position
  pub record AddsPairsTo (end : ℕ) (old new : List MemberPair) : Type 0 where
    pub all : map pair_members new ≡ map pair_members old ++ map (beside first) (range_with_len (first + 1) (end - (first + 1)))
    pub each : (p : MemberPair) → Contains new p → Contains old p ⊎ IsPairByNeeds lists p

  pub no_pairs_with : (old : List MemberPair) → AddsPairsTo (first + 1) old old
  no_pairs_with old = record {
    all = sym (append-nil (map pair_members old)) ∙ (let none : 0 ≡ (first + 1) - (first + 1) = omega arith in ap (λ n. map pair_members old
        ++ map (beside first) (range_with_len (first + 1) n)) none);
    each = λ p h. inl h;
  }

  abbrev pub pair : ℕ → Bool → MemberPair
  pair second answer = record { first = first; second = second; independent = not answer }

  apart_by : (b : Bool) (needs others : List Need) → IsTestOf b (ShareOne needs others) → TellsIfApart (not b) needs others
  apart_by true needs others h = h
  apart_by false needs others h = h

  pub one_pair_with : (second : ℕ) (needs others : List Need) (answer : Bool) (old list new : List MemberPair) → first + 1 ≤ second → slice_get lists first
      ≡ Some needs → slice_get lists second ≡ Some others → IsTestOf answer (ShareOne needs others)
      → new ≡ list ++ pair second answer ∷ []
      → AddsPairsTo second old list
      → AddsPairsTo (second + 1) old new
  one_pair_with second needs others answer old list new from at other_at tells put are = record {
    all = ap (map pair_members) put ∙ map-append pair_members list (pair second answer ∷ [])
        ∙ ap (λ (ps : List (ℕ × ℕ)). ps ++ beside first second ∷ []) are.all
        ∙ append_assoc (map pair_members old) (map (beside first) (range_with_len (first + 1) (second - (first + 1)))) (beside first second ∷ [])
        ∙ ap (λ ps. map pair_members old ++ ps) more;
    each = λ q h. by q (Contains-append_cases list (pair second answer ∷ []) q (subst (λ ps. Contains ps q) put h));
  }
    where
      more : map (beside first) (range_with_len (first + 1) (second - (first + 1))) ++ beside first second ∷ []
          ≡ map (beside first) (range_with_len (first + 1) ((second + 1) - (first + 1)))
      more =
          let here : (first + 1) + (second - (first + 1)) ≡ second = omega (arith, from) in
          let next : (second + 1) - (first + 1) ≡ (second - (first + 1)) + 1 = omega (arith, from) in
          ap (λ k. map (beside first) (range_with_len (first + 1) (second - (first + 1))) ++ beside first k ∷ []) (sym here)
          ∙ sym (map-append (beside first) (range_with_len (first + 1) (second - (first + 1))) (((first + 1) + (second - (first + 1))) ∷ []))
          ∙ ap (map (beside first)) (sym (range_more (first + 1) (second - (first + 1)) ((first + 1) + (second - (first + 1))) refl))
          ∙ ap (λ m. map (beside first) (range_with_len (first + 1) m)) (sym next)

      here : IsPairByNeeds lists (pair second answer)
      here = record { needs = needs; others = others; first = at; second = other_at; each = apart_by answer needs others tells }

      last : (q : MemberPair) → (pair second answer ≡ q) ⊎ ⊥ → IsPairByNeeds lists q
      last q (inl e) = subst (IsPairByNeeds lists) e here
      last q (inr none) = absurd none

      by : (q : MemberPair) → Contains list q ⊎ Contains (pair second answer ∷ []) q → Contains old q ⊎ IsPairByNeeds lists q
      by q (inl h) = are.each q h
      by q (inr h) = inr (last q (among q (pair second answer ∷ []) h))

  pub all_pairs_with : (end : ℕ) (old new : List MemberPair) → end ≡ length lists → AddsPairsTo end old new → AddsPairs lists first old new
  all_pairs_with end old new is are = record {
    all = are.all ∙ ap (λ k. map pair_members old ++ map (beside first) (range_with_len (first + 1) (k - (first + 1)))) is;
    each = are.each;
  }

-- of all members -----------------------------------------------------------------------------

module _ (lists : List (List Need)) where
  -- the pairs of the members before a position
  pub record ArePairsTo (end : ℕ) (pairs : List MemberPair) : Type 0 where
    pub all : map pair_members pairs ≡ flat_map (pairs_with (length lists)) (range_with_len 0 end)
    pub each : (p : MemberPair) → Contains pairs p → IsPairByNeeds lists p

  pub no_pairs : (pairs : List MemberPair) → pairs ≡ [] → ArePairsTo 0 pairs
  no_pairs pairs none = subst (ArePairsTo 0) (sym none) (record { all = refl; each = λ p h. absurd (among p [] h) })

  pub one_more_first : (k : ℕ) (old new : List MemberPair) → AddsPairs lists k old new → ArePairsTo k old → ArePairsTo (k + 1) new
  one_more_first k old new adds are = record {
    all = adds.all ∙ (λ i. are.all i ++ pairs_with (length lists) k) ∙ sym (ap (flat_map (pairs_with (length lists))) (range_more 0 k k (omega arith))
        ∙ flat_map-append (pairs_with (length lists)) (range_with_len 0 k) (k ∷ []) ∙ ap (λ ps. flat_map (pairs_with (length lists)) (range_with_len 0 k)
        ++ ps) (append-nil (pairs_with (length lists) k)));
    each = λ p h. by p (adds.each p h);
  }
    where
      by : (p : MemberPair) → Contains old p ⊎ IsPairByNeeds lists p → IsPairByNeeds lists p
      by p (inl h) = are.each p h
      by p (inr h) = h

  pub all_pairs : (c : Setting ℕ) (count end : ℕ) (pairs : List MemberPair) → AreNeedsOf c count lists → end ≡ length lists → ArePairsTo end pairs
      → ArePairs c count pairs
  all_pairs c count end pairs needs is are = record {
    all = are.all ∙ (λ i. flat_map (pairs_with (needs.long i)) (range_with_len 0 (whole i)));
    each = λ p h. pair_is_independent c count lists needs p (are.each p h);
  }
    where
      whole : end ≡ count
      whole = is ∙ needs.long

-- reading lists ----------------------------------------------------------------------------------

pub ascending_of : (c : Setting ℕ) (count : ℕ) (lists : List (List Need)) → AreNeedsOf c count lists → AreAscending lists
ascending_of c count lists are k list e = (are.each k list e).ascending

pub there_at : {X : Type 0} (f : X → List Need) (xs : List X) (k : ℕ) (x : X) → k < length xs → x ≡ get_or xs k x → slice_get (map f xs) k ≡ Some (f x)
there_at f xs k x less is = slice_get-map f xs k ∙ ap (option_map f) (slice_get_read xs (length xs) k x refl less is)
