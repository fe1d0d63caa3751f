-- Pairs that are chosen for needs one after another, and those that are kept.
use Rattle.std.proofs.Common.{◌≡◌, ◌∙◌, ◌<◌, ◌+◌, ◌&&◌, ◌||◌, ℕ, zero, suc, true, false, List, [], ◌∷◌, ◌++◌, Some, inl, inr}
use Rattle.std.proofs.Common.{append_assoc, drop, get_or, length, slice_get, take, refl, sym, ap, subst, arith}
use Rattle.std.specs.List.{list_all}
use Rattle.std.proofs.lemmas.Bool.{and_from, and_parts, cases_Bool, true≢false}
use Rattle.std.proofs.lemmas.List.{drop_more, take_more}
use Rattle.std.proofs.lemmas.Option.{get_or_from_slice_get}
use Rattle.std.proofs.lemmas.List.Folds.{list_all-append, list_any-append}
use Rattle.clr_order_search.specs.declared.open_needs.OpenNeed.{OpenNeed}
use Rattle.clr_order_search.specs.OpenNeeds.{has}
use Rattle.clr_order_search.specs.Laws.{IsHelpedInTime}
use Rattle.clr_order_search.proofs.Helps.{helps}
use Rattle.clr_order_knots.specs.OpenNeeds.{AreSidesApart}
use Rattle.clr_order_answers.specs.declared.pairs.Pair.{Pair}
use Rattle.clr_order_answers.specs.Choosing.{AddsPair, AreKeptOf, AreServingPairs, KeepsNeeded}
use Rattle.clr_order_answers.specs.Laws.{KeptPairsLaw}
use Rattle.clr_order_answers.specs.Pairs.{IsPairFor, StandsInOrder, are_served, is_served, serves}
use Rattle.clr_order_answers.specs.Places.{IsFirstAmong, IsLastAmong, IsNoneAmong}
use Rattle.clr_order_knots.proofs.Lists.{Among, all_at, all_more, among, among_either, among_left, among_right, any_by, any_more, contained, some_of, split_last}

-- a pair for one need --------------------------------------------------------------------------------------------

module _ (order : List ℕ) (need : OpenNeed) (help : IsHelpedInTime order need) where
  pub no_helper_first : IsNoneAmong need.helpers.items order → ⊥
  no_helper_first none = true≢false (sym help.helps ∙ none help.early help.helper help.helper_at)

  pub no_blocker_last : IsNoneAmong need.blockers.items order → ⊥
  no_blocker_last none = true≢false (sym help.blocks ∙ none help.late help.blocker help.blocker_at)

  pub is_pair_for : (pair : Pair) → AreSidesApart need → IsFirstAmong need.helpers.items order pair.earlier → IsLastAmong need.blockers.items order pair.later
      → IsPairFor order need pair
  is_pair_for pair apart first last = record {
    serves_it = and_from (has need.helpers.items pair.earlier) (has need.blockers.items pair.later) first.among last.among;
    stands = record {
      early = first.place;
      late = last.place;
      earlier_at = first.there;
      later_at = last.there;
      in_order = (let start = first.first help.early help.helper help.helper_at help.helps in
          let end = last.last help.late help.blocker help.blocker_at help.blocks in let between = help.in_time in omega (arith, start, end, between, differ));
    };
  }
    where
      differ : first.place ≡ last.place → ⊥
      differ same =
          let one : Some pair.earlier ≡ Some pair.later = sym first.there ∙ ap (slice_get order) same ∙ last.there in
          let both : pair.earlier ≡ pair.later = cc in
          apart pair.later (subst (λ m. has need.helpers.items m ≡ true) both first.among) last.among

-- more pairs serve more -----------------------------------------------------------------------------------------

pub served_more : (xs ys : List Pair) (needs : List OpenNeed) → ((p : Pair) → Among p xs → Among p ys) → are_served xs needs ≡ true → are_served ys needs ≡ true
served_more xs ys needs within = all_more (is_served xs) (is_served ys) needs (λ need. any_more (λ p. serves p need) xs ys within)

unserved_fewer : (xs ys : List Pair) (needs : List OpenNeed) → ((p : Pair) → Among p xs → Among p ys) → are_served ys needs ≡ false → are_served xs needs ≡ false
unserved_fewer xs ys needs within out = elim (cases_Bool (are_served xs needs)) [
  | inl h ↦ absurd (true≢false (sym (served_more xs ys needs within h) ∙ out))
  | inr h ↦ h
]

-- pairs for needs, one after another ------------------------------------------------------------------------------

pub record AreServingTo (needs : List OpenNeed) (order : List ℕ) (k : ℕ) (pairs : List Pair) : Type 0 where
  pub served : are_served pairs (take k needs) ≡ true
  pub in_order : (pair : Pair) → Among pair pairs → StandsInOrder order pair

pub no_pairs_yet : (needs : List OpenNeed) (order : List ℕ) (pairs : List Pair) → pairs ≡ [] → AreServingTo needs order 0 pairs
no_pairs_yet needs order pairs none = subst (AreServingTo needs order 0) (sym none) (record { served = nothing needs; in_order = λ p h. absurd h })
  where
    nothing : (needs : List OpenNeed) → are_served [] (take 0 needs) ≡ true
    nothing [] = refl
    nothing (n ∷ ns) = refl

module _ (needs : List OpenNeed) (order : List ℕ) (k : ℕ) (need : OpenNeed) (less : k < length needs) (read : need ≡ get_or needs k need) where
  one_served : (pairs : List Pair) → are_served pairs (take k needs) ≡ true → is_served pairs need ≡ true → are_served pairs (take (k + 1) needs) ≡ true
  one_served pairs before now =
      ap (list_all (is_served pairs)) (take_more needs k need less ∙ ap (λ n. take k needs ++ n ∷ []) (sym read))
      ∙ list_all-append (is_served pairs) (take k needs) (need ∷ [])
      ∙ and_from (are_served pairs (take k needs)) (are_served pairs (need ∷ [])) before (and_from (is_served pairs need) true now refl)

  pub one_more_pair : (old new : List Pair) → AreServingTo needs order k old → AddsPair order need old new → AreServingTo needs order (k + 1) new
  one_more_pair old new are (inl (served, stays)) = subst (AreServingTo needs order (k + 1)) (sym stays)
      (record { served = one_served old are.served served; in_order = are.in_order })
  one_more_pair old new are (inr (pair, is, put)) = subst (AreServingTo needs order (k + 1)) (sym put) (record {
    served = one_served (old ++ pair ∷ [])
        (served_more old (old ++ pair ∷ []) (take k needs) (λ p h. among_left p old (pair ∷ []) h) are.served)
        (any_by (λ p. serves p need) pair (old ++ pair ∷ []) (among_right pair old (pair ∷ []) (inl refl)) is.serves_it);
    in_order = λ p h. elim (among_either p old (pair ∷ []) h) [ inl before ↦ are.in_order p before | inr now ↦ last p now ];
  })
    where
      last : (p : Pair) → Among p (pair ∷ []) → StandsInOrder order p
      last p (inl e) = subst (StandsInOrder order) e is.stands
      last p (inr h) = absurd h

pub all_have_pairs : (needs : List OpenNeed) (order : List ℕ) (k : ℕ) (pairs : List Pair) → take k needs ≡ needs → AreServingTo needs order k pairs
    → AreServingPairs needs order pairs
all_have_pairs needs order k pairs all are = record {
  served = subst (λ ns. are_served pairs ns ≡ true) all are.served;
  in_order = λ p h. are.in_order p (among p pairs h);
}

-- pairs that are kept, one after another --------------------------------------------------------------------------

module _ (needs : List OpenNeed) (pairs : List Pair) where
  pub record AreKeptTo (k : ℕ) (kept : List Pair) : Type 0 where
    pub served : are_served (kept ++ drop k pairs) needs ≡ true
    pub inside : (pair : Pair) → Among pair kept → Among pair pairs
    pub needed : (firsts : List Pair) (pair : Pair) (others : List Pair) → kept ≡ firsts ++ pair ∷ others
        → are_served (firsts ++ (others ++ drop k pairs)) needs ≡ false

  pub none_kept_yet : (kept : List Pair) → kept ≡ [] → are_served pairs needs ≡ true → AreKeptTo 0 kept
  none_kept_yet kept none served = subst (AreKeptTo 0) (sym none) (record {
    served = served;
    inside = λ p h. absurd h;
    needed = λ firsts p others e. absurd (longer firsts p others e);
  })
    where
      longer : (firsts : List Pair) (p : Pair) (others : List Pair) → [] ≡ firsts ++ p ∷ others → ⊥
      longer [] p others e = absurd (cc)
      longer (f ∷ fs) p others e = absurd (cc)

  module _ (k : ℕ) (less : k < length pairs) where
    abbrev rest : List Pair
    rest = drop (k + 1) pairs

    -- what a read past the end would give
    abbrev unread : Pair
    unread = record { earlier = 0; later = 0 }

    abbrev it : Pair
    it = get_or pairs k unread

    next : drop k pairs ≡ it ∷ rest
    next = drop_more pairs k unread less

    there : (pair : Pair) → slice_get pairs k ≡ Some pair → it ≡ pair
    there pair is = get_or_from_slice_get pairs k pair unread is

    inside_all : (pair : Pair) → slice_get pairs k ≡ Some pair → Among pair pairs
    inside_all pair is = here pairs k is
      where
        here : (ps : List Pair) (k : ℕ) → slice_get ps k ≡ Some pair → Among pair ps
        here [] k e = absurd (cc)
        here (p ∷ ps) zero e = inl (cc)
        here (p ∷ ps) (suc k) e = inr (here ps k e)

    -- what stays unserved without a pair that is kept, once the next one goes
    fewer : (xs ys : List Pair) → are_served (xs ++ (ys ++ drop k pairs)) needs ≡ false → are_served (xs ++ (ys ++ rest)) needs ≡ false
    fewer xs ys out = unserved_fewer (xs ++ (ys ++ rest)) (xs ++ (ys ++ drop k pairs)) needs (λ p h. elim (among_either p xs (ys ++ rest) h) [
      | inl front ↦ among_left p xs (ys ++ drop k pairs) front
      | inr back ↦ among_right p xs (ys ++ drop k pairs) (elim (among_either p ys rest back) [
        | inl middle ↦ among_left p ys (drop k pairs) middle
        | inr end ↦ among_right p ys (drop k pairs) (subst (Among p) (sym next) (inr end))
      ])
    ]) out

    kept_too : (old : List Pair) (pair : Pair) → slice_get pairs k ≡ Some pair → AreKeptTo k old → are_served (old ++ rest) needs ≡ false
        → AreKeptTo (k + 1) (old ++ pair ∷ [])
    kept_too old pair is are out = record {
      served = subst (λ ps. are_served ps needs ≡ true)
          (ap (λ ps. old ++ ps) (next ∙ ap (λ p. p ∷ rest) (there pair is)) ∙ sym (append_assoc old (pair ∷ []) rest)) are.served;
      inside = λ p h. elim (among_either p old (pair ∷ []) h) [ inl before ↦ are.inside p before | inr now ↦ last p now ];
      needed = λ firsts p others e. elim (split_last old firsts p pair others e) [
        | inl s ↦ at_end firsts others s.none s.all
        | inr s ↦ before firsts p others s.rest s.others_are s.split
      ];
    }
      where
        last : (p : Pair) → Among p (pair ∷ []) → Among p pairs
        last p (inl e) = subst (λ q. Among q pairs) e (inside_all pair is)
        last p (inr h) = absurd h

        at_end : (firsts others : List Pair) → others ≡ [] → firsts ≡ old → are_served (firsts ++ (others ++ rest)) needs ≡ false
        at_end firsts others none all = ap (λ ps. are_served ps needs) (λ i. all i ++ (none i ++ rest)) ∙ out

        before : (firsts : List Pair) (p : Pair) (others more : List Pair) → others ≡ more ++ pair ∷ [] → old ≡ firsts ++ p ∷ more
            → are_served (firsts ++ (others ++ rest)) needs ≡ false
        before firsts p others more end split =
            ap (λ ps. are_served (firsts ++ ps) needs) (ap (λ ps. ps ++ rest) end ∙ append_assoc more (pair ∷ []) rest
            ∙ ap (λ ps. more ++ ps) (sym (next ∙ ap (λ q. q ∷ rest) (there pair is))))
            ∙ are.needed firsts p more split

    pub one_more_kept : (old new : List Pair) → AreKeptTo k old → KeepsNeeded needs pairs k old new → AreKeptTo (k + 1) new
    one_more_kept old new are (inl (served, stays)) = subst (AreKeptTo (k + 1)) (sym stays) (record {
      served = served;
      inside = are.inside;
      needed = λ firsts p others e. fewer firsts others (are.needed firsts p others e);
    })
    one_more_kept old new are (inr (pair, is, out, put)) = subst (AreKeptTo (k + 1)) (sym put) (kept_too old pair is are out)

  pub all_kept : (k : ℕ) (kept : List Pair) → drop k pairs ≡ [] → AreKeptTo k kept → AreKeptOf needs pairs kept
  all_kept k kept past are = record {
    served = subst (λ ps. are_served ps needs ≡ true) (ap (λ ps. kept ++ ps) past ∙ append-nil kept) are.served;
    among = λ p h. contained p pairs (are.inside p (among p kept h));
    needed = λ firsts p others e. subst (λ ps. are_served (firsts ++ ps) needs ≡ false) (ap (λ ps. others ++ ps) past ∙ append-nil others)
        (are.needed firsts p others e);
  }
    where
      append-nil : (ps : List Pair) → ps ++ [] ≡ ps
      append-nil [] = refl
      append-nil (p ∷ ps) = ap (λ qs. p ∷ qs) (append-nil ps)

-- the test of both lists is the test of them joined
pub both_served : (pairs others : List Pair) (needs : List OpenNeed)
    → list_all (λ need. is_served pairs need || is_served others need) needs ≡ are_served (pairs ++ others) needs
both_served pairs others [] = refl
both_served pairs others (n ∷ ns) =
    let here = list_any-append (λ p. serves p n) pairs others in
    let behind = both_served pairs others ns in
    λ i. sym here i && behind i

-- pairs that stand in order help each need in time
pub kept_pairs : KeptPairsLaw
kept_pairs needs pairs count order served is stand = (helps needs count order is).1 (λ need at e only. helped need (all_at (is_served pairs) needs served at need e))
  where
    helped : (need : OpenNeed) → is_served pairs need ≡ true → IsHelpedInTime order need
    helped need one =
        let (p, there, it) = some_of (λ p. serves p need) pairs one in
        let both = and_parts (has need.helpers.items p.earlier) (has need.blockers.items p.later) it in
        let stands = stand p (contained p pairs there) in
        record {
          helper = p.earlier;
          blocker = p.later;
          helps = both.0;
          blocks = both.1;
          early = stands.early;
          late = stands.late;
          helper_at = stands.earlier_at;
          blocker_at = stands.later_at;
          in_time = (let less = stands.in_order in omega (arith, less));
        }
