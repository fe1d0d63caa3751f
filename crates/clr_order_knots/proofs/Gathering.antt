-- Needs that are gathered because they have members in common are those of a knot; knots of a part are knots of all.
use Rattle.std.proofs.Common.{◌≡◌, ◌∙◌, ◌<◌, ◌≤◌, ◌+◌, ◌==◌, ◌⊎◌, ℕ, zero, suc, Bool, true, false, not, List, [], ◌∷◌, ◌++◌, Some, inl, inr}
use Rattle.std.proofs.Common.{Contains, drop, get_or, length, slice_get, take, refl, sym, ap, subst, arith}
use Rattle.std.specs.List.{cons_option, filter, filter_map}
use Rattle.std.proofs.lemmas.Bool.{cases_Bool, false≢true, true≢false, or_left, or_right}
use Rattle.std.proofs.lemmas.List.Elements.{filter_map-append}
use Rattle.clr_order_search.specs.declared.limits.TheConstants.{MOST_SEARCHED}
use Rattle.clr_order_search.specs.declared.open_needs.OpenNeed.{OpenNeed}
use Rattle.clr_order_search.specs.OpenNeeds.{has}
use Rattle.clr_order_search.proofs.Rests.{itself}
use Rattle.clr_order_knots.specs.declared.knots.Knot.{Knot}
use Rattle.clr_order_knots.specs.Knots.{Absorbs, AreKnotsSmall, IsClosed, IsInSmallKnot, IsKnot, IsKnotOf, IsLargeKnot, IsPart, NoneTouches, touches}
use Rattle.clr_order_knots.specs.Members.{ArePlaces, AreOnce, AreThose, Tells, concerns, is_concerned, needs_at}
use Rattle.clr_order_knots.specs.OpenNeeds.{AreWithin, IsWithin}
use Rattle.clr_order_knots.specs.Peeling.{AreAmong}
use Rattle.clr_order_knots.specs.Places.{as_wanted, passes_at, reaches}
use Rattle.clr_order_knots.proofs.Lists.{Among, among, among_either, among_left, among_right, contained, of_filter, same_bool, to_filter}
use Rattle.clr_order_knots.proofs.Places.{all_filtered_at, at_places_in, concerned_below, concerned_by, concerned_more, concerned_of, filtered_at, places_filtered}
use Rattle.clr_order_knots.proofs.Places.{reached_by, reached_of, unset_by}

-- needs that are gathered ------------------------------------------------------------------------------------------

-- of the needs that are left some are inside and the others outside; those inside are joined by members in common
pub record IsGathered (left inside outside : List OpenNeed) : Type 0 where
  pub in_left : (n : OpenNeed) → Among n inside → Among n left
  pub out_left : (n : OpenNeed) → Among n outside → Among n left
  pub every : (n : OpenNeed) → Among n left → Among n inside ⊎ Among n outside
  pub some : (m : ℕ) × (is_concerned inside m ≡ true)
  pub joined : (others : List ℕ) (m : ℕ) → IsClosed left others → has others m ≡ true → is_concerned inside m ≡ true → (x : ℕ) → is_concerned inside x ≡ true
      → has others x ≡ true

-- one need alone, that somebody blocks
pub one_gathered : (n : OpenNeed) (rest : List OpenNeed) → (m : ℕ) × (has n.blockers.items m ≡ true) → IsGathered (n ∷ rest) (n ∷ []) rest
one_gathered n rest (b, blocks) = record {
  in_left = λ k h. among_left k (n ∷ []) rest h;
  out_left = λ k h. inr h;
  every = λ k h. split k h;
  some = (b, concerned_by (n ∷ []) b n (inl refl) (or_left (has n.blockers.items b) (has n.helpers.items b) blocks));
  joined = λ others m closed h is x is_too. closed n m x (contained n (n ∷ rest) (inl refl)) h (alone m is) (alone x is_too);
}
  where
    split : (k : OpenNeed) → Among k (n ∷ rest) → Among k (n ∷ []) ⊎ Among k rest
    split k (inl e) = inl (inl e)
    split k (inr h) = inr h

    alone : (m : ℕ) → is_concerned (n ∷ []) m ≡ true → concerns m n ≡ true
    alone m is = let (k, there, c) = concerned_of (n ∷ []) m is in by k there c
      where
        by : (k : OpenNeed) → Among k (n ∷ []) → concerns m k ≡ true → concerns m n ≡ true
        by k (inl e) c = subst (λ j. concerns m j ≡ true) (sym e) c
        by k (inr h) c = absurd h

module _ (left inside outside touching others : List OpenNeed) (touch : touching ≡ filter (touches inside) outside)
    (rest : others ≡ filter (λ n. not (touches inside n)) outside) (is : IsGathered left inside outside) where
  touched : (n : OpenNeed) → Among n touching → Among n outside × (touches inside n ≡ true)
  touched n h = of_filter (touches inside) n outside (subst (Among n) touch h)

  -- who is concerned once more needs are inside is joined with one who was
  back : (ms : List ℕ) → IsClosed left ms → (m : ℕ) → has ms m ≡ true → is_concerned (inside ++ touching) m ≡ true
      → (c : ℕ) × (is_concerned inside c ≡ true) × (has ms c ≡ true)
  back ms closed m h among_those =
      let (n, there, c) = concerned_of (inside ++ touching) m among_those in
      elim (among_either n inside touching there) [
        | inl a ↦ (m, concerned_by inside m n a c, h)
        | inr a ↦ (let (out, touch_it) = touched n a in let (x, x_in, is_x) = reached_of (is_concerned inside) n touch_it in
            (x, is_x, closed n m x (contained n left (is.out_left n out)) h c x_in))
      ]

  forth : (ms : List ℕ) → IsClosed left ms → ((c : ℕ) → is_concerned inside c ≡ true → has ms c ≡ true) → (x : ℕ) → is_concerned (inside ++ touching) x ≡ true
      → has ms x ≡ true
  forth ms closed all x among_those =
      let (n, there, c) = concerned_of (inside ++ touching) x among_those in
      elim (among_either n inside touching there) [
        | inl a ↦ all x (concerned_by inside x n a c)
        | inr a ↦ (let (out, touch_it) = touched n a in let (y, y_in, is_y) = reached_of (is_concerned inside) n touch_it in
            closed n y x (contained n left (is.out_left n out)) (all y is_y) y_in c)
      ]

  pub more_gathered : IsGathered left (inside ++ touching) others
  more_gathered = record {
    in_left = λ n h. elim (among_either n inside touching h) [ inl a ↦ is.in_left n a | inr a ↦ is.out_left n (touched n a).0 ];
    out_left = λ n h. is.out_left n (of_filter (λ k. not (touches inside k)) n outside (subst (Among n) rest h)).0;
    every = λ n h. elim (is.every n h) [ inl a ↦ inl (among_left n inside touching a) | inr a ↦ side n a ];
    some = (is.some.0, concerned_more inside (inside ++ touching) is.some.0 (λ n h. among_left n inside touching h) is.some.1);
    joined = λ ms m closed h here x is_x. (let (c, is_c, there) = back ms closed m h here in forth ms closed (is.joined ms c closed there is_c) x is_x);
  }
    where
      side : (n : OpenNeed) → Among n outside → Among n (inside ++ touching) ⊎ Among n others
      side n a = elim (cases_Bool (touches inside n)) [
        | inl does ↦ inl (among_right n inside touching (subst (Among n) (sym touch)
            (to_filter (touches inside) n outside a does)))
        | inr other ↦ inr (subst (Among n) (sym rest) (to_filter (λ k. not (touches inside k)) n outside a (ap not other)))
      ]

-- once no need outside touches those inside, these are the needs of a knot
module _ (needs : List OpenNeed) (count : ℕ) (within : AreWithin needs count) (left : List OpenNeed) (all : (n : OpenNeed) → Among n left → Among n needs)
    (inside outside : List OpenNeed) (is : IsGathered left inside outside) (none : (n : OpenNeed) → Among n outside → touches inside n ≡ false)
    (members : List ℕ) (those : AreThose count (is_concerned inside) members) where
  listed : (m : ℕ) → is_concerned inside m ≡ true → has members m ≡ true
  listed m h = those.every m (concerned_below needs count within inside (λ n there. all n (is.in_left n there)) m h) h

  pub gathered_apart : (m : ℕ) → is_concerned inside m ≡ true → is_concerned outside m ≡ false
  gathered_apart m h = unset_by (is_concerned outside m) (λ g. (let (n, there, c) = concerned_of outside m g in
      true≢false (sym (reached_by (is_concerned inside) n m c h) ∙ none n there)))

  pub gathered_knot : IsKnot left members
  gathered_knot = record {
    some = (is.some.0, listed is.some.0 is.some.1);
    once = those.once;
    concerned = λ m h. concerned_more inside left m is.in_left (those.such m h);
    closed = λ n m x there h c d. elim (is.every n (among n left there)) [
      | inl a ↦ listed x (concerned_by inside x n a d)
      | inr a ↦ absurd (true≢false (sym (reached_by (is_concerned inside) n m c (those.such m h)) ∙ none n a))
    ];
    joined = λ others m closed h there x is_x. is.joined others m closed h (those.such m there) x (those.such x is_x);
  }

-- knots of a part --------------------------------------------------------------------------------------------------

pub whole_part : (needs : List OpenNeed) → IsPart needs needs
whole_part needs = record { among = λ n h. h; whole = λ n m h c is. h }

pub knot_of_part : (needs part : List OpenNeed) → IsPart needs part → (members : List ℕ) → IsKnot part members → IsKnot needs members
knot_of_part needs part is members knot = record {
  some = knot.some;
  once = knot.once;
  concerned = λ m h. concerned_more part needs m (λ n there. among n needs (is.among n (contained n part there))) (knot.concerned m h);
  closed = λ n m x there h c d. knot.closed n m x (is.whole n m there c (knot.concerned m h)) h c d;
  joined = λ others m closed h there x is_x. knot.joined others m (λ n y z a b c d. closed n y z (is.among n a) b c d) h there x is_x;
}

-- what is outside a knot of a part is a part
pub outside_part : (needs part inside outside : List OpenNeed) → IsPart needs part → ((n : OpenNeed) → Contains outside n → Contains part n)
    → ((n : OpenNeed) → Contains part n → Contains inside n ⊎ Contains outside n)
    → ((m : ℕ) → is_concerned inside m ≡ true → is_concerned outside m ≡ false) → IsPart needs outside
outside_part needs part inside outside is out every apart = record {
  among = λ n h. is.among n (out n h);
  whole = λ n m there c h. (
      let (k, at, d) = concerned_of outside m h in
      let here = is.whole n m there c (concerned_by part m k (among k part (out k (contained k outside at))) d) in
      elim (every n here) [
        | inl a ↦ absurd (true≢false (sym h ∙ apart m (concerned_by inside m n (among n inside a) c)))
        | inr a ↦ a
      ]
      );
}

-- needs at places that tables tell ------------------------------------------------------------------------------------

module _ (needs : List OpenNeed) (table : List Bool) (inside outside : List ℕ) (tells : Tells table (is_concerned (needs_at needs inside))) where
  abbrev ins : List OpenNeed
  ins = needs_at needs inside

  abbrev told : Bool → OpenNeed → Bool
  told wanted need = as_wanted wanted (reaches (λ m. get_or table m false) need)

  pub reached_places : (wanted : Bool) (those : List ℕ) → those ≡ filter (passes_at needs (told wanted)) outside
      → needs_at needs those ≡ filter (λ need. as_wanted wanted (touches ins need)) (needs_at needs outside)
  reached_places wanted those is = ap (needs_at needs) is ∙ filtered_at needs (told wanted) outside
      ∙ (λ i. filter (λ need. as_wanted wanted (reaches (λ m. tells m i) need)) (needs_at needs outside))

  pub none_reached : (rest : List ℕ) → rest ≡ filter (passes_at needs (told false)) outside → length outside ≤ length rest → NoneTouches needs inside outside
  none_reached rest is long n h = ap (λ (t : ℕ → Bool). reaches t n) (λ i m. sym (tells m) i) ∙ unset (reaches (λ m. get_or table m false) n)
      (of_filter (told false) n (needs_at needs outside) (subst (Among n) (all_filtered_at needs (told false) outside
      (subst (λ xs. length outside ≤ length xs) is long)) (among n (needs_at needs outside) h))).1
    where
      unset : (b : Bool) → not b ≡ true → b ≡ false
      unset true e = absurd (false≢true e)
      unset false e = refl

  pub absorbs : (rest touching more : List ℕ) → rest ≡ filter (passes_at needs (told false)) outside → touching ≡ filter (passes_at needs (told true)) outside
      → more ≡ inside ++ touching → length rest < length outside → Absorbs needs inside outside more rest
  absorbs rest touching more rest_is touching_is put less = record {
    touching = touching;
    put = put;
    touch = reached_places true touching touching_is;
    rest = reached_places false rest rest_is;
    fewer = less;
    among = λ at h. places_filtered needs (told false) outside at (subst (λ xs. has xs at ≡ true) rest_is h);
  }

-- gathering, round by round ------------------------------------------------------------------------------------------

pub record IsGathering (needs : List OpenNeed) (left inside outside : List ℕ) : Type 0 where
  pub gathered : IsGathered (needs_at needs left) (needs_at needs inside) (needs_at needs outside)
  pub fewer : length outside < length left
  pub places : ArePlaces needs outside

at_within : {X : Type 0} (xs : List X) (k : ℕ) → k < length xs → (x : X) × (slice_get xs k ≡ Some x)
at_within [] k less = absurd (omega (arith, less))
at_within (x ∷ xs) zero less = (x, refl)
at_within (x ∷ xs) (suc k) less = at_within xs k (omega (arith, less))

take_none : (xs : List ℕ) → take 0 xs ≡ []
take_none [] = refl
take_none (x ∷ xs) = refl

drop_none : (xs : List ℕ) → drop 0 xs ≡ xs
drop_none [] = refl
drop_none (x ∷ xs) = refl

module _ (needs : List OpenNeed) (count : ℕ) (within : AreWithin needs count) where
  pub gathering_begun : (left : List ℕ) → ArePlaces needs left → 0 < length left → IsGathering needs left (take 1 left) (drop 1 left)
  gathering_begun [] places some = absurd (omega (arith, some))
  gathering_begun (k ∷ ks) places some =
      let (n, e) = at_within needs k (places k (or_left (k == k) (has ks k) (itself k))) in
      subst (λ xs. IsGathering needs (k ∷ ks) (k ∷ xs) (drop 1 (k ∷ ks))) (sym (take_none ks))
      (subst (λ ys. IsGathering needs (k ∷ ks) (k ∷ []) ys) (sym (drop_none ks)) (record {
        gathered = subst (λ o. IsGathered (cons_option o (needs_at needs ks)) (cons_option o []) (needs_at needs ks)) (sym e)
            (one_gathered n (needs_at needs ks) (within n k e).blocked);
        fewer = omega arith;
        places = λ at h. places at (or_right (k == at) (has ks at) h);
      }))

  pub gathering_more : (left inside outside more others : List ℕ) → Absorbs needs inside outside more others → IsGathering needs left inside outside
      → IsGathering needs left more others
  gathering_more left inside outside more others put is = record {
    gathered = subst (λ ns. IsGathered (needs_at needs left) ns (needs_at needs others)) (sym (ap (needs_at needs) put.put
        ∙ filter_map-append (slice_get needs) inside put.touching))
        (more_gathered (needs_at needs left) (needs_at needs inside) (needs_at needs outside) (needs_at needs put.touching) (needs_at needs others)
        put.touch put.rest is.gathered);
    fewer = (let less = is.fewer in let lesser = put.fewer in omega (arith, less, lesser));
    places = λ at h. is.places at (put.among at h);
  }

  pub knot_gathered : (left : List ℕ) (knot : Knot) → IsGathering needs left knot.inside.items knot.outside.items
      → NoneTouches needs knot.inside.items knot.outside.items → AreThose count (is_concerned (needs_at needs knot.inside.items)) knot.members.items
      → IsKnotOf needs count left knot
  knot_gathered left knot is none those =
      let lefts = needs_at needs left in
      let ins = needs_at needs knot.inside.items in
      let outs = needs_at needs knot.outside.items in
      let untouched = λ (n : OpenNeed) (h : Among n outs). none n (contained n outs h) in record {
        is_knot = gathered_knot needs count within lefts (at_places_in needs left) ins outs is.gathered untouched knot.members.items those;
        below = those.below;
        short = those.short;
        members = λ m. same_bool (has knot.members.items m) (is_concerned ins m) (those.such m) (λ h. those.every m
            (concerned_below needs count within ins (at_places_in needs knot.inside.items) m h) h);
        inside = λ n h. contained n lefts (is.gathered.in_left n (among n ins h));
        outside = λ n h. contained n lefts (is.gathered.out_left n (among n outs h));
        every = λ n h. elim (is.gathered.every n (among n lefts h)) [ inl a ↦ inl (contained n ins a) | inr a ↦ inr (contained n outs a) ];
        apart = gathered_apart needs count within lefts (at_places_in needs left) ins outs is.gathered untouched knot.members.items those;
        fewer = is.fewer;
        places = is.places;
      }

-- a large knot, knot after knot ----------------------------------------------------------------------------------------

pub record IsSmallSoFar (needs : List OpenNeed) (left rest : List ℕ) : Type 0 where
  pub part : IsPart (needs_at needs left) (needs_at needs rest)
  pub small : (m : ℕ) → is_concerned (needs_at needs left) m ≡ true → (is_concerned (needs_at needs rest) m ≡ true) ⊎ IsInSmallKnot (needs_at needs left) m
  pub places : ArePlaces needs rest

module _ (needs : List OpenNeed) (count : ℕ) (left : List ℕ) where
  pub none_small_yet : ArePlaces needs left → IsSmallSoFar needs left left
  none_small_yet places = record { part = whole_part (needs_at needs left); small = λ m h. inl h; places = places }

  pub part_without : (rest : List ℕ) (knot : Knot) → IsPart (needs_at needs left) (needs_at needs rest) → IsKnotOf needs count rest knot
      → IsPart (needs_at needs left) (needs_at needs knot.outside.items)
  part_without rest knot part is = outside_part (needs_at needs left) (needs_at needs rest) (needs_at needs knot.inside.items)
      (needs_at needs knot.outside.items) part is.outside is.every is.apart

  pub one_small : (rest : List ℕ) (knot : Knot) → IsSmallSoFar needs left rest → IsKnotOf needs count rest knot → length knot.members.items ≤ MOST_SEARCHED
      → IsSmallSoFar needs left knot.outside.items
  one_small rest knot so_far is few = record {
    part = part_without rest knot so_far.part is;
    small = λ m h. elim (so_far.small m h) [ inl a ↦ side m a | inr a ↦ inr a ];
    places = is.places;
  }
    where
      side : (m : ℕ) → is_concerned (needs_at needs rest) m ≡ true
          → (is_concerned (needs_at needs knot.outside.items) m ≡ true) ⊎ IsInSmallKnot (needs_at needs left) m
      side m h =
          let (n, there, c) = concerned_of (needs_at needs rest) m h in
          elim (is.every n (contained n (needs_at needs rest) there)) [
            | inl a ↦ inr (record {
              members = knot.members.items;
              knot = knot_of_part (needs_at needs left) (needs_at needs rest) so_far.part knot.members.items is.is_knot;
              there = is.members m ∙ concerned_by (needs_at needs knot.inside.items) m n (among n (needs_at needs knot.inside.items) a) c;
              small = few;
            })
            | inr a ↦ inl (concerned_by (needs_at needs knot.outside.items) m n (among n (needs_at needs knot.outside.items) a) c)
          ]

  pub all_small : (rest : List ℕ) → rest ≡ [] → IsSmallSoFar needs left rest → AreKnotsSmall (needs_at needs left)
  all_small rest none so_far m h = elim (so_far.small m h) [
    | inl a ↦ absurd (false≢true (sym (ap (λ ps. is_concerned (needs_at needs ps) m) none) ∙ a))
    | inr a ↦ a
  ]

  pub is_large : (rest : List ℕ) (knot : Knot) → IsSmallSoFar needs left rest → IsKnotOf needs count rest knot → MOST_SEARCHED < length knot.members.items
      → IsLargeKnot (needs_at needs left) knot.members.items
  is_large rest knot so_far is long = (knot_of_part (needs_at needs left) (needs_at needs rest) so_far.part knot.members.items is.is_knot, long)
