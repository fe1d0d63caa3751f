-- Members that go first and last: what is left of the needs is helped in between, and is the greatest tangle.
use Rattle.std.proofs.Common.{◌≡◌, ◌∙◌, ◌<◌, ◌≤◌, ◌+◌, ◌&&◌, ◌||◌, ◌==◌, ◌⊎◌, ℕ, Bool, true, false, not, List, [], ◌∷◌, ◌++◌, Some, inl, inr}
use Rattle.std.proofs.Common.{Contains, append_assoc, get_or, length, slice_get, refl, sym, ap, subst, arith}
use Rattle.std.specs.List.{filter, list_all}
use Rattle.std.proofs.lemmas.Bool.{and_from, and_parts, cases_Bool, false≢true, true≢false, or_cases, or_left, or_right}
use Rattle.std.proofs.lemmas.Option.{slice_get_within}
use Rattle.clr_order_search.specs.declared.open_needs.OpenNeed.{OpenNeed}
use Rattle.clr_order_search.specs.Laws.{IsHelpedInTime}
use Rattle.clr_order_search.specs.OpenNeeds.{has}
use Rattle.clr_order_search.specs.Orders.{IsOrder}
use Rattle.clr_order_search.proofs.Positions.{all_of, each_of}
use Rattle.clr_order_search.proofs.Rests.{at_of, itself}
use Rattle.clr_order_knots.specs.declared.peeling.Peeled.{Peeled}
use Rattle.clr_order_knots.specs.declared.sides.NeedSide.TheVariants as side
use Rattle.clr_order_knots.specs.Members.{ArePlaces, AreOnce, AreThose, Tells, concerns, is_concerned, is_on, needs_at}
use Rattle.clr_order_knots.specs.OpenNeeds.{AreHelped, AreWithin, IsWithin}
use Rattle.clr_order_knots.specs.Peeling.{AreAmong, AreEnds, AreHelpedInTime, AreLeft, AreTangled, IsFilled, IsPeeled, IsRound, Stay, goes_first, goes_last, stays}
use Rattle.clr_order_knots.specs.Places.{keeps, passes_at}
use Rattle.clr_order_knots.proofs.Lists.{Among, among, among_at, contained, contained_at, filter_all, has_either, has_filtered, has_left, has_right, of_filter, once_apart, once_first}
use Rattle.clr_order_knots.proofs.Lists.{once_joined, once_second, place_left, place_right, same_bool, to_filter}
use Rattle.clr_order_knots.proofs.Places.{at_place, at_places_in, concerned_by, concerned_more, concerned_of, filtered_at, helped_each, on_by, on_more, unset_by, within_each}

-- needs that parts of an order help in time ----------------------------------------------------------------------

module _ (xs ys : List ℕ) (need : OpenNeed) where
  pub helped_left : IsHelpedInTime xs need → IsHelpedInTime (xs ++ ys) need
  helped_left h = record {
    helper = h.helper;
    blocker = h.blocker;
    helps = h.helps;
    blocks = h.blocks;
    early = h.early;
    late = h.late;
    helper_at = place_left xs ys h.early h.helper h.helper_at;
    blocker_at = place_left xs ys h.late h.blocker h.blocker_at;
    in_time = h.in_time;
  }

  pub helped_right : IsHelpedInTime ys need → IsHelpedInTime (xs ++ ys) need
  helped_right h =
      let (j, is, e) = place_right xs ys h.early h.helper h.helper_at in
      let (k, is_too, f) = place_right xs ys h.late h.blocker h.blocker_at in
      record {
        helper = h.helper;
        blocker = h.blocker;
        helps = h.helps;
        blocks = h.blocks;
        early = j;
        late = k;
        helper_at = e;
        blocker_at = f;
        in_time = (let order = h.in_time in omega (arith, is, is_too, order));
      }

  -- a helper stands in the first part, and a blocker in the second
  pub helped_across : (h b : ℕ) → has need.helpers.items h ≡ true → has need.blockers.items b ≡ true → has xs h ≡ true → has ys b ≡ true
      → IsHelpedInTime (xs ++ ys) need
  helped_across h b helps blocks first second =
      let (i, e) = at_of xs h first in
      let (j, f) = at_of ys b second in
      let (k, is, at) = place_right xs ys j b f in
      let less = slice_get_within xs i h e in
      record {
        helper = h;
        blocker = b;
        helps = helps;
        blocks = blocks;
        early = i;
        late = k;
        helper_at = place_left xs ys i h e;
        blocker_at = at;
        in_time = omega (arith, is, less);
      }

pub helped_one : (order : List ℕ) (ns : List OpenNeed) → AreHelpedInTime order ns → (need : OpenNeed) → Among need ns → IsHelpedInTime order need
helped_one order ns each need there = let (at, e) = contained_at ns need (contained need ns there) in each need at e

pub each_helped : (order : List ℕ) (ns : List OpenNeed) → ((need : OpenNeed) → Among need ns → IsHelpedInTime order need) → AreHelpedInTime order ns
each_helped order ns each need at e = each need (among_at ns at need e)

-- where not all pass a test, one doesn't
not_all : (p : ℕ → Bool) (xs : List ℕ) → list_all p xs ≡ false → (x : ℕ) × (has xs x ≡ true) × (p x ≡ false)
not_all p [] h = absurd (true≢false h)
not_all p (x ∷ xs) h = by (p x) refl h (not_all p xs)
  where
    by : (b : Bool) → p x ≡ b → b && list_all p xs ≡ false → (list_all p xs ≡ false → (y : ℕ) × (has xs y ≡ true) × (p y ≡ false))
        → (y : ℕ) × (has (x ∷ xs) y ≡ true) × (p y ≡ false)
    by true e g rest = let (y, there, out) = rest g in (y, or_right (x == y) (has xs y) there, out)
    by false e g rest = (x, or_left (x == x) (has xs x) (itself x), e)

not_both : (a b : Bool) → a && b ≡ false → (a ≡ false) ⊎ (b ≡ false)
not_both true b e = inr e
not_both false b e = inl refl

set_and_not : (a b : Bool) → a && not b ≡ true → (a ≡ true) × (b ≡ false)
set_and_not true false e = (refl, refl)
set_and_not true true e = absurd (false≢true e)
set_and_not false b e = absurd (false≢true e)

and_not : (a b : Bool) → a ≡ true → b ≡ false → a && not b ≡ true
and_not a b e f = λ i. e i && not (f i)

-- what is left after a round --------------------------------------------------------------------------------------

module _ (needs : List OpenNeed) (count : ℕ) (within : AreWithin needs count) (helped : AreHelped needs) (left : List OpenNeed)
    (all : (n : OpenNeed) → Among n left → Among n needs) where
  -- whom a need that stays concerns blocks one of the needs and helps one
  pub both_sides : (n : OpenNeed) (m : ℕ) → Among n left → stays left n ≡ true → concerns m n ≡ true
      → (is_on side.Blockers left m ≡ true) × (is_on side.Helpers left m ≡ true)
  both_sides n m there stay h =
      let both = and_parts (list_all (is_on side.Blockers left) n.helpers.items) (list_all (is_on side.Helpers left) n.blockers.items) stay in
      elim (or_cases (has n.blockers.items m) (has n.helpers.items m) h) [
        | inl b ↦ (on_by side.Blockers left m n there b, each_of (is_on side.Helpers left) n.blockers.items both.1 m b)
        | inr b ↦ (each_of (is_on side.Blockers left) n.helpers.items both.0 m b, on_by side.Helpers left m n there b)
      ]

  module _ (firsts lasts first last : List ℕ) (ends : AreEnds needs count left firsts lasts) (are_first : AreThose count (goes_first left) first)
      (are_last : AreThose count (goes_last left) last) where
    firsts_free : (m : ℕ) → has firsts m ≡ true → is_concerned left m ≡ true → ⊥
    firsts_free m h is = true≢false (sym is ∙ ends.free m (has_left firsts lasts m h))

    lasts_free : (m : ℕ) → has lasts m ≡ true → is_concerned left m ≡ true → ⊥
    lasts_free m h is = true≢false (sym is ∙ ends.free m (has_right firsts lasts m h))

    first_is : (m : ℕ) → has first m ≡ true → (is_on side.Helpers left m ≡ true) × (is_on side.Blockers left m ≡ false)
    first_is m h = set_and_not (is_on side.Helpers left m) (is_on side.Blockers left m) (are_first.such m h)

    last_is : (m : ℕ) → has last m ≡ true → (is_on side.Blockers left m ≡ true) × (is_on side.Helpers left m ≡ false)
    last_is m h = set_and_not (is_on side.Blockers left m) (is_on side.Helpers left m) (are_last.such m h)

    helping : (m : ℕ) → is_on side.Helpers left m ≡ true → is_concerned left m ≡ true
    helping m h = or_right (is_on side.Blockers left m) (is_on side.Helpers left m) h

    blocking : (m : ℕ) → is_on side.Blockers left m ≡ true → is_concerned left m ≡ true
    blocking m h = or_left (is_on side.Blockers left m) (is_on side.Helpers left m) h

    below : (m : ℕ) → has ((firsts ++ first) ++ (last ++ lasts)) m ≡ true → m < count
    below m h = elim (has_either (firsts ++ first) (last ++ lasts) m h) [
      | inl a ↦ elim (has_either firsts first m a) [ inl b ↦ ends.below m (has_left firsts lasts m b) | inr b ↦ are_first.below m b ]
      | inr a ↦ elim (has_either last lasts m a) [ inl b ↦ are_last.below m b | inr b ↦ ends.below m (has_right firsts lasts m b) ]
    ]

    once : AreOnce ((firsts ++ first) ++ (last ++ lasts))
    once = once_joined (firsts ++ first) (last ++ lasts)
        (once_joined firsts first (once_first firsts lasts ends.once) are_first.once (λ m h g. firsts_free m h (helping m (first_is m g).0)))
        (once_joined last lasts are_last.once (once_second firsts lasts ends.once) (λ m h g. lasts_free m g (blocking m (last_is m h).0)))
        apart
      where
        apart : (m : ℕ) → has (firsts ++ first) m ≡ true → has (last ++ lasts) m ≡ true → ⊥
        apart m h g = elim (has_either firsts first m h) [
          | inl a ↦ elim (has_either last lasts m g) [
            | inl b ↦ firsts_free m a (blocking m (last_is m b).0)
            | inr b ↦ once_apart firsts lasts ends.once m a b
          ]
          | inr a ↦ elim (has_either last lasts m g) [
            | inl b ↦ true≢false (sym (last_is m b).0 ∙ (first_is m a).1)
            | inr b ↦ lasts_free m b (helping m (first_is m a).0)
          ]
        ]

    module _ (rest : List OpenNeed) (stay : rest ≡ filter (stays left) left) where
      of_rest : (n : OpenNeed) → Among n rest → Among n left × (stays left n ≡ true)
      of_rest n h = of_filter (stays left) n left (subst (Among n) stay h)

      concerned_both : (m : ℕ) → is_concerned rest m ≡ true → (is_on side.Blockers left m ≡ true) × (is_on side.Helpers left m ≡ true)
      concerned_both m h =
          let (n, there, is) = concerned_of rest m h in
          let (before, stays_so) = of_rest n there in
          both_sides n m before stays_so is

      free : (m : ℕ) → has ((firsts ++ first) ++ (last ++ lasts)) m ≡ true → is_concerned rest m ≡ false
      free m h = unset_by (is_concerned rest m) (λ is. (let both = concerned_both m is in
          elim (has_either (firsts ++ first) (last ++ lasts) m h) [
            | inl a ↦ elim (has_either firsts first m a) [
              | inl b ↦ firsts_free m b (blocking m both.0)
              | inr b ↦ true≢false (sym both.0 ∙ (first_is m b).1)
            ]
            | inr a ↦ elim (has_either last lasts m a) [
              | inl b ↦ true≢false (sym both.1 ∙ (last_is m b).1)
              | inr b ↦ lasts_free m b (blocking m both.0)
            ]
          ]))

      module _ (between : List ℕ) (order : IsOrder count ((firsts ++ first) ++ (between ++ (last ++ lasts)))) (each : AreHelpedInTime between rest) where
        -- whom a need that is left concerns stands behind the first and before the last ones
        placed : (m : ℕ) → m < count → is_concerned left m ≡ true → (has first m ≡ true) ⊎ ((has between m ≡ true) ⊎ (has last m ≡ true))
        placed m less is = elim (has_either (firsts ++ first) (between ++ (last ++ lasts)) m (order.every m less)) [
          | inl a ↦ elim (has_either firsts first m a) [ inl b ↦ absurd (firsts_free m b is) | inr b ↦ inl b ]
          | inr a ↦ elim (has_either between (last ++ lasts) m a) [
            | inl b ↦ inr (inl b)
            | inr b ↦ elim (has_either last lasts m b) [ inl d ↦ inr (inr d) | inr d ↦ absurd (lasts_free m d is) ]
          ]
        ]

        -- a helper may go first: it comes before each blocker
        by_first : (n : OpenNeed) → Among n left → (h : ℕ) → has n.helpers.items h ≡ true → is_on side.Blockers left h ≡ false
            → IsHelpedInTime (first ++ (between ++ last)) n
        by_first n there h helps out =
            let w = within_each needs count within n (all n there) in
            let (b, blocks) = w.blocked in
            let is = on_by side.Blockers left b n there blocks in
            let goes = are_first.every h (w.helpers h helps)
            (and_not (is_on side.Helpers left h) (is_on side.Blockers left h) (on_by side.Helpers left h n there helps) out) in
            helped_across first (between ++ last) n h b helps blocks goes (elim (placed b (w.blockers b blocks) (blocking b is)) [
              | inl a ↦ absurd (true≢false (sym is ∙ (first_is b a).1))
              | inr a ↦ elim a [ inl d ↦ has_left between last b d | inr d ↦ has_right between last b d ]
            ])

        -- a blocker may go last: it comes behind each helper
        by_last : (n : OpenNeed) → Among n left → (b : ℕ) → has n.blockers.items b ≡ true → is_on side.Helpers left b ≡ false
            → IsHelpedInTime (first ++ (between ++ last)) n
        by_last n there b blocks out =
            let w = within_each needs count within n (all n there) in
            let (h, helps) = helped_each needs helped n (all n there) in
            let is = on_by side.Helpers left h n there helps in
            let goes = are_last.every b (w.blockers b blocks)
            (and_not (is_on side.Blockers left b) (is_on side.Helpers left b) (on_by side.Blockers left b n there blocks) out) in
            subst (λ order. IsHelpedInTime order n) (append_assoc first between last) (helped_across (first ++ between) last n h b helps blocks
            (elim (placed h (w.helpers h helps) (helping h is)) [
              | inl a ↦ has_left first between h a
              | inr a ↦ elim a [ inl d ↦ has_right first between h d | inr d ↦ absurd (true≢false (sym is ∙ (last_is h d).1)) ]
            ]) goes)

        helped_now : (n : OpenNeed) → Among n left → IsHelpedInTime (first ++ (between ++ last)) n
        helped_now n there = elim (cases_Bool (stays left n)) [
          | inl does ↦ helped_right first (between ++ last) n (helped_left between last n
              (helped_one between rest each n (subst (Among n) (sym stay) (to_filter (stays left) n left there does))))
          | inr other ↦ elim (not_both (list_all (is_on side.Blockers left) n.helpers.items) (list_all (is_on side.Helpers left) n.blockers.items) other) [
            | inl a ↦ (let (h, helps, out) = not_all (is_on side.Blockers left) n.helpers.items a in by_first n there h helps out)
            | inr a ↦ (let (b, blocks, out) = not_all (is_on side.Helpers left) n.blockers.items a in by_last n there b blocks out)
          ]
        ]

        regroup : (firsts ++ first) ++ (between ++ (last ++ lasts)) ≡ firsts ++ ((first ++ (between ++ last)) ++ lasts)
        regroup = simp append_assoc

        helped_then : AreHelpedInTime ((firsts ++ first) ++ (between ++ (last ++ lasts))) needs
        helped_then = subst (λ xs. AreHelpedInTime xs needs) (sym regroup)
            (ends.helped (first ++ (between ++ last)) (subst (IsOrder count) regroup order)
            (each_helped (first ++ (between ++ last)) left helped_now))

      pub more_ends : AreEnds needs count rest (firsts ++ first) (last ++ lasts)
      more_ends = record { below = below; once = once; free = free; helped = helped_then }

-- the greatest tangle ---------------------------------------------------------------------------------------------

-- the needs of a tangle among others stay
pub tangle_stays : (left others : List OpenNeed) → ((n : OpenNeed) → Among n others → Among n left) → AreTangled others → (n : OpenNeed) → Among n others
    → stays left n ≡ true
tangle_stays left others all tangled n there = and_from (list_all (is_on side.Blockers left) n.helpers.items) (list_all (is_on side.Helpers left) n.blockers.items)
    (all_of (is_on side.Blockers left) n.helpers.items
    (λ m h. on_more side.Blockers others left m all (tangled m ∙ on_by side.Helpers others m n there h)))
    (all_of (is_on side.Helpers left) n.blockers.items
    (λ m h. on_more side.Helpers others left m all (sym (tangled m) ∙ on_by side.Blockers others m n there h)))

-- needs that all stay are a tangle
pub all_stay_tangled : (left : List OpenNeed) → ((n : OpenNeed) → Among n left → stays left n ≡ true) → AreTangled left
all_stay_tangled left stay m = same_bool (is_on side.Blockers left m) (is_on side.Helpers left m) (λ h. (side_of m (blocks h)).1) (λ h. (side_of m (helps h)).0)
  where
    blocks : is_on side.Blockers left m ≡ true → is_concerned left m ≡ true
    blocks h = or_left (is_on side.Blockers left m) (is_on side.Helpers left m) h

    helps : is_on side.Helpers left m ≡ true → is_concerned left m ≡ true
    helps h = or_right (is_on side.Blockers left m) (is_on side.Helpers left m) h

    side_of : (m : ℕ) → is_concerned left m ≡ true → (is_on side.Blockers left m ≡ true) × (is_on side.Helpers left m ≡ true)
    side_of m h =
        let (n, there, is) = concerned_of left m h in
        let both = and_parts (list_all (is_on side.Blockers left) n.helpers.items) (list_all (is_on side.Helpers left) n.blockers.items) (stay n there) in
        elim (or_cases (has n.blockers.items m) (has n.helpers.items m) is) [
          | inl b ↦ (on_by side.Blockers left m n there b, each_of (is_on side.Helpers left) n.blockers.items both.1 m b)
          | inr b ↦ (each_of (is_on side.Blockers left) n.helpers.items both.0 m b, on_by side.Helpers left m n there b)
        ]

-- needs at places that tables tell -----------------------------------------------------------------------------------

module _ (needs : List OpenNeed) (blocking helping : List Bool) (left : List ℕ) (blocks : Tells blocking (is_on side.Blockers (needs_at needs left)))
    (helps : Tells helping (is_on side.Helpers (needs_at needs left))) where
  abbrev told : OpenNeed → Bool
  told = keeps (λ m. get_or blocking m false) (λ m. get_or helping m false)

  pub kept_places : (new : List ℕ) → new ≡ filter (passes_at needs told) left → Stay needs left new
  kept_places new is = ap (needs_at needs) is ∙ filtered_at needs told left
      ∙ (λ i. filter (keeps (λ m. blocks m i) (λ m. helps m i)) (needs_at needs left))

  pub kept_among : (new : List ℕ) → new ≡ filter (passes_at needs told) left → (at : ℕ) → has new at ≡ true → has left at ≡ true
  kept_among new is at h = (has_filtered (passes_at needs told) left at (subst (λ xs. has xs at ≡ true) is h)).0

  pub all_kept_places : (new : List ℕ) → new ≡ filter (passes_at needs told) left → length left ≤ length new → Stay needs left left
  all_kept_places new is long = subst (Stay needs left) (is ∙ filter_all (passes_at needs told) left (subst (λ xs. length left ≤ length xs) is long))
      (kept_places new is)

  pub first_told : (count : ℕ) (list : List ℕ) → AreThose count (λ m. get_or helping m false && not (get_or blocking m false)) list
      → AreThose count (goes_first (needs_at needs left)) list
  first_told count list those = subst (λ (t : ℕ → Bool). AreThose count t list) (λ i m. helps m i && not (blocks m i)) those

  pub last_told : (count : ℕ) (list : List ℕ) → AreThose count (λ m. get_or blocking m false && not (get_or helping m false)) list
      → AreThose count (goes_last (needs_at needs left)) list
  last_told count list those = subst (λ (t : ℕ → Bool). AreThose count t list) (λ i m. blocks m i && not (helps m i)) those

-- peeling, round by round -------------------------------------------------------------------------------------------

pub record IsPeeling (needs : List OpenNeed) (count : ℕ) (peeled : Peeled) : Type 0 where
  pub ends : IsPeeled needs count peeled
  pub keeps : (others : List OpenNeed) → AreAmong others needs → AreTangled others → AreAmong others (needs_at needs peeled.left.items)
  pub places : ArePlaces needs peeled.left.items

-- the needs that are left
abbrev left_of : List OpenNeed → Peeled → List OpenNeed
left_of needs peeled = needs_at needs peeled.left.items

module _ (needs : List OpenNeed) (count : ℕ) where
  still_left : (places : List ℕ) → AreThose (length needs) (λ m. true) places → (n : OpenNeed) → Among n needs → Among n (needs_at needs places)
  still_left places those n there =
      let (at, e) = contained_at needs n (contained n needs there) in
      at_place needs places at n (those.every at (slice_get_within needs at n e) refl) e

  no_ends : (left : List OpenNeed) → ((n : OpenNeed) → Among n needs → Among n left) → AreEnds needs count left [] []
  no_ends left still = record {
    below = λ m h. absurd (false≢true h);
    once = λ j k m e f. absurd (cc);
    free = λ m h. absurd (false≢true h);
    helped = λ between order each. each_helped (between ++ []) needs (λ n there. helped_left between [] n (helped_one between left each n (still n there)));
  }

  pub nothing_peeled : (peeled : Peeled) → peeled.firsts.items ≡ [] → peeled.lasts.items ≡ [] → AreThose (length needs) (λ m. true) peeled.left.items
      → IsPeeling needs count peeled
  nothing_peeled peeled no_firsts no_lasts those = record {
    ends = subst (λ fs. AreEnds needs count (left_of needs peeled) fs peeled.lasts.items) (sym no_firsts)
        (subst (λ ls. AreEnds needs count (left_of needs peeled) [] ls) (sym no_lasts)
        (no_ends (left_of needs peeled) (still_left peeled.left.items those)));
    keeps = λ others all tangled n h. contained n (left_of needs peeled) (still_left peeled.left.items those n (among n needs (all n h)));
    places = those.below;
  }

  module _ (within : AreWithin needs count) (helped : AreHelped needs) where
    kept_after : (old new : Peeled) → IsPeeling needs count old → Stay needs old.left.items new.left.items → (others : List OpenNeed) → AreAmong others needs
        → AreTangled others → AreAmong others (left_of needs new)
    kept_after old new is stay others all tangled n h =
        let before = left_of needs old in
        let inside = λ (k : OpenNeed) (there : Among k others). among k before (is.keeps others all tangled k (contained k others there)) in
        let there = among n others h in
        contained n (left_of needs new) (subst (Among n) (sym stay) (to_filter (stays before) n before (inside n there)
        (tangle_stays before others inside tangled n there)))

    pub one_round : (old new : Peeled) → IsPeeling needs count old → IsRound needs count old new → IsPeeling needs count new
    one_round old new is round = record {
      ends = subst (λ fs. AreEnds needs count (left_of needs new) fs new.lasts.items) (sym round.firsts)
          (subst (λ ls. AreEnds needs count (left_of needs new) (old.firsts.items ++ round.first) ls) (sym round.lasts)
          (more_ends needs count within helped (left_of needs old) (at_places_in needs old.left.items) old.firsts.items old.lasts.items round.first round.last
          is.ends round.are_first round.are_last (left_of needs new) round.left));
      keeps = kept_after old new is round.left;
      places = λ at h. is.places at (round.among at h);
    }

  pub left_at_last : (peeled : Peeled) → IsPeeling needs count peeled → Stay needs peeled.left.items peeled.left.items → AreLeft needs (left_of needs peeled)
  left_at_last peeled is stay = record {
    among = λ n h. contained n needs (at_places_in needs peeled.left.items n (among n (left_of needs peeled) h));
    tangled = all_stay_tangled (left_of needs peeled) (λ n there. (of_filter (stays (left_of needs peeled)) n (left_of needs peeled) (subst (Among n) stay there)).1);
    greatest = is.keeps;
  }

-- all members, where nothing is left ------------------------------------------------------------------------------------

module _ (needs : List OpenNeed) (count : ℕ) (firsts lasts : List ℕ) (ends : AreEnds needs count [] firsts lasts) (order : List ℕ)
    (filled : IsFilled count firsts lasts order) where
  abbrev between : List ℕ
  between = filled.between

  neither : (m : ℕ) → has between m ≡ true → (has firsts m ≡ false) × (has lasts m ≡ false)
  neither m h = by (has firsts m) (has lasts m) (filled.others.such m h)
    where
      by : (a b : Bool) → not (a || b) ≡ true → (a ≡ false) × (b ≡ false)
      by true b e = absurd (false≢true e)
      by false true e = absurd (false≢true e)
      by false false e = (refl, refl)

  pub whole_is_order : IsOrder count (firsts ++ (between ++ lasts))
  whole_is_order = record {
    below = λ m h. elim (has_either firsts (between ++ lasts) m h) [
      | inl a ↦ ends.below m (has_left firsts lasts m a)
      | inr a ↦ elim (has_either between lasts m a) [ inl b ↦ filled.others.below m b | inr b ↦ ends.below m (has_right firsts lasts m b) ]
    ];
    every = λ m less. elim (cases_Bool (has firsts m)) [
      | inl a ↦ has_left firsts (between ++ lasts) m a
      | inr a ↦ has_right firsts (between ++ lasts) m (elim (cases_Bool (has lasts m)) [
        | inl b ↦ has_right between lasts m b
        | inr b ↦ has_left between lasts m (filled.others.every m less (λ i. not (a i || b i)))
      ])
    ];
    once = once_joined firsts (between ++ lasts) (once_first firsts lasts ends.once)
        (once_joined between lasts filled.others.once (once_second firsts lasts ends.once) (λ m h g. true≢false (sym g ∙ (neither m h).1)))
        (λ m h g. elim (has_either between lasts m g) [
          | inl a ↦ true≢false (sym h ∙ (neither m a).0)
          | inr a ↦ once_apart firsts lasts ends.once m h a
        ]);
  }

  pub filled_is_order : IsOrder count order
  filled_is_order = subst (IsOrder count) (sym filled.is) whole_is_order

  pub filled_helps : AreHelpedInTime order needs
  filled_helps = subst (λ xs. AreHelpedInTime xs needs) (sym filled.is) (ends.helped between whole_is_order (λ need at e. absurd (cc)))

-- an order of members that hold some of the needs may go first: the others are left
pub knot_put : (needs : List OpenNeed) (count : ℕ) (left inside outside : List OpenNeed) (firsts lasts order : List ℕ) → AreEnds needs count left firsts lasts
    → ((n : OpenNeed) → Among n left → Among n inside ⊎ Among n outside) → ((n : OpenNeed) → Among n inside → Among n left)
    → ((n : OpenNeed) → Among n outside → Among n left) → ((m : ℕ) → has order m ≡ is_concerned inside m)
    → ((m : ℕ) → has order m ≡ true → m < count) → AreOnce order
    → ((m : ℕ) → is_concerned inside m ≡ true → is_concerned outside m ≡ false) → AreHelpedInTime order inside
    → AreEnds needs count outside (firsts ++ order) lasts
knot_put needs count left inside outside firsts lasts order ends every in_left out_left those below once apart helps = record {
  below = λ m h. elim (has_either (firsts ++ order) lasts m h) [
    | inl a ↦ elim (has_either firsts order m a) [ inl b ↦ ends.below m (has_left firsts lasts m b) | inr b ↦ below m b ]
    | inr a ↦ ends.below m (has_right firsts lasts m a)
  ];
  once = once_joined (firsts ++ order) lasts
      (once_joined firsts order (once_first firsts lasts ends.once) once (λ m h g. held m g (has_left firsts lasts m h)))
      (once_second firsts lasts ends.once)
      (λ m h g. elim (has_either firsts order m h) [
        | inl a ↦ once_apart firsts lasts ends.once m a g
        | inr a ↦ held m a (has_right firsts lasts m g)
      ]);
  free = λ m h. elim (has_either (firsts ++ order) lasts m h) [
    | inl a ↦ elim (has_either firsts order m a) [
      | inl b ↦ outside_free m (has_left firsts lasts m b)
      | inr b ↦ apart m (sym (those m) ∙ b)
    ]
    | inr a ↦ outside_free m (has_right firsts lasts m a)
  ];
  helped = λ between is each. subst (λ xs. AreHelpedInTime xs needs) (sym (regroup between)) (ends.helped (order ++ between)
      (subst (IsOrder count) (regroup between) is) (each_helped (order ++ between) left (λ n there. elim (every n there) [
        | inl a ↦ helped_left order between n (helped_one order inside helps n a)
        | inr a ↦ helped_right order between n (helped_one between outside each n a)
      ])));
}
  where
    held : (m : ℕ) → has order m ≡ true → has (firsts ++ lasts) m ≡ true → ⊥
    held m h g = true≢false (sym (concerned_more inside left m in_left (sym (those m) ∙ h)) ∙ ends.free m g)

    outside_free : (m : ℕ) → has (firsts ++ lasts) m ≡ true → is_concerned outside m ≡ false
    outside_free m h = unset_by (is_concerned outside m) (λ is. true≢false (sym (concerned_more outside left m out_left is) ∙ ends.free m h))

    regroup : (between : List ℕ) → (firsts ++ order) ++ (between ++ lasts) ≡ firsts ++ ((order ++ between) ++ lasts)
    regroup between = simp append_assoc
