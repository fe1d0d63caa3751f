-- Orders of knots, put together one after another.
use Rattle.std.proofs.Common.{◌≡◌, ◌∙◌, ◌<◌, ◌++◌, ℕ, true, List, [], ◌∷◌, ◌==◌, inl, inr}
use Rattle.std.proofs.Common.{length, refl, sym, ap, subst, arith}
use Rattle.std.specs.List.{list_any}
use Rattle.std.proofs.lemmas.Bool.{false≢true, or_left}
use Rattle.std.proofs.lemmas.Option.{slice_get_within}
use Rattle.clr_order_search.specs.declared.open_needs.OpenNeed.{OpenNeed}
use Rattle.clr_order_search.specs.OpenNeeds.{has}
use Rattle.clr_order_search.specs.Orders.{IsWorkingOrder, NoneWorks}
use Rattle.clr_order_search.proofs.Circles.{waiting}
use Rattle.clr_order_search.proofs.Helps.{helps}
use Rattle.clr_order_search.proofs.Rests.{itself}
use Rattle.clr_order_knots.specs.declared.knots.Knot.{Knot}
use Rattle.clr_order_knots.specs.declared.peeling.Peeled.{Peeled}
use Rattle.clr_order_knots.specs.Knots.{AreKnotsSmall, IsKnotOf, IsPart, needs_of}
use Rattle.clr_order_knots.specs.Members.{ArePlaces, concerns, needs_at}
use Rattle.clr_order_knots.specs.OpenNeeds.{AreHelped, AreWithin}
use Rattle.clr_order_knots.specs.Peeling.{AreEnds, AreHelpedInTime, AreLeft, IsFilled, IsPeeled}
use Rattle.clr_order_knots.specs.Waiting.{IsWaitingSet}
use Rattle.clr_order_knots.proofs.Gathering.{knot_of_part, outside_part, whole_part}
use Rattle.clr_order_knots.proofs.Lists.{Among, among, contained, to_filter}
use Rattle.clr_order_knots.proofs.PeeledEnds.{filled_helps, filled_is_order, knot_put}
use Rattle.clr_order_knots.proofs.Places.{any_has, at_places_in, concerned_by, within_each}
use Rattle.clr_order_answers.specs.declared.answers.OrderAnswer.{OrderAnswer}
use Rattle.clr_order_answers.specs.declared.answers.OrderAnswer.TheVariants as answer
use Rattle.clr_order_answers.specs.Answers.{AreAllHelped, IsAnswer, IsCause, IsKnotAnswer, IsLeftAnswer, IsTightKnot, NoneWait}
use Rattle.clr_order_answers.specs.Searching.{IsKnotOrder, IsSearchable, PutsKnot}
use Rattle.clr_order_answers.proofs.Found.{none_of_more}

pub record IsOrderedSoFar (needs : List OpenNeed) (count : ℕ) (left : List OpenNeed) (peeled : Peeled) : Type 0 where
  pub ends : IsPeeled needs count peeled
  pub part : IsPart left (needs_at needs peeled.left.items)
  pub places : ArePlaces needs peeled.left.items

pub ordered_first : (needs : List OpenNeed) (count : ℕ) (peeled : Peeled) → IsPeeled needs count peeled → ArePlaces needs peeled.left.items
    → IsOrderedSoFar needs count (needs_at needs peeled.left.items) peeled
ordered_first needs count peeled ends places = record { ends = ends; part = whole_part (needs_at needs peeled.left.items); places = places }

pub searchable : (needs : List OpenNeed) (count : ℕ) (left : List ℕ) (knot : Knot) → IsKnotOf needs count left knot → IsSearchable needs count knot
searchable needs count left knot is = record { members = is.members; below = is.below; once = is.is_knot.once; short = is.short }

module _ (needs : List OpenNeed) (count : ℕ) (left : List OpenNeed) (old : Peeled) (so_far : IsOrderedSoFar needs count left old) (knot : Knot)
    (is : IsKnotOf needs count old.left.items knot) where
  abbrev rest : List OpenNeed
  rest = needs_at needs old.left.items

  abbrev ins : List OpenNeed
  ins = needs_at needs knot.inside.items

  abbrev outs : List OpenNeed
  outs = needs_at needs knot.outside.items

  pub ordered_more : (order : List ℕ) (new : Peeled) → IsKnotOrder needs knot order → PutsKnot order knot.outside.items old new
      → IsOrderedSoFar needs count left new
  ordered_more order new found put = record {
    ends = subst (λ fs. AreEnds needs count (needs_at needs new.left.items) fs new.lasts.items) (sym put.firsts)
        (subst (λ ls. AreEnds needs count (needs_at needs new.left.items) (old.firsts.items ++ order) ls.items) (sym put.lasts)
        (subst (λ ps. AreEnds needs count (needs_at needs ps) (old.firsts.items ++ order) old.lasts.items) (sym put.left) ends_then));
    part = subst (λ ps. IsPart left (needs_at needs ps)) (sym put.left) (outside_part left rest ins outs so_far.part is.outside is.every is.apart);
    places = subst (ArePlaces needs) (sym put.left) is.places;
  }
    where
      ends_then : AreEnds needs count outs (old.firsts.items ++ order) old.lasts.items
      ends_then = knot_put needs count rest ins outs old.firsts.items old.lasts.items order so_far.ends
          (λ n h. elim (is.every n (contained n rest h)) [ inl a ↦ inl (among n ins a) | inr a ↦ inr (among n outs a) ])
          (λ n h. among n rest (is.inside n (contained n ins h)))
          (λ n h. among n rest (is.outside n (contained n outs h)))
          (λ m. found.those m ∙ is.members m)
          (λ m h. is.below m (sym (found.those m) ∙ h))
          found.once is.apart found.helped

  -- the needs of the knot are of those that are left
  knot_in_left : (n : OpenNeed) → Among n ins → Among n left
  knot_in_left n h = among n left (so_far.part.among n (is.inside n (contained n ins h)))

  pub tight_knot : AreWithin needs count → NoneWorks ins count → IsTightKnot left count knot.members.items
  tight_knot within none = record {
    knot = knot_of_part left rest so_far.part knot.members.items is.is_knot;
    tight = none_of_more ins (needs_of left knot.members.items) count (λ n h. to_filter (λ k. list_any (λ m. concerns m k) knot.members.items) n left
        (knot_in_left n h) (touched n h)) none;
  }
    where
      touched : (n : OpenNeed) → Among n ins → list_any (λ m. concerns m n) knot.members.items ≡ true
      touched n h =
          let (b, blocks) = (within_each needs count within n (at_places_in needs knot.inside.items n h)).blocked in
          let here = or_left (has n.blockers.items b) (has n.helpers.items b) blocks in
          any_has (λ m. concerns m n) knot.members.items b (is.members b ∙ concerned_by ins b n h here) here

  pub none_of_all : NoneWorks ins count → NoneWorks needs count
  none_of_all none = none_of_more ins needs count (at_places_in needs knot.inside.items) none

-- once nothing is left, the order of all works
module _ (needs : List OpenNeed) (count : ℕ) (peeled : Peeled) (ends : IsPeeled needs count peeled) (none : peeled.left.items ≡ []) (order : List ℕ)
    (filled : IsFilled count peeled.firsts.items peeled.lasts.items order) where
  ends_alone : AreEnds needs count [] peeled.firsts.items peeled.lasts.items
  ends_alone = subst (λ ps. AreEnds needs count (needs_at needs ps) peeled.firsts.items peeled.lasts.items) none ends

  pub all_helped_in_time : AreHelpedInTime order needs
  all_helped_in_time = filled_helps needs count peeled.firsts.items peeled.lasts.items ends_alone order filled

  pub order_works : IsWorkingOrder needs count order
  order_works =
      let is = filled_is_order needs count peeled.firsts.items peeled.lasts.items ends_alone order filled in
      record { is_order = is; works = (helps needs count order is).1 (λ need at e below. all_helped_in_time need at e) }

-- needs that are all helped have helpers
pub helped_of : (needs : List OpenNeed) → AreAllHelped needs → AreHelped needs
helped_of needs all need at e = by need.helpers.items (all need at (slice_get_within needs at need e) e)
  where
    by : (xs : List ℕ) → (xs ≡ [] → ⊥) → (m : ℕ) × (has xs m ≡ true)
    by [] none = absurd (none refl)
    by (x ∷ xs) none = (x, or_left (x == x) (has xs x) (itself x))

-- what is said of the knots is said of what is left, and of all --------------------------------------------------------

pub left_answer : (needs : List OpenNeed) (count : ℕ) (left : List OpenNeed) → AreLeft needs left → AreKnotsSmall left → (a : OrderAnswer)
    → IsKnotAnswer needs count left a → IsLeftAnswer needs count a
left_answer needs count left is small (answer.Order order pairs) h = ((left, record { is_left = is; small = small }), h.0, h.1)
left_answer needs count left is small (answer.Final at) h = absurd h
left_answer needs count left is small (answer.Stuck members) h = ((left, record { is_left = is; small = small }, h.0), h.1)
left_answer needs count left is small (answer.TooMany members) h = (left, is, h)

pub whole_answer : (needs : List OpenNeed) (count : ℕ) → AreAllHelped needs → NoneWait needs count → (a : OrderAnswer) → IsLeftAnswer needs count a
    → IsAnswer needs count a
whole_answer needs count helped none (answer.Order order pairs) h = (helped, h.0, h.1, h.2)
whole_answer needs count helped none (answer.Final at) h = absurd h
whole_answer needs count helped none (answer.Stuck members) h = (helped, inr (none, h.0), h.1)
whole_answer needs count helped none (answer.TooMany members) h = (helped, (none, h))

-- members that wait for one another leave no order
pub waiting_answer : (needs : List OpenNeed) (count : ℕ) (members : List ℕ) → AreAllHelped needs → IsWaitingSet needs count members → 0 < length members
    → AreAllHelped needs × (IsCause needs count members) × NoneWorks needs count
waiting_answer needs count [] helped set some = absurd (omega (arith, some))
waiting_answer needs count (w ∷ ws) helped set some =
    let there = or_left (w == w) (has ws w) (itself w) in
    (helped, inl (record { set = set; some = (w, there) }), waiting needs count (w ∷ ws) w there set.waiting)

pub none_waiting : (needs : List OpenNeed) (count : ℕ) (members : List ℕ) → IsWaitingSet needs count members → members ≡ [] → NoneWait needs count
none_waiting needs count members set none others m waits h =
    false≢true (sym (ap (λ xs. has xs m) none) ∙ set.greatest others waits m h)
