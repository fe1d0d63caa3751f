-- What is found among the members of a knot is found among all.
use Rattle.std.proofs.Common.{◌≡◌, ◌∙◌, ◌<◌, ℕ, true, List, Some}
use Rattle.std.proofs.Common.{get_or, length, slice_get, take, sym, ap, subst, arith}
use Rattle.std.proofs.lemmas.Bool.{false≢true, true≢false, or_left, or_right}
use Rattle.std.proofs.lemmas.List.{take_all}
use Rattle.std.proofs.lemmas.Option.{get_or_from_slice_get, slice_get-get_or, slice_get_within}
use Rattle.clr_order_search.specs.declared.open_needs.OpenNeed.{OpenNeed}
use Rattle.clr_order_search.specs.OpenNeeds.{has, is_broken}
use Rattle.clr_order_search.specs.Laws.{IsHelpedInTime}
use Rattle.clr_order_search.specs.Orders.{IsOrder, IsWorkingOrder, NoneWorks, Works}
use Rattle.clr_order_search.proofs.Circles.{broken_by, none_works}
use Rattle.clr_order_search.proofs.Helps.{helps}
use Rattle.clr_order_search.proofs.Rests.{at_of, has_at, order_of}
use Rattle.clr_order_knots.specs.Members.{AreOnce, is_concerned}
use Rattle.clr_order_knots.specs.OpenNeeds.{AreWithin}
use Rattle.clr_order_knots.specs.Peeling.{AreHelpedInTime}
use Rattle.clr_order_knots.proofs.Lists.{Among, among_at, any_more, at_mapped, mapped_at, same_bool}
use Rattle.clr_order_knots.proofs.Places.{concerned_by}
use Rattle.clr_order_answers.specs.Laws.{UnhelpedLaw}
use Rattle.clr_order_answers.specs.Pairs.{AreAllApart}
use Rattle.clr_order_answers.specs.Renumbering.{AreNumberedBy, AreRenumbered, IsRenumbered, members_at}
use Rattle.clr_order_answers.proofs.Numbering.{renumbered_from, renumbered_to}
use Rattle.clr_order_answers.proofs.Restricted.{before_restricted, of_restricted, once_restricted, place_is, place_there, restricted, to_restricted}

module _ (needs : List OpenNeed) (count : ℕ) (within : AreWithin needs count) (list : List ℕ) (those : (m : ℕ) → has list m ≡ is_concerned needs m)
    (below : (m : ℕ) → has list m ≡ true → m < count) (once : AreOnce list) where
  pub are_numbered : AreNumberedBy list needs
  are_numbered need at e = record {
    blockers = λ m h. those m ∙ concerned_by needs m need (among_at needs at need e) (or_left (has need.blockers.items m) (has need.helpers.items m) h);
    helpers = λ m h. those m ∙ concerned_by needs m need (among_at needs at need e) (or_right (has need.blockers.items m) (has need.helpers.items m) h);
  }

  module _ (news : List OpenNeed) (renumbered : AreRenumbered list needs news) where
    -- ---- an order of places that works, and of the members that stand there

    module _ (places : List ℕ) (working : IsWorkingOrder news (length list) places) where
      abbrev read : ℕ → ℕ
      read p = get_or list p 0

      abbrev order : List ℕ
      order = members_at list places

      -- a place, and who stands there
      read_at : (p m : ℕ) → slice_get list p ≡ Some m → read p ≡ m
      read_at p m e = get_or_from_slice_get list p m 0 e

      there : (k p : ℕ) → slice_get places k ≡ Some p → slice_get list p ≡ Some (read p)
      there k p e = slice_get-get_or list p 0 (working.is_order.below p (has_at places k p e))

      in_order : (k p m : ℕ) → slice_get places k ≡ Some p → slice_get list p ≡ Some m → slice_get order k ≡ Some m
      in_order k p m e is = at_mapped read places k p e ∙ ap Some (read_at p m is)

      comes : (m : ℕ) → has list m ≡ true → has order m ≡ true
      comes m h =
          let (p, e) = at_of list m h in
          let (k, f) = at_of places p (working.is_order.every p (slice_get_within list p m e)) in
          has_at order k m (in_order k p m f e)

      listed : (m : ℕ) → has order m ≡ true → has list m ≡ true
      listed m h =
          let (k, e) = at_of order m h in
          let (p, f, is) = mapped_at read places k m e in
          has_at list p m (there k p f ∙ ap Some is)

      pub found_those : (m : ℕ) → has order m ≡ has list m
      found_those m = same_bool (has order m) (has list m) (listed m) (comes m)

      pub found_once : AreOnce order
      found_once j k m e f =
          let (p, at, is) = mapped_at read places j m e in
          let (q, to, too) = mapped_at read places k m f in
          let same : p ≡ q = once p q m (there j p at ∙ ap Some is) (there k q to ∙ ap Some too) in
          working.is_order.once j k p at (to ∙ ap Some (sym same))

      helped_up : (need new : OpenNeed) → IsRenumbered list need new → IsHelpedInTime places new → IsHelpedInTime order need
      helped_up need new is help =
          let (h, at_h, helps_it) = is.helpers.only help.helper help.helps in
          let (b, at_b, blocks_it) = is.blockers.only help.blocker help.blocks in
          record {
            helper = h;
            blocker = b;
            helps = helps_it;
            blocks = blocks_it;
            early = help.early;
            late = help.late;
            helper_at = in_order help.early help.helper h help.helper_at at_h;
            blocker_at = in_order help.late help.blocker b help.blocker_at at_b;
            in_time = help.in_time;
          }

      pub found_helps : AreHelpedInTime order needs
      found_helps need at e =
          let (new, f, is) = renumbered_to list needs news renumbered at need e in
          helped_up need new is ((helps news (length list) places working.is_order).0 working.works new at f
          (λ x h. (let (m, g, b) = is.blockers.only x h in slice_get_within list x m g)))

    -- ---- where no order of places works, none of all members does

    module _ (order : List ℕ) (working : IsWorkingOrder needs count order) where
      abbrev some : List ℕ
      some = restricted list order

      some_is_order : IsOrder (length list) some
      some_is_order = record {
        below = λ i h. (
            let (k, e) = at_of some i h in
            let (j, x, f, at) = of_restricted list order k i e in
            slice_get_within list i x (place_is list x i at)
            );
        every = λ i less. (
            let x = get_or list i 0 in
            let is = slice_get-get_or list i 0 less in
            let (j, e) = at_of order x (working.is_order.every x (below x (has_at list i x is))) in
            let (k, f) = to_restricted list order j x i e (place_there list once x i is) in
            has_at some k i f
            );
        once = once_restricted list order working.is_order.once;
      }

      helped_down : (need new : OpenNeed) → IsRenumbered list need new → IsHelpedInTime order need → IsHelpedInTime some new
      helped_down need new is help =
          let (h, at_h, helps_it) = is.helpers.every help.helper help.helps in
          let (b, at_b, blocks_it) = is.blockers.every help.blocker help.blocks in
          let come = before_restricted list order help.early help.late help.helper help.blocker h b help.helper_at help.blocker_at help.in_time
          (place_there list once help.helper h at_h) (place_there list once help.blocker b at_b) in
          record {
            helper = h;
            blocker = b;
            helps = helps_it;
            blocks = blocks_it;
            early = come.early;
            late = come.late;
            helper_at = come.first;
            blocker_at = come.second;
            in_time = come.in_order;
          }

      some_work : Works news some
      some_work = (helps news (length list) some some_is_order).1 (λ new at e only. (let (need, f, is) = renumbered_from list needs news renumbered at new e in
          helped_down need new is ((helps needs count order working.is_order).0 working.works need at f (within need at f).blockers)))

      none_here : NoneWorks news (length list) → ⊥
      none_here none = let (k, broken) = none some some_is_order in true≢false (sym broken ∙ some_work k)

    pub none_found : NoneWorks news (length list) → NoneWorks needs count
    none_found none = none_works needs count (λ follow. none_here follow.0 (order_of needs count follow.0 follow.1) none)

-- where no order works for some of the needs, none works for all
pub none_of_more : (some needs : List OpenNeed) (count : ℕ) → ((n : OpenNeed) → Among n some → Among n needs) → NoneWorks some count → NoneWorks needs count
none_of_more some needs count more none order is =
    let (k, broken) = none order is in
    (k, any_more (is_broken (has (take k order))) some needs more broken)

-- a need that none helps is broken once all are merged
pub unhelped : UnhelpedLaw
unhelped needs count need at e below none order is = (
  length order,
  broken_by needs need at (has (take (length order) order)) e
      (λ x h. subst (λ xs. has xs x ≡ true) (sym (take_all (length order) order (omega arith))) (is.every x (below x h)))
      (λ x h. absurd (false≢true (sym (ap (λ xs. has xs x) none) ∙ h))),
)

-- needs that are within are helped in time by an order that works, and their sides are apart
pub working_helps : (needs : List OpenNeed) (count : ℕ) → AreWithin needs count → (order : List ℕ) → IsWorkingOrder needs count order
    → AreHelpedInTime order needs
working_helps needs count within order working need at e = (helps needs count order working.is_order).0 working.works need at e (within need at e).blockers

pub within_apart : (needs : List OpenNeed) (count : ℕ) → AreWithin needs count → AreAllApart needs
within_apart needs count within need at e = (within need at e).apart
