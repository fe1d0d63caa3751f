-- The greatest set of members of whom each waits for others of them.
use Rattle.std.proofs.Common.{◌≡◌, ◌∙◌, ◌<◌, ◌≤◌, ◌==◌, ◌&&◌, ◌||◌, ℕ, zero, suc, Bool, true, false, List, [], ◌∷◌, ◌++◌, Some, inl, inr}
use Rattle.std.proofs.Common.{get_or, length, slice_get, take, refl, sym, ap, subst, arith}
use Rattle.std.specs.List.{filter, list_all, list_any}
use Rattle.std.proofs.lemmas.Bool.{and_from, and_parts, cases_Bool, false≢true, true≢false, or_cases, or_left}
use Rattle.clr_order_search.specs.declared.open_needs.OpenNeed.{OpenNeed}
use Rattle.clr_order_search.specs.Laws.{Waits}
use Rattle.clr_order_search.specs.OpenNeeds.{has}
use Rattle.clr_order_search.proofs.Positions.{all_of, each_of}
use Rattle.clr_order_search.proofs.Rests.{itself, same_of}
use Rattle.clr_order_knots.specs.Members.{AreOnce, AreThose}
use Rattle.clr_order_knots.specs.OpenNeeds.{AreWithin}
use Rattle.clr_order_knots.specs.Waiting.{AreWaiting, IsWaitingSet, are_one, makes_wait, waits_for}
use Rattle.clr_order_knots.proofs.Lists.{Among, among_at, any_by, contained, contained_at, filter_all, has_filtered, has_kept, once_filtered, some_of}
use Rattle.clr_order_knots.proofs.Places.{unset_by}

-- all members of a list are one of them
pub one_of : (xs : List ℕ) (m : ℕ) → are_one xs ≡ true → has xs m ≡ true → (x : ℕ) → has xs x ≡ true → x ≡ m
one_of xs m one h x g =
    let first = same_of m (get_or xs 0 0) (each_of (λ y. y == get_or xs 0 0) xs one m h) in
    let other = same_of x (get_or xs 0 0) (each_of (λ y. y == get_or xs 0 0) xs one x g) in
    other ∙ sym first

pub are_one_of : (xs : List ℕ) (m : ℕ) → ((x : ℕ) → has xs x ≡ true → x ≡ m) → are_one xs ≡ true
are_one_of [] m same = refl
are_one_of (y ∷ ys) m same = all_of (λ x. x == y) (y ∷ ys) (λ x h.
    ap (λ z. z == y) (same x h ∙ sym (same y (or_left (y == y) (has ys y) (itself y)))) ∙ itself y)

-- members of whom each waits, one round after another -------------------------------------------------------------

pub record IsWaitingIn (needs : List OpenNeed) (count : ℕ) (members : List ℕ) : Type 0 where
  pub below : (m : ℕ) → has members m ≡ true → m < count
  pub greatest : (others : List ℕ) → AreWaiting needs count others → (m : ℕ) → has others m ≡ true → has members m ≡ true
  pub once : AreOnce members

module _ (needs : List OpenNeed) (count : ℕ) where
  pub all_may_wait : (members : List ℕ) → AreThose count (λ m. true) members → IsWaitingIn needs count members
  all_may_wait members those = record {
    below = those.below;
    greatest = λ others waiting m h. those.every m (waiting m h).below refl;
    once = those.once;
  }

  module _ (within : AreWithin needs count) where
    -- who waits for members of whom all pass a test
    waits_so : (others : List ℕ) (test : ℕ → Bool) → ((x : ℕ) → has others x ≡ true → test x ≡ true) → (m : ℕ) → Waits needs count others m
        → waits_for needs test m ≡ true
    waits_so others test more m w = any_by (λ n. makes_wait test n && has n.blockers.items m) w.need needs (among_at needs w.at w.need w.is_need)
        (and_from (makes_wait test w.need) (has w.need.blockers.items m)
        (and_from (are_one w.need.blockers.items) (list_all test w.need.helpers.items) (are_one_of w.need.blockers.items m w.alone)
        (all_of test w.need.helpers.items (λ x h. more x (w.helpers x h))))
        (blocks (within w.need w.at w.is_need).blocked))
      where
        blocks : (x : ℕ) × (has w.need.blockers.items x ≡ true) → has w.need.blockers.items m ≡ true
        blocks (x, h) = subst (λ y. has w.need.blockers.items y ≡ true) (w.alone x h) h

    pub fewer_wait : (old new : List ℕ) → new ≡ filter (waits_for needs (has old)) old → IsWaitingIn needs count old → IsWaitingIn needs count new
    fewer_wait old new those is = subst (IsWaitingIn needs count) (sym those) (record {
      below = λ m h. is.below m (has_filtered (waits_for needs (has old)) old m h).0;
      greatest = λ others waiting m h. has_kept (waits_for needs (has old)) old m (is.greatest others waiting m h)
          (waits_so others (has old) (is.greatest others waiting) m (waiting m h));
      once = once_filtered (waits_for needs (has old)) old is.once;
    })

    waits_now : (members : List ℕ) (m : ℕ) → m < count → waits_for needs (has members) m ≡ true → Waits needs count members m
    waits_now members m less h =
        let (n, there, is) = some_of (λ n. makes_wait (has members) n && has n.blockers.items m) needs h in
        let (at, e) = contained_at needs n (contained n needs there) in
        let both = and_parts (makes_wait (has members) n) (has n.blockers.items m) is in
        let alone = and_parts (are_one n.blockers.items) (list_all (has members) n.helpers.items) both.0 in
        record {
          below = less;
          need = n;
          at = at;
          is_need = e;
          alone = one_of n.blockers.items m alone.0 both.1;
          helpers = each_of (has members) n.helpers.items alone.1;
          no_helper = unset_by (has n.helpers.items m) (λ g. (within n at e).apart m g both.1);
        }

    pub all_wait : (members new : List ℕ) → new ≡ filter (waits_for needs (has members)) members → length members ≤ length new → IsWaitingIn needs count members
        → IsWaitingSet needs count members
    all_wait members new those long is = record {
      waiting = λ m h. waits_now members m (is.below m h) (has_filtered (waits_for needs (has members)) members m
          (subst (λ xs. has xs m ≡ true) (sym (filter_all (waits_for needs (has members)) members (subst (λ xs. length members ≤ length xs) those long))) h)).1;
      greatest = is.greatest;
      once = is.once;
    }
