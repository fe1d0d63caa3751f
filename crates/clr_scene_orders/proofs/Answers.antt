-- What is said of open needs is said of the setting.
use Rattle.std.proofs.Common.{◌≡◌, ◌∙◌, ◌<◌, ◌≤◌, ◌==◌, ◌||◌, ◌⊎◌, ℕ, zero, suc, Bool, true, false, cond, not, List, [], ◌∷◌, ◌++◌, Option, Some, None, inl, inr}
use Rattle.std.proofs.Common.{Contains, if◌then◌else◌, length, slice_get, take, refl, sym, ap, subst, arith}
use Rattle.std.specs.List.{list_any}
use Rattle.std.specs.List.Sorted.{IsStrictlySortedBy}
use Rattle.std.specs.declared.cmp.Ordering.TheVariants.{Less}
use Rattle.std.proofs.lemmas.Bool.{cases_Bool, false≢true, true≢false, or_cases, or_left, or_right}
use Rattle.std.proofs.lemmas.List.{take_all}
use Rattle.std.proofs.lemmas.List.FromFn.{length-range_with_len}
use Rattle.std.proofs.lemmas.Map.Keys.{any_passes_from_place}
use Rattle.std.proofs.lemmas.Option.{slice_get_within}
use Rattle.clr_rows.specs.Contents.{Changes, Content}
use Rattle.clr_rules.specs.declared.rules.Rule.{Rule}
use Rattle.clr_rules.proofs.Elements.{Among, among, contained, each_of, not_both, not_itself, some_of}
use Rattle.clr_needs.specs.declared.needs.Need.{Need}
use Rattle.clr_needs.specs.Covers.{IsBlocker}
use Rattle.clr_needs.specs.Members.{setting}
use Rattle.clr_needs.specs.Needs.{IsPossible}
use Rattle.clr_needs.specs.Orders.{need_cmp}
use Rattle.clr_needs.specs.Picks.{Blocks}
use Rattle.clr_needs.specs.Settings.{Setting, Lived}
use Rattle.clr_needs.specs.Settings as settings
use Rattle.clr_needs.proofs.BlockerLaws.{blocker_below, member_below}
use Rattle.clr_needs.proofs.NeedOrder.{need_total}
use Rattle.clr_needs.proofs.NeedSubjects.{subjects_once}
use Rattle.clr_needs.proofs.PartPositions.{below_member}
use Rattle.clr_order_search.specs.declared.open_needs.OpenNeed.{OpenNeed}
use Rattle.clr_order_search.specs.OpenNeeds.{breaks_one, has, is_broken}
use Rattle.clr_order_search.specs.Orders.{IsOrder, NoneWorks}
use Rattle.clr_order_search.proofs.Rests.{at_of, has_at, itself}
use Rattle.clr_ordered_needs.specs.Helpers.{IsHelper}
use Rattle.clr_ordered_needs.specs.States.{IsBrokenWith, IsOpen}
use Rattle.clr_ordered_needs.specs.Turns.{ListsAll, is_earlier}
use Rattle.clr_order_answers.specs.declared.pairs.Pair.{Pair}
use Rattle.clr_order_answers.specs.Answers.{AreAllHelped, AreHelpedTo, IsUnhelpedAt}
use Rattle.clr_order_answers.specs.Pairs.{AreInOrder, ArePairsFor}
use Rattle.clr_order_knots.specs.OpenNeeds.{AreWithin}
use Rattle.clr_order_knots.proofs.Lists.{contained_at, once_behind}
use Rattle.clr_open_needs.specs.declared.listing.OpenNeeds.{OpenNeeds}
use Rattle.clr_open_needs.specs.OpenNeeds.{AreOpenNeeds, AreTouchedListed, HasSides, IsHelperOf, IsOpenNeed}
use Rattle.clr_open_needs.proofs.HelperLaws.{helper_below}
use Rattle.clr_scene_orders.specs.declared.scene_orders.SceneOrder.{SceneOrder}
use Rattle.clr_scene_orders.specs.declared.scene_orders.SceneOrder.TheVariants as scene_order
use Rattle.clr_scene_orders.specs.SceneOrders.{AreHelped, EachListBreaks, IsBrokenOnTheWay, IsFinal, IsFinalAt, IsOrderBy, IsSceneOrder}
use Rattle.clr_scene_orders.specs.SceneOrders.{IsUnhelped, order_by}
use Rattle.clr_scene_orders.proofs.Blocked.{touched_is_blocked}
use Rattle.clr_scene_orders.proofs.Covering.{contained_of, covering_entries, each_covered, none_covered, pair_by}
use Rattle.clr_scene_orders.proofs.Sides.{blocks_of, has_same, helps_of, is_broken_with, is_open, need_at, of_blocks, of_helps, opens, sides_at, sides_differ}

-- a need of a list that is broken
broken_one : (merged : ℕ → Bool) (needs : List OpenNeed) → breaks_one needs merged ≡ true
    → (at : ℕ) × (need : OpenNeed) × (slice_get needs at ≡ Some need) × (is_broken merged need ≡ true)
broken_one merged [] h = absurd (false≢true h)
broken_one merged (n ∷ ns) h = by (or_cases (is_broken merged n) (breaks_one ns merged) h) (broken_one merged ns)
  where
    by : (is_broken merged n ≡ true) ⊎ (breaks_one ns merged ≡ true)
        → (breaks_one ns merged ≡ true → (at : ℕ) × (need : OpenNeed) × (slice_get ns at ≡ Some need) × (is_broken merged need ≡ true))
        → (at : ℕ) × (need : OpenNeed) × (slice_get (n ∷ ns) at ≡ Some need) × (is_broken merged need ≡ true)
    by (inl here) rest = (zero, n, refl, here)
    by (inr behind) rest = let (at, need, e, broken) = rest behind in (suc at, need, e, broken)

-- who stands before another in a list in which none stands twice is earlier
earlier_by_place : (xs : List ℕ) → ((j k m : ℕ) → slice_get xs j ≡ Some m → slice_get xs k ≡ Some m → j ≡ k) → (early late x y : ℕ)
    → slice_get xs early ≡ Some x → slice_get xs late ≡ Some y → early < late → is_earlier (λ m n. m == n) xs x y ≡ true
earlier_by_place [] once early late x y e f less = absurd (cc)
earlier_by_place (z ∷ zs) once early zero x y e f less = absurd (omega (arith, less))
earlier_by_place (z ∷ zs) once zero (suc late) x y e f less =
    let one : z ≡ x = cc in
    ap (λ b. cond b (settings.has (λ m n. m == n) zs y) (is_earlier (λ m n. m == n) zs x y)) (ap (λ w. w == x) one ∙ itself x)
    ∙ has_same zs y ∙ has_at zs late y f
earlier_by_place (z ∷ zs) once (suc early) (suc late) x y e f less =
    by (z == x) (earlier_by_place zs (once_behind z zs once) early late x y e f (omega (arith, less)))
  where
    by : (b : Bool) → is_earlier (λ m n. m == n) zs x y ≡ true → cond b (settings.has (λ m n. m == n) zs y) (is_earlier (λ m n. m == n) zs x y) ≡ true
    by true more = has_same zs y ∙ has_at zs late y f
    by false more = more

-- in a list that rises, a need that comes before another stands before it
earlier_place : (ns : List Need) → IsStrictlySortedBy need_cmp ns → (j at : ℕ) (m n : Need) → slice_get ns j ≡ Some m → slice_get ns at ≡ Some n
    → need_cmp m n ≡ Less → j < at
unfolding IsStrictlySortedBy
earlier_place [] rises j at m n e f before = absurd (cc)
earlier_place (x ∷ xs) rises zero zero m n e f before =
    let one : m ≡ n = cc in absurd (not_itself need_total n (subst (λ k. need_cmp k n ≡ Less) one before))
earlier_place (x ∷ xs) rises (suc j) zero m n e f before =
    let one : x ≡ n = cc in
    absurd (not_both need_total m n before (subst (λ k. need_cmp k m ≡ Less) one
    (each_of (λ k. need_cmp x k ≡ Less) m xs rises.0 (among m xs (contained_of xs j m e)))))
earlier_place (x ∷ xs) rises zero (suc at) m n e f before = omega arith
earlier_place (x ∷ xs) rises (suc j) (suc at) m n e f before =
    let rest = earlier_place xs rises.1 j at m n e f before in omega (arith, rest)

module _ (rules : List Rule) (root : Content) (sets : List Changes) where
  abbrev c : Setting ℕ
  c = setting rules root sets

  abbrev count : ℕ
  count = length sets

  -- there are as many members as change sets
  pub members_counted : length c.members ≡ count
  members_counted = length-range_with_len 0 count

  -- lists of all members -----------------------------------------------------------------------------------------

  pub lists_of_order : (order : List ℕ) → IsOrder count order → ListsAll c order
  lists_of_order order is = record { members = λ x. by x (settings.has c.same order x) refl (settings.has c.same c.members x) refl; once = is.once }
    where
      by : (x : ℕ) (s : Bool) → settings.has c.same order x ≡ s → (t : Bool) → settings.has c.same c.members x ≡ t → s ≡ t
      by x true e true f = refl
      by x false e false f = refl
      by x true e false f = absurd (true≢false (sym (below_member rules root sets x (is.below x (sym (has_same order x) ∙ e))) ∙ f))
      by x false e true f = absurd (true≢false (sym (is.every x (member_below rules root sets x f)) ∙ sym (has_same order x) ∙ e))

  pub order_of_lists : (order : List ℕ) → ListsAll c order → IsOrder count order
  order_of_lists order lists = record {
    below = λ m h. member_below rules root sets m (sym (lists.members m) ∙ has_same order m ∙ h);
    every = λ m less. sym (has_same order m) ∙ lists.members m ∙ below_member rules root sets m less;
    once = lists.once;
  }

  module _ (found : OpenNeeds) (are : AreOpenNeeds c found) where
    abbrev sides : List OpenNeed
    sides = found.sides.items

    -- the open need whose sides stand at a place
    pub record IsOpenAt (at : ℕ) (side : OpenNeed) : Type 0 where
      pub need : Need
      pub there : slice_get found.needs.items at ≡ Some need
      pub has_sides : HasSides c need side
      pub is_open : IsOpenNeed c need

    pub open_at : (at : ℕ) (side : OpenNeed) → slice_get sides at ≡ Some side → IsOpenAt at side
    open_at at side e =
        let (n, f, has_sides) = need_at c found.needs.items sides are.sides at side e in
        record { need = n; there = f; has_sides = has_sides; is_open = (are.needs.exactly n).0 (contained_of found.needs.items at n f) }

    -- the sides of an open need
    pub side_of : (n : Need) → IsOpenNeed c n → (at : ℕ) × (side : OpenNeed) × (slice_get sides at ≡ Some side) × HasSides c n side
    side_of n is =
        let (at, e) = contained_at found.needs.items n ((are.needs.exactly n).1 is) in
        let (side, f, has_sides) = sides_at c found.needs.items sides are.sides at n e in
        (at, side, f, has_sides)

    -- all sides are within ---------------------------------------------------------------------------------------

    pub are_within : AreWithin sides count
    are_within side at e =
        let w = open_at at side e in
        let o = opens c w.need w.is_open in
        record {
          blockers = λ m h. blocker_below rules root sets w.need o.first o.second o.possible m (blocks_of c w.need o side w.has_sides m h);
          helpers = λ m h. helper_below rules root sets w.need o.first o.second o.possible m (helps_of c w.need o side w.has_sides m h);
          apart = λ m h k. sides_differ c w.need o m (helps_of c w.need o side w.has_sides m h) (blocks_of c w.need o side w.has_sides m k);
          blocked = (let (m, is) = touched_is_blocked c w.need o.first o.second o.possible o.touched in (m, of_blocks c w.need o side w.has_sides m is));
        }

    -- members help each need ---------------------------------------------------------------------------------------

    -- the need has a helper where its sides have one
    is_helped : (n : Need) → IsOpenNeed c n → (side : OpenNeed) → HasSides c n side → ¬ (side.helpers.items ≡ []) → ¬ (IsUnhelped c n)
    is_helped n is side has_sides some none =
        let o = opens c n is in
        some (empty side.helpers.items (λ x h. none x (o.first, o.second, o.possible, helps_of c n o side has_sides x h)))
      where
        empty : (xs : List ℕ) → ((x : ℕ) → has xs x ≡ true → ⊥) → xs ≡ []
        empty [] none = refl
        empty (x ∷ xs) none = absurd (none x (or_left (x == x) (has xs x) (itself x)))

    pub are_helped : AreAllHelped sides → AreHelped c
    are_helped all n is none =
        let (at, side, e, has_sides) = side_of n is in
        is_helped n is side has_sides (all side at (slice_get_within sides at side e) e) none

    -- each open need that comes before one has a helper, where those that stand before it have one
    lesser_helped : (at : ℕ) (n : Need) → slice_get found.needs.items at ≡ Some n → AreHelpedTo sides at → (m : Need) → need_cmp m n ≡ Less
        → IsOpenNeed c m → ¬ (IsUnhelped c m)
    lesser_helped at n e all m before is none =
        let (j, f) = contained_at found.needs.items m ((are.needs.exactly m).1 is) in
        let (side, g, has_sides) = sides_at c found.needs.items sides are.sides j m f in
        is_helped m is side has_sides (all side j (earlier_place found.needs.items are.needs.ascending j at m n f e before) g) none

    -- no order works ---------------------------------------------------------------------------------------------------

    pub each_list_breaks : NoneWorks sides count → EachListBreaks c
    each_list_breaks none order lists =
        let (k, breaks) = none order (order_of_lists order lists) in
        let (at, side, e, broken) = broken_one (has (take k order)) sides breaks in
        let w = open_at at side e in
        let o = opens c w.need w.is_open in
        (k, w.need, o.first, o.second, is_open c w.need o, is_broken_with c w.need o side w.has_sides (take k order) refl broken)

    -- an order that works ------------------------------------------------------------------------------------------------

    pub order_by_pairs : AreTouchedListed c → (order : List ℕ) (pairs : List Pair) → IsOrder count order → ArePairsFor sides order pairs
        → IsOrderBy c order pairs
    order_by_pairs touched order pairs is for_all = record {
      lists = lists_of_order order is;
      in_order = λ x y goes. in_order x y (pair_by pairs x y goes);
      covered = covering_entries (order_by pairs) c (each_covered c found are pairs for_all.served) touched.0 touched.1;
      needed = λ firsts pair others e. none_covered c found are (firsts ++ others) (for_all.needed firsts pair others e);
    }
      where
        in_order : (x y : ℕ) → (p : Pair) × Among p pairs × (p.earlier ≡ x) × (p.later ≡ y) → is_earlier c.same order x y ≡ true
        in_order x y (p, there, first, second) =
            let stands = for_all.in_order p (contained p pairs there) in
            earlier_by_place order is.once stands.early stands.late x y (stands.earlier_at ∙ ap Some first) (stands.later_at ∙ ap Some second) stands.in_order

    -- a need that none helps -----------------------------------------------------------------------------------------------

    pub final_at : (at : ℕ) (n : Need) (side : OpenNeed) → slice_get found.needs.items at ≡ Some n → slice_get sides at ≡ Some side → IsUnhelpedAt sides at
        → IsFinal c n side.blockers.items
    final_at at n side e f unhelped =
        let w = open_at at side f in
        let same : w.need ≡ n = some_same w.need n (sym w.there ∙ e) in
        subst (λ m. IsFinal c m side.blockers.items) same (here at side f unhelped)
      where
        some_same : (m n : Need) → Some m ≡ Some n → m ≡ n
        some_same m n e = cc

        here : (at : ℕ) (side : OpenNeed) (f : slice_get sides at ≡ Some side) → IsUnhelpedAt sides at → IsFinal c (open_at at side f).need side.blockers.items
        here at side f unhelped =
            let w = open_at at side f in
            record {
              is_open = w.is_open;
              blockers = w.has_sides.blockers;
              unhelped = λ x (a, b, possible, helps). (
                  let o = opens c w.need w.is_open in
                  let once = subjects_once c w.need o.first a o.second b o.possible possible in
                  let h = of_helps c w.need o side w.has_sides x
                  (subst (λ l. IsHelper c w.need l o.second x) once.0 (subst (λ m. IsHelper c w.need a m x) once.1 helps)) in
                  false≢true (sym (ap (λ xs. has xs x) (no_helpers side unhelped f)) ∙ h)
                  );
              least = lesser_helped at w.need w.there unhelped.first;
            }
          where
            no_helpers : (side : OpenNeed) → IsUnhelpedAt sides at → slice_get sides at ≡ Some side → side.helpers.items ≡ []
            no_helpers side u f = let one : Some u.need ≡ Some side = sym u.there ∙ f in subst (λ (s : OpenNeed). s.helpers.items ≡ []) (side_same u.need side one)
                u.unhelped
              where
                side_same : (s t : OpenNeed) → Some s ≡ Some t → s ≡ t
                side_same s t e = cc

    pub within_needs : (at : ℕ) → IsUnhelpedAt sides at → at < length found.needs.items
    within_needs at unhelped = let w = open_at at unhelped.need unhelped.there in slice_get_within found.needs.items at w.need w.there

    pub within_sides : (at : ℕ) → IsUnhelpedAt sides at → at < length sides
    within_sides at unhelped = slice_get_within sides at unhelped.need unhelped.there

    pub final_order : (at : ℕ) (order : SceneOrder) → IsUnhelpedAt sides at → IsFinalAt found at order → IsSceneOrder c order
    final_order at (scene_order.Final need members) unhelped (side, e, f, same) =
        subst (IsFinal c need) (sym same) (final_at at need side e f unhelped)
    final_order at (scene_order.Order order pairs) unhelped is = absurd is
    final_order at (scene_order.Stuck members) unhelped is = absurd is
    final_order at (scene_order.TooMany members) unhelped is = absurd is

  -- the law ------------------------------------------------------------------------------------------------------------------

  pub final_breaks : (n : Need) → IsOpenNeed c n → IsUnhelped c n → EachListBreaks c
  final_breaks n is unhelped order lists =
      let o = opens c n is in (
        length order,
        n,
        o.first,
        o.second,
        is_open c n o,
        record {
          blockers = λ y h. all y ∙ lists.members y ∙ below_member rules root sets y (blocker_below rules root sets n o.first o.second o.possible y h);
          helpers = λ x h. absurd (unhelped x (o.first, o.second, o.possible, h));
        },
      )
    where
      all : (y : ℕ) → settings.has c.same (take (length order) order) y ≡ settings.has c.same order y
      all y = ap (λ xs. settings.has c.same xs y) (take_all (length order) order (omega arith))
