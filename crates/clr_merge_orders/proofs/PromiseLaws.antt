-- What is promised of orders: under its pairs one is cleared, and where there is none each is refused.
use Rattle.std.proofs.Common.{◌≡◌, ◌∙◌, ◌<◌, ◌&&◌, ◌⊎◌, ℕ, zero, suc, Bool, true, false, List, [], ◌∷◌, ◌++◌, Option, Some, None, inl, inr}
use Rattle.std.proofs.Common.{drop, get_or, length, map, slice_get, take, refl, sym, ap, subst, arith}
use Rattle.std.specs.List.{cons_option, list_any}
use Rattle.std.proofs.lemmas.Bool.{and_from, false≢true, or_cases, or_left, or_right}
use Rattle.std.proofs.lemmas.List.{take_all, take-append-drop}
use Rattle.clr_rows.specs.Contents.{row_at}
use Rattle.clr_rules.specs.Needs.{BreaksNoMore, View}
use Rattle.clr_rules.proofs.Elements.{Among, any_by, mapped_among}
use Rattle.clr_workspaces.specs.Marks.{Name}
use Rattle.clr_needs.specs.declared.needs.Need.{Need}
use Rattle.clr_needs.specs.Covers.{Entry}
use Rattle.clr_needs.specs.Members.{AreApart}
use Rattle.clr_needs.specs.Positions.{by_position}
use Rattle.clr_needs.specs.Settings.{AreAmong, DoChange, Lived, Setting, view_with}
use Rattle.clr_needs.specs.Settings as settings
use Rattle.clr_steps.specs.Names.{same_name}
use Rattle.clr_steps.specs.Offices.{Office}
use Rattle.clr_steps.specs.Quiet.{MergeSet, root_content}
use Rattle.clr_steps.specs.Steps.{step}
use Rattle.clr_steps.proofs.FindLemmas.{same_itself}
use Rattle.clr_clearance.specs.MergeSets.{AreMergeable, change_sets, rows_with, setting_by_position, setting_of}
use Rattle.clr_clearance.specs.Plans.{is_order_refused, members_at}
use Rattle.clr_clearance.specs.Safety.{is_clash}
use Rattle.clr_clearance.proofs.ClearLemmas.{mergeable_of}
use Rattle.clr_clearance.proofs.RefusedLemmas.{breaking_is_refused, merge_of, names_part, positions_change, rows_at}
use Rattle.clr_clearance.proofs.StaticLemmas.{numbered_is}
use Rattle.clr_ordered_needs.specs.Positions.{goes_before_if_any}
use Rattle.clr_ordered_needs.specs.States.{IsBrokenWith, IsOpen}
use Rattle.clr_ordered_needs.proofs.Sequences.{later_there}
use Rattle.clr_ordered_needs.proofs.StateLaws.{states_are_told}
use Rattle.clr_ordered_clearance.specs.Laws.{CanBeMergedAs}
use Rattle.clr_ordered_clearance.specs.MergeSets.{CoversInTurn, goes_before, position_goes_before}
use Rattle.clr_ordered_clearance.proofs.HeadlineLemmas.{headline_in_turn}
use Rattle.clr_order_answers.specs.declared.pairs.Pair.{Pair}
use Rattle.clr_scene_orders.specs.declared.scene_orders.SceneOrder.{SceneOrder}
use Rattle.clr_scene_orders.specs.declared.scene_orders.SceneOrder.TheVariants as scene_order
use Rattle.clr_scene_orders.specs.SceneOrders.{EachListBreaks, IsFinal, IsOrderBy, order_by}
use Rattle.clr_scene_orders.proofs.Sides.{has_of, has_same, is_open, opens}
use Rattle.clr_scene_orders.proofs.Covering.{pair_by}
use Rattle.clr_merge_orders.specs.declared.merge_orders.MergeOrder.TheVariants as merge_order
use Rattle.clr_merge_orders.specs.MergeOrders.{IsClearedBy, IsEachOrderRefused, IsFoundOrder, IsOrderOf, IsRefusedWith, PromisesOrder, name_at, ordered_by}
use Rattle.clr_merge_orders.proofs.FoundOrders.{earlier_there, merged_in_order, positions_named}
use Rattle.clr_merge_orders.proofs.MoreBefore.{covered_by_more}

-- who is among the first members of a list is in it
first_among : (same : ℕ → ℕ → Bool) (xs : List ℕ) (k : ℕ) (x : ℕ) → settings.has same (take k xs) x ≡ true → settings.has same xs x ≡ true
first_among same [] zero x h = absurd (false≢true h)
first_among same [] (suc k) x h = absurd (false≢true h)
first_among same (y ∷ ys) zero x h = absurd (false≢true h)
first_among same (y ∷ ys) (suc k) x h = elim (or_cases (same y x) (settings.has same (take k ys) x) h) [
  | inl here ↦ or_left (same y x) (settings.has same ys x) here
  | inr behind ↦ or_right (same y x) (settings.has same ys x) (first_among same ys k x behind)
]

-- an order of which the first merges are refused is refused
refused_more : (o : Office) (first others : List Name) → is_order_refused o first ≡ true → is_order_refused o (first ++ others) ≡ true
refused_more o [] others h = absurd (false≢true h)
refused_more o (n ∷ ns) others h =
    elim (or_cases (is_clash (step o (merge_of n)).reply) (is_order_refused (step o (merge_of n)).office ns) h) [
      | inl clash ↦ or_left (is_clash (step o (merge_of n)).reply) (is_order_refused (step o (merge_of n)).office (ns ++ others)) clash
      | inr later ↦ or_right (is_clash (step o (merge_of n)).reply) (is_order_refused (step o (merge_of n)).office (ns ++ others))
          (refused_more (step o (merge_of n)).office ns others later)
    ]

members_joined : (s : MergeSet) (first others : List ℕ) → members_at s (first ++ others) ≡ members_at s first ++ members_at s others
members_joined s [] others = refl
members_joined s (k ∷ ks) others = ap (cons_option (slice_get s.members k)) (members_joined s ks others) ∙ by (slice_get s.members k)
  where
    by : (r : Option Name) → cons_option r (members_at s ks ++ members_at s others) ≡ cons_option r (members_at s ks) ++ members_at s others
    by None = refl
    by (Some n) = refl

module _ (o : Office) (s : MergeSet) where
  abbrev c : Setting ℕ
  c = setting_by_position o s

  -- each order is refused -----------------------------------------------------------------------------------------

  module _ (mergeable : AreMergeable o s) (apart : AreApart (change_sets o s)) where
    do_change : DoChange c
    do_change = subst DoChange (sym (numbered_is o s)) (positions_change o s mergeable)

    rows_are : (order : List ℕ) → view_with c order ≡ rows_with o s (members_at s order)
    rows_are order = ap (λ (d : Setting ℕ). view_with d order) (numbered_is o s) ∙ (λ i cell. rows_at o s order cell i)

    refused_at : (order : List ℕ) (k : ℕ) (n : Need) (a : Lived ℕ) (b : Option (Lived ℕ)) → AreAmong c order c.members → IsOpen c n a b
        → IsBrokenWith c n a b (take k order) → is_order_refused o (members_at s order) ≡ true
    refused_at order k n a b among is_open broken =
        let first = take k order in
        let breaking = (states_are_told c).broken first n a b (λ x y q hx hy. apart q x y) do_change (λ x h. among x (first_among c.same order k x h))
        is_open broken in
        let refused = breaking_is_refused o s mergeable (members_at s first) (names_part o s first)
        (λ good. breaking (subst (λ (view : View). BreaksNoMore o.book (row_at (root_content o s)) view) (sym (rows_are first)) good)) in
        subst (λ xs. is_order_refused o (members_at s xs) ≡ true) (take-append-drop k order)
        (ap (is_order_refused o) (members_joined s first (drop k order)) ∙ refused_more o (members_at s first) (members_at s (drop k order)) refused)

    each_refused : EachListBreaks c → IsEachOrderRefused o s
    each_refused each order lists =
        let (k, n, a, b, is_open, broken) = each order lists in
        refused_at order k n a b (λ x h. sym (lists.members x) ∙ h) is_open broken

    final_refused : (need : Need) (blockers : List ℕ) → IsFinal c need blockers → IsRefusedWith o s blockers
    final_refused need blockers final list all among =
        let op = opens c need final.is_open in
        refused_at list (length list) need op.first op.second among (is_open c need op) (record {
          blockers = λ y h. whole y ∙ all y (has_same blockers y ∙ has_of blockers y (((final.blockers op.first op.second op.possible).exactly y).1 h));
          helpers = λ x h. absurd (final.unhelped x (op.first, op.second, op.possible, h));
        })
      where
        whole : (y : ℕ) → settings.has c.same (take (length list) list) y ≡ settings.has c.same list y
        whole y = ap (λ xs. settings.has c.same xs y) (take_all (length list) list (omega arith))

  -- the order is cleared under its pairs ------------------------------------------------------------------------------

  module _ (order : List ℕ) (pairs : List Pair) (is : IsOrderBy c order pairs) where
    named : (x : ℕ) → settings.has c.same order x ≡ true → slice_get s.members x ≡ Some (name_at s x)
    named x h = positions_named o s order is.lists x h

    goes_too : (x y : ℕ) → order_by pairs x y ≡ true → position_goes_before (ordered_by s pairs) x y ≡ true
    goes_too x y goes =
        let earlier = is.in_order x y goes in
        let first = named x (earlier_there order x y earlier) in
        let second = named y (later_there c order x y earlier) in
        let (p, there, is_x, is_y) = pair_by pairs x y goes in
        let pair : Name × Name = (name_at s p.earlier, name_at s p.later) in
        (λ i. goes_before_if_any (goes_before (ordered_by s pairs)) (first i) (second i))
        ∙ any_by (λ q. same_name q.0 (name_at s x) && same_name q.1 (name_at s y)) pair (map (λ q. (name_at s q.earlier, name_at s q.later)) pairs)
        (mapped_among (λ q. (name_at s q.earlier, name_at s q.later)) p pairs there)
        (and_from (same_name (name_at s p.earlier) (name_at s x)) (same_name (name_at s p.later) (name_at s y))
        (ap (λ z. same_name (name_at s z) (name_at s x)) is_x ∙ same_itself (name_at s x))
        (ap (λ z. same_name (name_at s z) (name_at s y)) is_y ∙ same_itself (name_at s y)))

    cleared_by : AreMergeable o s → IsClearedBy o s pairs × CanBeMergedAs o (ordered_by s pairs) (members_at s order)
    cleared_by mergeable =
        let (es, covered) = is.covered in
        let covers : CoversInTurn o (ordered_by s pairs) es = record {
          mergeable = mergeable;
          covered = covered_by_more (order_by pairs) (position_goes_before (ordered_by s pairs)) goes_too c es covered;
        } in (
          ((es, covers), headline_in_turn o (ordered_by s pairs) es covers),
          merged_in_order o s mergeable order is.lists pairs is.in_order es covers,
        )

  -- what is promised --------------------------------------------------------------------------------------------------

  order_promise : (order : SceneOrder) → IsOrderOf o s order → PromisesOrder o s order
  order_promise (scene_order.Order order pairs) is = cleared_by order.items pairs.items is.told.2 (mergeable_of o s is.free is.apart)
  order_promise (scene_order.Final need members) is = final_refused (mergeable_of o s is.free is.apart) is.apart need members.items is.told
  order_promise (scene_order.Stuck members) is = each_refused (mergeable_of o s is.free is.apart) is.apart is.told.2
  order_promise (scene_order.TooMany members) is = tt

  pub found_in_scene : (order : SceneOrder) → IsOrderOf o s order → IsFoundOrder o s (merge_order.Ordered order)
  found_in_scene order is = record { told = is; promises = order_promise order is }
