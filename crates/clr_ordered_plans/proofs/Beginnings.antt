-- Beginnings of a list of members that break a need are refused.
use Rattle.std.proofs.Common.{◌≡◌, ◌∙◌, ◌≤◌, ◌+◌, ℕ, zero, suc, true, List, [], ◌∷◌, ◌++◌, Option, inl, inr, nat_lt}
use Rattle.std.proofs.Common.{drop, length, slice_get, take, refl, sym, ap, subst, arith}
use Rattle.std.specs.List.{cons_option, filter_map, range_with_len}
use Rattle.std.proofs.lemmas.Bool.{false≢true, or_cases, or_left, or_right}
use Rattle.std.proofs.lemmas.List.{length-map, take-append-drop}
use Rattle.clr_rows.specs.Contents.{row_at}
use Rattle.clr_rules.specs.Needs.{BreaksNoMore, View}
use Rattle.clr_workspaces.specs.Marks.{Name}
use Rattle.clr_needs.specs.declared.needs.Need.{Need}
use Rattle.clr_needs.specs.Members.{AreApart}
use Rattle.clr_needs.specs.Settings.{AreAmong, DoChange, Lived, Setting, view_with}
use Rattle.clr_needs.proofs.BlockerLaws.{blocker_below, range_below}
use Rattle.clr_needs.proofs.PartPositions.{below_member}
use Rattle.clr_steps.specs.Offices.{Office}
use Rattle.clr_steps.specs.Quiet.{MergeSet, root_content}
use Rattle.clr_steps.specs.Readings.{changes_in}
use Rattle.clr_steps.specs.Steps.{step}
use Rattle.clr_clearance.specs.MergeSets.{AreMergeable, change_sets, rows_with, setting_by_position}
use Rattle.clr_clearance.specs.Plans.{is_order_refused, members_at}
use Rattle.clr_clearance.specs.Safety.{is_clash}
use Rattle.clr_clearance.proofs.RefusedLemmas.{breaking_is_refused, merge_of, names_part, positions_change, rows_at}
use Rattle.clr_clearance.proofs.StaticLemmas.{numbered_is}
use Rattle.clr_ordered_needs.specs.Covers.{IsUncovered}
use Rattle.clr_ordered_needs.specs.States.{IsOpen}
use Rattle.clr_ordered_needs.proofs.HelpLaws.{cover_is_help}
use Rattle.clr_ordered_needs.proofs.StateLaws.{states_are_told}
use Rattle.clr_plan.specs.OrderedPlans.{IsBrokenAfter}

-- an order of which the first merges are refused is refused
refused_more : (o : Office) (first others : List Name) → is_order_refused o first ≡ true → is_order_refused o (first ++ others) ≡ true
refused_more o [] others h = absurd (false≢true h)
refused_more o (n ∷ ns) others h =
    elim (or_cases (is_clash (step o (merge_of n)).reply) (is_order_refused (step o (merge_of n)).office ns) h) [
      | inl clash ↦ or_left (is_clash (step o (merge_of n)).reply) (is_order_refused (step o (merge_of n)).office (ns ++ others)) clash
      | inr later ↦ or_right (is_clash (step o (merge_of n)).reply) (is_order_refused (step o (merge_of n)).office (ns ++ others))
          (refused_more (step o (merge_of n)).office ns others later)
    ]

-- the first members -----------------------------------------------------------------------------------

behind_first : (n : Name) (ns : List Name) (k a : ℕ) → filter_map (slice_get (n ∷ ns)) (range_with_len (suc a) k)
    ≡ filter_map (slice_get ns) (range_with_len a k)
behind_first n ns zero a = refl
behind_first n ns (suc k) a =
    let next : suc a + 1 ≡ suc (a + 1) = omega arith in
    ap (cons_option (slice_get ns a)) (ap (λ b. filter_map (slice_get (n ∷ ns)) (range_with_len b k)) next ∙ behind_first n ns k (a + 1))

first_names : (names : List Name) (k : ℕ) → k ≤ length names → filter_map (slice_get names) (range_with_len 0 k) ≡ take k names
first_names [] zero few = refl
first_names [] (suc k) few = absurd (omega (arith, few))
first_names (n ∷ ns) zero few = refl
first_names (n ∷ ns) (suc k) few =
    let one : 0 + 1 ≡ suc 0 = omega arith in
    ap (λ (xs : List Name). n ∷ xs) (ap (λ b. filter_map (slice_get (n ∷ ns)) (range_with_len b k)) one ∙ behind_first n ns k 0
    ∙ first_names ns k (omega (arith, few)))

module _ (o : Office) (s : MergeSet) where
  abbrev c : Setting ℕ
  c = setting_by_position o s

  -- where a beginning of the list is refused, the list is
  pub list_refused : (count : ℕ) → count ≤ length s.members → is_order_refused o (members_at s (range_with_len 0 count)) ≡ true
      → is_order_refused o s.members ≡ true
  list_refused count few refused =
      subst (λ names. is_order_refused o names ≡ true) (take-append-drop count s.members)
      (refused_more o (take count s.members) (drop count s.members)
      (ap (is_order_refused o) (sym (first_names s.members count few)) ∙ refused))

  module _ (mergeable : AreMergeable o s) (apart : AreApart (change_sets o s)) (n : Need) (a : Lived ℕ) (b : Option (Lived ℕ)) (count : ℕ)
      (uncovered : IsUncovered nat_lt c n a b) (broken : IsBrokenAfter c n a b count) where
    below : count ≤ length (change_sets o s)
    below =
        let last = blocker_below o.book (root_content o s) (change_sets o s) n a b uncovered.possible broken.last broken.blocks in
        let ends = broken.ends in
        omega (arith, last, ends)

    pub few : count ≤ length s.members
    few = let long = length-map s.members (changes_in o) in let part = below in omega (arith, part, long)

    do_change : DoChange c
    do_change = subst DoChange (sym (numbered_is o s)) (positions_change o s mergeable)

    rows_are : (order : List ℕ) → view_with c order ≡ rows_with o s (members_at s order)
    rows_are order = ap (λ (d : Setting ℕ). view_with d order) (numbered_is o s) ∙ (λ i cell. rows_at o s order cell i)

    is_open : IsOpen c n a b
    is_open = record {
      possible = uncovered.possible;
      touched = uncovered.touched;
      none_always = λ always. uncovered.no_cover ((cover_is_help nat_lt c n a b uncovered.possible).1 (inl always));
    }

    are_members : AreAmong c (range_with_len 0 count) c.members
    are_members x h =
        let less = range_below count 0 x h in
        let part = below in
        below_member o.book (root_content o s) (change_sets o s) x (omega (arith, less, part))

    pub beginning_refused : is_order_refused o (members_at s (range_with_len 0 count)) ≡ true
    beginning_refused =
        let order = range_with_len 0 count in
        let breaking = (states_are_told c).broken order n a b (λ x y q hx hy. apart q x y) do_change are_members is_open broken.broken in
        breaking_is_refused o s mergeable (members_at s order) (names_part o s order)
        (λ good. breaking (subst (λ (view : View). BreaksNoMore o.book (row_at (root_content o s)) view) (sym (rows_are order)) good))
