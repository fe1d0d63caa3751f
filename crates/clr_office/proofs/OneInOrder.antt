-- No merge set has two plans in the order of its members, memory and certificates aside.
use Rattle.std.proofs.Common.{◌≡◌, ◌∙◌, ℕ, suc, ◌+◌, ◌<◌, ◌++◌, true, false, List, inl, inr, refl, sym, ap, subst, arith, Option, Some, None}
use Rattle.std.specs.List.{range_with_len}
use Rattle.std.proofs.lemmas.Bool.{true≢false}
use Rattle.clr_needs.specs.declared.needs.Need.{Need}
use Rattle.clr_needs.specs.Settings.{Setting, Lived}
use Rattle.clr_needs.specs.Needs.{IsPossible}
use Rattle.clr_needs.proofs.BlockerLaws.{range_below}
use Rattle.clr_needs.proofs.NeedOrder.{need_exact, need_total}
use Rattle.clr_needs.proofs.NeedSubjects.{subjects_once}
use Rattle.clr_steps.specs.Offices.{Office}
use Rattle.clr_steps.specs.Quiet.{MergeSet}
use Rattle.clr_clearance.specs.declared.verdicts.Verdict.{Verdict}
use Rattle.clr_clearance.specs.declared.verdicts.Verdict.TheVariants as verdict
use Rattle.clr_clearance.specs.MergeSets.{setting_by_position}
use Rattle.clr_clearance.specs.Verdicts.{first_conflict, member_fault, names_fault}
use Rattle.clr_clearance.proofs.ClearLemmas.{mergeable_of, neither}
use Rattle.clr_clearance.proofs.OneAnswerLemmas.{one_unfit}
use Rattle.clr_clearance.proofs.OrderLemmas.{in_order}
use Rattle.clr_clearance.proofs.VerdictLemmas.{not_apart, not_both, one_cell, one_some}
use Rattle.clr_cert.specs.declared.certificates.Certificate.{Certificate}
use Rattle.clr_merge_sets.specs.Plans.{is_cleared, is_out_of_memory}
use Rattle.clr_merge_sets.specs.declared.plans.Plan.{Plan}
use Rattle.clr_merge_sets.specs.declared.plans.Plan.TheVariants as plan
use Rattle.clr_plan.specs.OrderedPlans.{IsBlockedInOrder, IsBrokenAfter, IsFirstOpenInOrder, of_conflict, of_need, of_shared}
use Rattle.clr_office.specs.OnePlanInOrder.{AreAlikeInOrder, OnePlanInOrderLaw}
use Rattle.clr_office.specs.Outcomes.{IsPlannedInOrder}

-- needs --------------------------------------------------------------------------------------

module _ (o : Office) (s : MergeSet) where
  abbrev c : Setting ℕ
  c = setting_by_position o s

  one_open : (n m : Need) (a d : Lived ℕ) (b e : Option (Lived ℕ)) → IsFirstOpenInOrder c n a b → IsFirstOpenInOrder c m d e → n ≡ m
  one_open n m a d b e one two = elim (in_order need_total need_exact n m) [
    | inl same ↦ same
    | inr (inl before) ↦ absurd (one.uncovered.no_cover (two.first n a b before one.uncovered.possible one.uncovered.touched))
    | inr (inr after) ↦ absurd (two.uncovered.no_cover (one.first m d e after two.uncovered.possible two.uncovered.touched))
  ]

  -- the last blocker is among so many first members
  ends_before : (n : Need) (a : Lived ℕ) (b : Option (Lived ℕ)) (count other : ℕ) → IsBrokenAfter c n a b count → (two : IsBrokenAfter c n a b other)
      → two.last < count
  ends_before n a b count other one two = let less = range_below count 0 two.last (one.broken.blockers two.last two.blocks) in omega (arith, less)

  one_count : (n : Need) (a : Lived ℕ) (b : Option (Lived ℕ)) (count other : ℕ) → IsBrokenAfter c n a b count → IsBrokenAfter c n a b other → count ≡ other
  one_count n a b count other one two =
      let later = ends_before n a b count other one two in
      let sooner = ends_before n a b other count two one in
      let ends = one.ends in
      let ends_too = two.ends in
      omega (arith, later, sooner, ends, ends_too)

  one_end : (n m : Need) (a d : Lived ℕ) (b e : Option (Lived ℕ)) (count other : ℕ) → n ≡ m → IsPossible c n a b → IsPossible c m d e
      → IsBrokenAfter c n a b count → IsBrokenAfter c m d e other → count ≡ other
  one_end n m a d b e count other same possible possible_too one two =
      let here : IsPossible c n d e = subst (λ x. IsPossible c x d e) (sym same) possible_too in
      let subjects = subjects_once c n a d b e possible here in
      let again : IsBrokenAfter c n a b other =
      subst (λ x. IsBrokenAfter c n x b other) subjects.0
      (subst (λ x. IsBrokenAfter c n d x other) subjects.1 (subst (λ x. IsBrokenAfter c x d e other) (sym same) two)) in
      one_count n a b count other one again

-- plans --------------------------------------------------------------------------------------

module _ (o : Office) (s : MergeSet) where
  free_of_names : member_fault o s ≡ None → names_fault o s ≡ None
  free_of_names none = (neither (names_fault o s) (first_conflict o 0 s.members) none).0

  -- a member in conflict fails a test of members
  not_free : (v : Verdict) → first_conflict o 0 s.members ≡ Some v → member_fault o s ≡ None → ⊥
  not_free v found none =
      not_both (first_conflict o 0 s.members) v (neither (names_fault o s) (first_conflict o 0 s.members) none).1 found

  named : (order : List ℕ) (cause : Verdict) → IsBlockedInOrder o s order cause → names_fault o s ≡ None
  named order cause (of_conflict at cell count none found same is) = none
  named order cause (of_shared cell i j none shared same is) = free_of_names none
  named order cause (of_need n a b count none apart first broken same is) = free_of_names none

  -- where one plan is cleared, so is the other
  cleared_too : (d : Certificate) (q : Plan) → IsPlannedInOrder o s (plan.Cleared d) → IsPlannedInOrder o s q → is_out_of_memory q ≡ false
      → is_cleared q ≡ true
  cleared_too d q one two found =
      let mergeable = mergeable_of o s one.plan.free one.plan.apart in
      (two.exact mergeable found).1 ((one.exact mergeable refl).0 refl)

  one_blocked : (order other : List ℕ) (cause reason : Verdict) → IsBlockedInOrder o s order cause → IsBlockedInOrder o s other reason
      → (order ≡ other) × (cause ≡ reason)
  one_blocked order other cause reason (of_conflict at cell count none found same is) (of_conflict to q many free found_too same_too is_too) =
      let one : verdict.Conflict at cell count ≡ verdict.Conflict to q many = one_some (first_conflict o 0 s.members) _ _ found found_too in
      let position : at ≡ to = cc in
      (same ∙ ap (λ k. range_with_len k 1) position ∙ sym same_too, is ∙ one ∙ sym is_too)
  one_blocked order other cause reason (of_conflict at cell count none found same is) (of_shared q i j free shared same_too is_too) =
      absurd (not_free _ found free)
  one_blocked order other cause reason (of_conflict at cell count none found same is) (of_need n a b many free apart first broken same_too is_too) =
      absurd (not_free _ found free)
  one_blocked order other cause reason (of_shared q i j free shared same is) (of_conflict at cell count none found same_too is_too) =
      absurd (not_free _ found free)
  one_blocked order other cause reason (of_shared q i j free shared same is) (of_shared r k l free_too shared_too same_too is_too) =
      let one : verdict.SharedCell q i j ≡ verdict.SharedCell r k l = one_cell _ q r i j k l shared shared_too in
      let first : i ≡ k = cc in
      let second : j ≡ l = cc in
      (same ∙ (λ t. range_with_len (first t) 1 ++ range_with_len (second t) 1) ∙ sym same_too, is ∙ one ∙ sym is_too)
  one_blocked order other cause reason (of_shared q i j free shared same is) (of_need n a b many free_too apart first broken same_too is_too) =
      absurd (not_apart _ q i j shared (apart q))
  one_blocked order other cause reason (of_need n a b many free apart first broken same is) (of_conflict at cell count none found same_too is_too) =
      absurd (not_free _ found free)
  one_blocked order other cause reason (of_need n a b many free apart first broken same is) (of_shared q i j free_too shared same_too is_too) =
      absurd (not_apart _ q i j shared (apart q))
  one_blocked order other cause reason (of_need n a b many free apart first broken same is)
      (of_need m d e count free_too apart_too first_too broken_too same_too is_too) =
      let one = one_open o s n m a d b e first first_too in
      let ends = one_end o s n m a d b e many count one first.uncovered.possible first_too.uncovered.possible broken broken_too in
      (same ∙ ap (range_with_len 0) ends ∙ sym same_too, is ∙ ap verdict.Uncovered one ∙ sym is_too)

pub one_in_order : OnePlanInOrderLaw
one_in_order o s (plan.Unfit v) (plan.Unfit w) one two found found_too = one_unfit o s v w one.plan two.plan
one_in_order o s (plan.Unfit v) (plan.Blocked order cause) one two found found_too =
    absurd (not_both (names_fault o s) v (named o s order.items cause two.plan) one.plan)
one_in_order o s (plan.Unfit v) (plan.Cleared d) one two found found_too = absurd (true≢false (sym (cleared_too o s d (plan.Unfit v) two one found)))
one_in_order o s (plan.Unfit v) plan.OutOfMemory one two found found_too = absurd (true≢false found_too)
one_in_order o s (plan.Blocked order cause) (plan.Unfit v) one two found found_too =
    absurd (not_both (names_fault o s) v (named o s order.items cause one.plan) two.plan)
one_in_order o s (plan.Blocked order cause) (plan.Blocked other reason) one two found found_too =
    one_blocked o s order.items other.items cause reason one.plan two.plan
one_in_order o s (plan.Blocked order cause) (plan.Cleared d) one two found found_too =
    absurd (true≢false (sym (cleared_too o s d (plan.Blocked order cause) two one found)))
one_in_order o s (plan.Blocked order cause) plan.OutOfMemory one two found found_too = absurd (true≢false found_too)
one_in_order o s (plan.Cleared d) (plan.Unfit v) one two found found_too = absurd (true≢false (sym (cleared_too o s d (plan.Unfit v) one two found_too)))
one_in_order o s (plan.Cleared d) (plan.Blocked order cause) one two found found_too =
    absurd (true≢false (sym (cleared_too o s d (plan.Blocked order cause) one two found_too)))
one_in_order o s (plan.Cleared d) (plan.Cleared e) one two found found_too = tt
one_in_order o s (plan.Cleared d) plan.OutOfMemory one two found found_too = absurd (true≢false found_too)
one_in_order o s plan.OutOfMemory q one two found found_too = absurd (true≢false found)

-- two plans are cleared, or neither is
pub cleared_alike : (p q : Plan) → AreAlikeInOrder p q → is_cleared p ≡ is_cleared q
cleared_alike (plan.Unfit v) (plan.Unfit w) same = refl
cleared_alike (plan.Blocked order cause) (plan.Blocked other reason) same = refl
cleared_alike (plan.Cleared c) (plan.Cleared d) same = refl
cleared_alike p q same = absurd same
