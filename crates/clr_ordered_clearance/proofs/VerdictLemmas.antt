-- Verdicts under an order: there is one, and it is clear exactly where entries cover and members are listed in turn.
use Rattle.std.proofs.Common.{◌≡◌, ◌⊎◌, ◌∙◌, ℕ, zero, suc, Bool, true, false, not, ◌&&◌, List, [], ◌∷◌, refl, sym, ap, subst, inl, inr}
use Rattle.std.proofs.Common.{Option, Some, None, slice_get}
use Rattle.std.specs.List.{list_any, position}
use Rattle.std.specs.Option.{option_map, option_or}
use Rattle.std.proofs.lemmas.Bool.{and_parts, false≢true, true≢false, not-false, or_cases, or_left, or_right}
use Rattle.clr_workspaces.specs.Marks.{Name}
use Rattle.clr_needs.specs.declared.needs.Need.{Need}
use Rattle.clr_needs.specs.Covers.{Entry}
use Rattle.clr_needs.specs.Settings.{Setting, Lived}
use Rattle.clr_needs.proofs.NeedOrder.{need_exact, need_total}
use Rattle.clr_steps.specs.Names.{same_name}
use Rattle.clr_steps.specs.Offices.{Office}
use Rattle.clr_steps.specs.Quiet.{MergeSet}
use Rattle.clr_steps.proofs.FindLemmas.{same_is, same_itself}
use Rattle.clr_clearance.specs.declared.verdicts.Verdict.{Verdict}
use Rattle.clr_clearance.specs.declared.verdicts.Verdict.TheVariants as verdict
use Rattle.clr_clearance.specs.Verdicts.{first_conflict, first_repeated, member_fault, missing_member, names_fault, repeated_member, root_fault}
use Rattle.clr_clearance.specs.Verdicts.{stray_member}
use Rattle.clr_clearance.proofs.ClearLemmas.{IsNoClear, each_fails, fault_no_clear, is_clear, mergeable_of, neither, no_map, no_member_fault, none_found}
use Rattle.clr_clearance.proofs.OrderLemmas.{in_order}
use Rattle.clr_clearance.proofs.StaticLemmas.{apart_sets}
use Rattle.clr_clearance.proofs.VerdictLemmas.{not_apart, not_both, one_cell, one_some}
use Rattle.clr_ordered_needs.specs.Covers.{AreCovered}
use Rattle.clr_ordered_needs.specs.Turns.{Order, is_earlier}
use Rattle.clr_ordered_clearance.specs.MergeSets.{AreListedInTurn, CoversInTurn, OrderedMergeSet}
use Rattle.clr_ordered_clearance.specs.VerdictLaws.{ClearInTurnLaw, OneVerdictInTurnLaw}
use Rattle.clr_ordered_clearance.specs.Verdicts.{IsFirstUncoveredInTurn, IsVerdictInTurn, member_fault_in_turn, misplaced_pair, names_fault_in_turn}
use Rattle.clr_ordered_clearance.specs.Verdicts.{of_cell, of_member, of_need, of_none}

-- tests, one after another --------------------------------------------------------------------------------------

both_none : {X : Type 0} (a b : Option X) → a ≡ None → b ≡ None → option_or a b ≡ None
both_none None b e f = f
both_none (Some x) b e f = absurd (cc)

-- what one of five tests says is said by the third, or by the others
third_or_other : {X : Type 0} (p q r s t : Option X) (x : X) → option_or (option_or p (option_or q (option_or r s))) t ≡ Some x
    → (r ≡ Some x) ⊎ (option_or (option_or p (option_or q s)) t ≡ Some x)
third_or_other (Some y) q r s t x e = inr e
third_or_other None (Some y) r s t x e = inr e
third_or_other None None (Some y) s t x e = inl e
third_or_other None None None s t x e = inr e

module _ (o : Office) (ordered : OrderedMergeSet) where
  abbrev merge_set : MergeSet
  merge_set = ordered.merge_set

  abbrev workspaces : Option Verdict
  workspaces = option_or (missing_member o merge_set) (stray_member o merge_set)

  -- no test of an ordered merge set fails exactly where no test of the merge set does, and no pair is misplaced
  none_of_merge_set : member_fault_in_turn o ordered ≡ None → (member_fault o merge_set ≡ None) × (misplaced_pair ordered ≡ None)
  unfolding names_fault names_fault_in_turn
  none_of_merge_set none =
      let both = neither (names_fault_in_turn o ordered) (first_conflict o 0 merge_set.members) none in
      let root = neither (root_fault o merge_set) (option_or (repeated_member merge_set) (option_or (misplaced_pair ordered) workspaces)) both.0 in
      let repeated = neither (repeated_member merge_set) (option_or (misplaced_pair ordered) workspaces) root.1 in
      let misplaced = neither (misplaced_pair ordered) workspaces repeated.1 in (
        both_none (names_fault o merge_set) (first_conflict o 0 merge_set.members)
            (both_none (root_fault o merge_set) (option_or (repeated_member merge_set) workspaces) root.0
            (both_none (repeated_member merge_set) workspaces repeated.0 misplaced.1)) both.1,
        misplaced.0,
      )

  none_in_turn : member_fault o merge_set ≡ None → misplaced_pair ordered ≡ None → member_fault_in_turn o ordered ≡ None
  unfolding names_fault names_fault_in_turn
  none_in_turn none well =
      let both = neither (names_fault o merge_set) (first_conflict o 0 merge_set.members) none in
      let root = neither (root_fault o merge_set) (option_or (repeated_member merge_set) workspaces) both.0 in
      let repeated = neither (repeated_member merge_set) workspaces root.1 in
      both_none (names_fault_in_turn o ordered) (first_conflict o 0 merge_set.members)
      (both_none (root_fault o merge_set) (option_or (repeated_member merge_set) (option_or (misplaced_pair ordered) workspaces)) root.0
      (both_none (repeated_member merge_set) (option_or (misplaced_pair ordered) workspaces) repeated.0
      (both_none (misplaced_pair ordered) workspaces well repeated.1))) both.1

  -- behind the tests of names the tests of members are those of the merge set
  pub same_member_fault : names_fault_in_turn o ordered ≡ None → member_fault_in_turn o ordered ≡ member_fault o merge_set
  unfolding names_fault names_fault_in_turn
  same_member_fault none =
      let root = neither (root_fault o merge_set) (option_or (repeated_member merge_set) (option_or (misplaced_pair ordered) workspaces)) none in
      let repeated = neither (repeated_member merge_set) (option_or (misplaced_pair ordered) workspaces) root.1 in
      let misplaced = neither (misplaced_pair ordered) workspaces repeated.1 in
      let named : names_fault o merge_set ≡ None = both_none (root_fault o merge_set) (option_or (repeated_member merge_set) workspaces) root.0
      (both_none (repeated_member merge_set) workspaces repeated.0 misplaced.1) in
      ap (λ r. option_or r (first_conflict o 0 merge_set.members)) (none ∙ sym named)

  -- and no member stands twice
  pub named_once : names_fault_in_turn o ordered ≡ None → first_repeated merge_set.members ≡ None
  unfolding names_fault_in_turn
  named_once none =
      let root = neither (root_fault o merge_set) (option_or (repeated_member merge_set) (option_or (misplaced_pair ordered) workspaces)) none in
      no_map verdict.RepeatedMember (first_repeated merge_set.members)
      (neither (repeated_member merge_set) (option_or (misplaced_pair ordered) workspaces) root.1).0

  pub names_first : (v : Verdict) → names_fault_in_turn o ordered ≡ Some v → member_fault_in_turn o ordered ≡ Some v
  names_first v e = ap (λ r. option_or r (first_conflict o 0 merge_set.members)) e

  misplaced_or_other : (v : Verdict) → member_fault_in_turn o ordered ≡ Some v → (misplaced_pair ordered ≡ Some v) ⊎ (member_fault o merge_set ≡ Some v)
  unfolding names_fault names_fault_in_turn
  misplaced_or_other v =
      third_or_other (root_fault o merge_set) (repeated_member merge_set) (misplaced_pair ordered) workspaces (first_conflict o 0 merge_set.members) v

-- pairs that are listed ---------------------------------------------------------------------------------------------

module _ (ordered : OrderedMergeSet) where
  abbrev is_misplaced : (Name × Name) → Bool
  is_misplaced p = not (is_earlier same_name ordered.merge_set.members p.0 p.1)

  abbrev says : Name → Name → (Name × Name) → Bool
  says m n p = same_name p.0 m && same_name p.1 n

  one_says : (m n : Name) (pairs : List (Name × Name)) → ((k : ℕ) (p : Name × Name) → slice_get pairs k ≡ Some p → is_misplaced p ≡ false)
      → list_any (says m n) pairs ≡ true → is_earlier same_name ordered.merge_set.members m n ≡ true
  one_says m n [] each h = absurd (false≢true h)
  one_says m n (p ∷ pairs) each h = elim (or_cases (says m n p) (list_any (says m n) pairs) h) [
    | inl here ↦ (let parts = and_parts (same_name p.0 m) (same_name p.1 n) here in
        let first : p.0 ≡ m = same_is p.0 m parts.0 in
        let second : p.1 ≡ n = same_is p.1 n parts.1 in
        subst (λ x. is_earlier same_name ordered.merge_set.members x n ≡ true) first
        (subst (λ y. is_earlier same_name ordered.merge_set.members p.0 y ≡ true) second (not-false _ (each 0 p refl))))
    | inr there ↦ one_says m n pairs (λ k. each (suc k)) there
  ]

  listed_of : misplaced_pair ordered ≡ None → AreListedInTurn ordered
  listed_of none m n = one_says m n ordered.before
      (each_fails is_misplaced ordered.before (no_map verdict.NotBefore (position is_misplaced ordered.before) none))

  says_itself : (pairs : List (Name × Name)) (k : ℕ) (p : Name × Name) → slice_get pairs k ≡ Some p → list_any (says p.0 p.1) pairs ≡ true
  says_itself [] k p e = absurd (cc)
  says_itself (q ∷ pairs) zero p e =
      let one : q ≡ p = cc in
      or_left (says p.0 p.1 q) (list_any (says p.0 p.1) pairs) (ap (says p.0 p.1) one ∙ (λ i. same_itself p.0 i && same_itself p.1 i))
  says_itself (q ∷ pairs) (suc k) p e = or_right (says p.0 p.1 q) (list_any (says p.0 p.1) pairs) (says_itself pairs k p e)

  of_listed : AreListedInTurn ordered → misplaced_pair ordered ≡ None
  of_listed listed = ap (option_map verdict.NotBefore) (none_found is_misplaced ordered.before
      (λ k p e. ap not (listed p.0 p.1 (says_itself ordered.before k p e))))

-- a clear verdict -----------------------------------------------------------------------------------------------------

no_clear_pair : (r : Option ℕ) → option_map verdict.NotBefore r ≡ Some verdict.Clear → ⊥
no_clear_pair None e = absurd (cc)
no_clear_pair (Some k) e = absurd (cc)

clear_covers : (o : Office) (ordered : OrderedMergeSet) (entries : List Entry) → IsVerdictInTurn o ordered entries verdict.Clear
    → CoversInTurn o ordered entries × AreListedInTurn ordered
clear_covers o ordered entries (of_member e) = elim (misplaced_or_other o ordered verdict.Clear e) [
  | inl pair ↦ absurd (no_clear_pair _ pair)
  | inr other ↦ absurd (true≢false (subst IsNoClear other (fault_no_clear o ordered.merge_set)))
]
clear_covers o ordered entries (of_cell cell i j none shared e) = absurd (true≢false (ap is_clear e))
clear_covers o ordered entries (of_need n a b none apart first e) = absurd (true≢false (ap is_clear e))
clear_covers o ordered entries (of_none none apart covered e) =
    let parts = none_of_merge_set o ordered none in
    (record { mergeable = mergeable_of o ordered.merge_set parts.0 apart; covered = covered }, listed_of ordered parts.1)

pub clear_in_turn : ClearInTurnLaw
clear_in_turn o ordered entries = (
  clear_covers o ordered entries,
  λ (covers, listed). of_none (none_in_turn o ordered (no_member_fault o ordered.merge_set covers.mergeable) (of_listed ordered listed))
      (apart_sets o ordered.merge_set covers.mergeable) covers.covered refl,
)

-- where it is clear, no test of names fails
pub clear_is_named : (o : Office) (ordered : OrderedMergeSet) (entries : List Entry) → IsVerdictInTurn o ordered entries verdict.Clear
    → names_fault_in_turn o ordered ≡ None
clear_is_named o ordered entries clear =
    let (covers, listed) = clear_covers o ordered entries clear in
    let none = none_in_turn o ordered (no_member_fault o ordered.merge_set covers.mergeable) (of_listed ordered listed) in
    (neither (names_fault_in_turn o ordered) (first_conflict o 0 ordered.merge_set.members) none).0

-- one verdict -----------------------------------------------------------------------------------------------------------

module _ (before : Order ℕ) (c : Setting ℕ) (entries : List Entry) where
  not_covered : (n : Need) (a : Lived ℕ) (b : Option (Lived ℕ)) → IsFirstUncoveredInTurn before c entries n a b → AreCovered before c entries → ⊥
  not_covered n a b first covered = first.uncovered (covered n a b first.possible first.touched)

  one_need : (n m : Need) (a d : Lived ℕ) (b e : Option (Lived ℕ)) → IsFirstUncoveredInTurn before c entries n a b
      → IsFirstUncoveredInTurn before c entries m d e → n ≡ m
  one_need n m a d b e f g = elim (in_order need_total need_exact n m) [
    | inl same ↦ same
    | inr (inl first) ↦ absurd (f.uncovered (g.first n a b first f.possible f.touched))
    | inr (inr second) ↦ absurd (g.uncovered (f.first m d e second g.possible g.touched))
  ]

pub one_verdict_in_turn : OneVerdictInTurnLaw
one_verdict_in_turn o ordered entries v w (of_member e) (of_member f) = one_some (member_fault_in_turn o ordered) v w e f
one_verdict_in_turn o ordered entries v w (of_member e) (of_cell cell i j none s f) = absurd (not_both (member_fault_in_turn o ordered) v none e)
one_verdict_in_turn o ordered entries v w (of_member e) (of_need n a b none apart first f) = absurd (not_both (member_fault_in_turn o ordered) v none e)
one_verdict_in_turn o ordered entries v w (of_member e) (of_none none apart covered f) = absurd (not_both (member_fault_in_turn o ordered) v none e)
one_verdict_in_turn o ordered entries v w (of_cell cell i j none s e) (of_member f) = absurd (not_both (member_fault_in_turn o ordered) w none f)
one_verdict_in_turn o ordered entries v w (of_cell cell i j none s e) (of_cell other k l none_too t f) = e ∙ one_cell _ cell other i j k l s t ∙ sym f
one_verdict_in_turn o ordered entries v w (of_cell cell i j none s e) (of_need n a b none_too apart first f) = absurd (not_apart _ cell i j s (apart cell))
one_verdict_in_turn o ordered entries v w (of_cell cell i j none s e) (of_none none_too apart covered f) = absurd (not_apart _ cell i j s (apart cell))
one_verdict_in_turn o ordered entries v w (of_need n a b none apart first e) (of_member f) = absurd (not_both (member_fault_in_turn o ordered) w none f)
one_verdict_in_turn o ordered entries v w (of_need n a b none apart first e) (of_cell cell i j none_too s f) = absurd (not_apart _ cell i j s (apart cell))
one_verdict_in_turn o ordered entries v w (of_need n a b none apart first e) (of_need m d g none_too apart_too first_too f) = e
    ∙ ap verdict.Uncovered (one_need _ _ entries n m a d b g first first_too) ∙ sym f
one_verdict_in_turn o ordered entries v w (of_need n a b none apart first e) (of_none none_too apart_too covered f) = absurd
    (not_covered _ _ entries n a b first covered)
one_verdict_in_turn o ordered entries v w (of_none none apart covered e) (of_member f) = absurd (not_both (member_fault_in_turn o ordered) w none f)
one_verdict_in_turn o ordered entries v w (of_none none apart covered e) (of_cell cell i j none_too s f) = absurd (not_apart _ cell i j s (apart cell))
one_verdict_in_turn o ordered entries v w (of_none none apart covered e) (of_need n a b none_too apart_too first f) = absurd
    (not_covered _ _ entries n a b first covered)
one_verdict_in_turn o ordered entries v w (of_none none apart covered e) (of_none none_too apart_too covered_too f) = e ∙ sym f
