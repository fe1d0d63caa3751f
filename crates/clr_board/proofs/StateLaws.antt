-- What the states of members tell of plans.
use Rattle.std.proofs.Common.{◌≡◌, ◌∙◌, ◌==◌, ◌<◌, ℕ, Bool, true, false, cond, List, [], ◌∷◌, inl, inr, Contains, Option, Some, None}
use Rattle.std.proofs.Common.{ap, arith, length, refl, subst, sym}
use Rattle.std.specs.Prelude.{find}
use Rattle.std.specs.List.Sorted.{IsStrictlySortedBy}
use Rattle.std.specs.Ordering.{nat_cmp}
use Rattle.std.proofs.lemmas.Bool.{false≢true}
use Rattle.std.proofs.lemmas.Bool.Decides.{Decides-eqb}
use Rattle.clr_rules.proofs.Elements.{Among, among, among_mapped, any_by, contained, mapped_among, some_of}
use Rattle.clr_needs.proofs.PositionLaws.{number_less}
use Rattle.clr_steps.specs.Offices.{Office}
use Rattle.clr_steps.specs.Quiet.{MergeSet}
use Rattle.clr_clearance.specs.declared.verdicts.Verdict.{Verdict}
use Rattle.clr_clearance.specs.declared.verdicts.Verdict.TheVariants as verdict
use Rattle.clr_merge_sets.specs.declared.plans.Plan.{Plan}
use Rattle.clr_merge_sets.specs.declared.plans.Plan.TheVariants as plan
use Rattle.clr_merge_sets.specs.Plans.{is_cleared, is_out_of_memory}
use Rattle.clr_plan.specs.Plans.{IsPlan}
use Rattle.clr_clashes.specs.Clashes.{IsAllIn}
use Rattle.clr_merge_clashes.specs.ClashSets.{MergeClash, stored_clash}
use Rattle.clr_merge_clashes.specs.Laws.{ArePositions, AreSmallestSets, merge_set_of_part, sets_of}
use Rattle.clr_merge_clashes.specs.declared.clash_sets.MergeClashes.{MergeClashes}
use Rattle.clr_clash_helpers.specs.Helpers.{AreHelped}
use Rattle.clr_clash_helpers.specs.declared.helped.HelpedClash.{HelpedClash}
use Rattle.clr_board.specs.declared.states.DesignState.TheVariants.{Waiting, Unaided, Clashing}
use Rattle.clr_board.specs.Laws.{GoesAlone, GoesWithAll, IsRefusedAlone, StatesTellPlans, TellsOf}
use Rattle.clr_board.specs.States.{has_member, state_alone, state_by, state_of, state_within}

-- lists --------------------------------------------------------------------------------------------

module _ {X : Type 0} (p : X → Bool) where
  none_passes : (xs : List X) (x : X) → find p xs ≡ None → Among x xs → p x ≡ false
  none_passes [] x e there = absurd there
  none_passes (y ∷ ys) x e there = by (p y) refl e there (none_passes ys x)
    where
      by : (b : Bool) → p y ≡ b → cond b (Some y) (find p ys) ≡ None → Among x (y ∷ ys) → (find p ys ≡ None → Among x ys → p x ≡ false) → p x ≡ false
      by true passes h there more = absurd (cc)
      by false fails h (inl same) more = sym (ap p same) ∙ fails
      by false fails h (inr later) more = more h later

  found_passes : (xs : List X) (x : X) → find p xs ≡ Some x → Among x xs × (p x ≡ true)
  found_passes [] x e = absurd (cc)
  found_passes (y ∷ ys) x e = by (p y) refl e (found_passes ys x)
    where
      by : (b : Bool) → p y ≡ b → cond b (Some y) (find p ys) ≡ Some x → (find p ys ≡ Some x → Among x ys × (p x ≡ true)) → Among x (y ∷ ys) × (p x ≡ true)
      by true passes h more = let same : y ≡ x = cc in (inl same, subst (λ z. p z ≡ true) same passes)
      by false fails h more = let (there, passes) = more h in (inr there, passes)

-- a list of one number
one_of : (xs : List ℕ) (at : ℕ) → length xs ≡ 1 → Among at xs → xs ≡ at ∷ []
one_of [] at long there = absurd there
one_of (x ∷ []) at long (inl same) = ap (λ y. y ∷ []) same
one_of (x ∷ []) at long (inr none) = absurd none
one_of (x ∷ y ∷ zs) at long there = absurd (omega (arith, long))

-- numbers that rise, and are all the same, are one
only_one : (xs : List ℕ) (at : ℕ) → IsStrictlySortedBy nat_cmp xs → ((x : ℕ) → Among x xs → x ≡ at) → Among at xs → length xs ≡ 1
unfolding IsStrictlySortedBy
only_one [] at rising same there = absurd there
only_one (x ∷ []) at rising same there = refl
only_one (x ∷ y ∷ zs) at rising same there =
    let less = number_less x y rising.0.0 in
    let one = same x (inl refl) in
    let two = same y (inr (inl refl)) in
    absurd (omega (arith, less, one, two))

-- the member alone
alone_rises : (at : ℕ) → IsStrictlySortedBy nat_cmp (at ∷ [])
unfolding IsStrictlySortedBy
alone_rises at = (tt, tt)

is_alone : (at x : ℕ) → Contains (at ∷ []) x → at ≡ x
is_alone at x there = by (among x (at ∷ []) there)
  where
    by : Among x (at ∷ []) → at ≡ x
    by (inl same) = same
    by (inr none) = absurd none

-- plans --------------------------------------------------------------------------------------------

cleared_found : (p : Plan) → is_cleared p ≡ true → is_out_of_memory p ≡ false
cleared_found (plan.Cleared c) e = refl
cleared_found (plan.Blocked order cause) e = refl
cleared_found (plan.Unfit v) e = refl
cleared_found plan.OutOfMemory e = absurd (cc)

module _ (o : Office) (s : MergeSet) (found : MergeClashes) (helped : List HelpedClash) (sets : AreSmallestSets o s found)
    (are : AreHelped o s found.clashes.items helped) where
  -- a set that is found has its helpers listed, and the other way round
  helped_of : (k : MergeClash) → Contains (sets_of found) k → (h : HelpedClash) × Among h helped × (stored_clash h.clash.now ≡ k)
  helped_of k there =
      let (c, in_found, same) = among_mapped stored_clash k found.clashes.items (among k (sets_of found) there) in
      let (h, in_helped, is) = among_mapped (λ (h : HelpedClash). h.clash.now) c helped (subst (λ list. Among c list) (sym are.sets) in_found) in
      (h, in_helped, ap stored_clash is ∙ same)

  found_of : (h : HelpedClash) → Among h helped → Contains (sets_of found) (stored_clash h.clash.now)
  found_of h there =
      contained (stored_clash h.clash.now) (sets_of found) (mapped_among stored_clash h.clash.now found.clashes.items
      (subst (λ list. Among h.clash.now list) are.sets (mapped_among (λ (h : HelpedClash). h.clash.now) h helped there)))

  has : (at : ℕ) (h : HelpedClash) → Contains h.clash.now.members.items at → has_member at h ≡ true
  has at h there =
      any_by (λ x. x == at) at h.clash.now.members.items (among at h.clash.now.members.items there) ((Decides-eqb at at).1 refl)

  had : (at : ℕ) (h : HelpedClash) → has_member at h ≡ true → Among at h.clash.now.members.items
  had at h e =
      let (x, there, same) = some_of (λ x. x == at) h.clash.now.members.items e in
      subst (λ y. Among y h.clash.now.members.items) ((Decides-eqb x at).0 same) there

  module _ (at : ℕ) where
    outside : find (has_member at) helped ≡ None → (k : MergeClash) → Contains (sets_of found) k → Contains k.members at → ⊥
    outside none k there in_k =
        let (h, in_helped, same) = helped_of k there in
        false≢true (sym (none_passes (has_member at) helped h none in_helped)
        ∙ has at h (subst (λ (j : MergeClash). Contains j.members at) (sym same) in_k))

    free_goes : find (has_member at) helped ≡ None → GoesWithAll o s found at
    free_goes none fewer more p q few many looked beside planned planned_too cleared memory =
        let known = sets.decided fewer p few planned (cleared_found p cleared) in
        let known_too = sets.decided more q many planned_too memory in
        known_too.cleared looked (λ k there held. false≢true (sym (known.blocked k there (kept k there held)) ∙ cleared))
      where
        kept : (k : MergeClash) → Contains (sets_of found) k → IsAllIn k.members more → IsAllIn k.members fewer
        kept k there held x in_k = elim (beside x (held x in_k)) [
          | inl same ↦ absurd (outside none k there (subst (λ y. Contains k.members y) same in_k))
          | inr before ↦ before
        ]

    module _ (less : at < length s.members) (h : HelpedClash) (there : Among h helped) (in_h : Among at h.clash.now.members.items) where
      abbrev members : List ℕ
      members = h.clash.now.members.items

      refused : length members ≡ 1 → IsRefusedAlone o s at
      refused long p planned memory =
          (sets.smallest (stored_clash h.clash.now) (found_of h there)).blocked p
          (subst (λ (list : List ℕ). IsPlan o (merge_set_of_part s list) p) (sym (one_of members at long in_h)) planned)

      alone : ArePositions s (at ∷ [])
      alone = record { ascending = alone_rises at; below = λ k there. subst (λ x. x < length s.members) (is_alone at k there) less }

      goes_alone : ¬ (length members ≡ 1) → GoesAlone o s at
      goes_alone more p planned memory =
          let set = sets.smallest (stored_clash h.clash.now) (found_of h there) in
          set.lesser_cleared (at ∷ []) p alone
          (λ x in_it. subst (λ y. Contains members y) (is_alone at x in_it) (contained at members in_h))
          (λ all. more (only_one members at set.positions.ascending (λ x in_it. sym (is_alone at x (all x (contained x members in_it)))) in_h))
          planned memory

      refused_tells : (v : Verdict) (helpers : ℕ) → IsRefusedAlone o s at → TellsOf o s found at (state_alone v helpers)
      refused_tells (verdict.Conflict member q count) helpers is = is
      refused_tells _ helpers is = by (helpers == 0)
        where
          by : (b : Bool) → TellsOf o s found at (cond b Unaided Waiting)
          by true = is
          by false = is

      within_tells : TellsOf o s found at (state_within h)
      within_tells = by (length members == 1) refl
        where
          by : (b : Bool) → (length members == 1) ≡ b
              → TellsOf o s found at (cond b (state_alone h.clash.now.cause (length h.helpers.items)) Clashing)
          by true e = refused_tells h.clash.now.cause (length h.helpers.items) (refused ((Decides-eqb (length members) 1).0 e))
          by false e = goes_alone (λ long. false≢true (sym e ∙ (Decides-eqb (length members) 1).1 long))

    told : at < length s.members → TellsOf o s found at (state_of helped at)
    told less = by (find (has_member at) helped) refl
      where
        by : (r : Option HelpedClash) → find (has_member at) helped ≡ r → TellsOf o s found at (state_by r)
        by None e = free_goes e
        by (Some h) e = let (there, passes) = found_passes (has_member at) helped h e in within_tells less h there (had at h passes)

pub states_tell : StatesTellPlans
states_tell o s found helped at sets are less = told o s found helped sets are at less
