-- What plans in the order of members are, and what they promise.
use Rattle.std.proofs.Common.{◌≡◌, ◌∙◌, ◌<◌, ℕ, zero, suc, true, false, List, [], ◌∷◌, ◌++◌, Some, None, inl, inr, Contains}
use Rattle.std.proofs.Common.{length, map, take, drop, refl, sym, ap, subst, arith}
use Rattle.std.proofs.lemmas.Bool.{false≢true, true≢false}
use Rattle.std.proofs.lemmas.List.{length-map}
use Rattle.clr_rules.proofs.Elements.{Among, among, among_either, contained}
use Rattle.clr_needs.specs.declared.needs.Need.{Need}
use Rattle.clr_needs.specs.Members.{AreApart}
use Rattle.clr_steps.specs.Offices.{Office}
use Rattle.clr_steps.specs.Quiet.{MergeSet}
use Rattle.clr_clearance.specs.declared.verdicts.Verdict.{Verdict}
use Rattle.clr_clearance.specs.declared.verdicts.Verdict.TheVariants as verdict
use Rattle.clr_clearance.specs.MergeSets.{AreMergeable, change_sets, setting_by_position}
use Rattle.clr_clearance.specs.Plans.{IsBlocked, is_order_refused, members_at, of_conflict, of_shared, of_unpicked}
use Rattle.clr_clearance.specs.Verdicts.{first_conflict, member_fault, names_fault}
use Rattle.clr_clearance.proofs.ClearLemmas.{faultless, mergeable_of, neither, no_member_fault}
use Rattle.clr_clearance.proofs.PlanLemmas as plans
use Rattle.clr_clearance.proofs.SafeLemmas.{safe_law}
use Rattle.clr_clearance.proofs.StaticLemmas.{apart_sets}
use Rattle.clr_clearance.proofs.VerdictLemmas.{not_apart}
use Rattle.clr_ordered_needs.specs.Covers.{AreCovered, EachHasCover}
use Rattle.clr_ordered_clearance.specs.Laws.{without_order}
use Rattle.clr_ordered_clearance.specs.MergeSets.{AreListedInTurn, CoversInTurn, OrderedMergeSet, position_goes_before}
use Rattle.clr_ordered_clearance.specs.Verdicts.{IsVerdictInTurn}
use Rattle.clr_ordered_clearance.proofs.ClearedLemmas.{cleared_in_turn}
use Rattle.clr_ordered_clearance.proofs.ListedLemmas.{unrefused}
use Rattle.clr_ordered_clearance.proofs.NumberLemmas.{every_order}
use Rattle.clr_ordered_clearance.proofs.VerdictLemmas.{clear_in_turn}
use Rattle.clr_cert.specs.declared.certificates.Certificate.{Certificate}
use Rattle.clr_cert.specs.declared.certificates.Precedence.{Precedence}
use Rattle.clr_merge_sets.specs.Certificates.{entries_in, merge_set_of, ordered_merge_set_of, pairs_in}
use Rattle.clr_merge_sets.specs.declared.plans.Plan.{Plan}
use Rattle.clr_merge_sets.specs.declared.plans.Plan.TheVariants as plan
use Rattle.clr_plan.specs.OrderedPlans.{IsBlockedInOrder, IsClearanceInOrder, IsExactInOrder, IsPlanInOrder, PromisesInOrder, without_pair}
use Rattle.clr_plan.specs.OrderedPlans as ordered
use Rattle.clr_plan.specs.Plans.{IsPlan}
use Rattle.clr_plan.specs.Promises.{IsUnfitWhere}
use Rattle.clr_plan.proofs.FaultLaws.{no_name_fault}
use Rattle.clr_order_answers.specs.declared.pairs.Pair.{Pair}
use Rattle.clr_listed_covers.specs.declared.listed_covers.ListedCover.{ListedCover}
use Rattle.clr_listed_covers.specs.declared.listed_covers.ListedCover.TheVariants as listed
use Rattle.clr_listed_covers.specs.ListedCovers.{IsListedCover}
use Rattle.clr_ordered_plans.specs.Listed.{IsPlanOfListed, precedence_of}
use Rattle.clr_ordered_plans.specs.Plans.{IsListedPlan, IsPlanWithoutPairs, is_of_need}
use Rattle.clr_ordered_plans.proofs.Beginnings.{beginning_refused, few, list_refused}
use Rattle.clr_ordered_plans.proofs.ListedNames.{certificate_is, keeps, listed_in_turn, listed_set, said_by, split_at, without_is}

-- in every order -----------------------------------------------------------------------------------------

module _ (o : Office) (s : MergeSet) where
  without_pairs : (c : Certificate) → merge_set_of c ≡ s → c.before ≡ [] → ordered_merge_set_of c ≡ without_order s
  without_pairs c same none = let before : pairs_in c.before ≡ [] = ap pairs_in none in λ i. record { merge_set = same i; before = before i }

  cleared_in_order : (c : Certificate) → IsPlan o s (plan.Cleared c) → IsClearanceInOrder o s c
  cleared_in_order c h =
      let is = without_pairs c h.merge_set h.without_order in
      let covers = ((every_order o s).covers (entries_in c.entries)).1 (plans.cleared_plan o s (entries_in c.entries) h.cleared) in
      record {
        merge_set = h.merge_set;
        free = h.cleared.free;
        apart = h.cleared.apart;
        listed = subst AreListedInTurn (sym is) (λ m n goes. absurd (false≢true goes));
        covered = subst (λ (p : OrderedMergeSet). AreCovered (position_goes_before p) (setting_by_position o s) (entries_in c.entries)) (sym is) covers.covered;
        needed = λ at less. absurd (none c.before h.without_order at less);
      }
    where
      none : (before : List Precedence) → before ≡ [] → (at : ℕ) → at < length before → ⊥
      none before e at less = let empty : length before ≡ 0 = ap length e in omega (arith, less, empty)

  blocked_in_order : (order : List ℕ) (cause : Verdict) → IsBlocked o s order cause → ((n : Need) → cause ≡ verdict.Uncovered n → ⊥)
      → IsBlockedInOrder o s order cause
  blocked_in_order order cause (of_conflict at cell count none first same is) other = ordered.of_conflict at cell count none first same is
  blocked_in_order order cause (of_shared cell i j none shared same is) other = ordered.of_shared cell i j none shared same is
  blocked_in_order order cause (of_unpicked n none apart first blocks is) other = absurd (other n is)

  pub same_in_order : (p : Plan) → IsPlan o s p → is_of_need p ≡ false → IsPlanInOrder o s p
  same_in_order (plan.Unfit v) h other = h
  same_in_order (plan.Blocked order cause) h other = blocked_in_order order.items cause h
      (λ n e. true≢false (sym (ap (λ v. is_of_need (plan.Blocked order v)) e) ∙ other))
  same_in_order (plan.Cleared c) h other = cleared_in_order c h
  same_in_order plan.OutOfMemory h other = h

  -- a plan that is blocked by a need has good names, and its members aren't cleared in every order
  pub of_need_named : (p : Plan) → IsPlan o s p → is_of_need p ≡ true → names_fault o s ≡ None
  of_need_named (plan.Unfit v) h is = absurd (false≢true is)
  of_need_named (plan.Cleared c) h is = absurd (false≢true is)
  of_need_named plan.OutOfMemory h is = h
  of_need_named (plan.Blocked order cause) h is = by h
    where
      by : IsBlocked o s order.items cause → names_fault o s ≡ None
      by (of_conflict at cell count none first same e) = none
      by (of_shared cell i j none shared same e) = no_name_fault o s none
      by (of_unpicked n none apart first blocks e) = no_name_fault o s none

  -- of what covers or breaks the members in their order ------------------------------------------------------

  counted : (c : Certificate) (pairs : List Pair) → c.before ≡ map (precedence_of s.members) pairs → (at : ℕ) → at < length c.before → at < length pairs
  counted c pairs e at less =
      let long : length c.before ≡ length pairs = ap length e ∙ length-map pairs (precedence_of s.members) in
      omega (arith, less, long)

  among_rest : (pairs : List Pair) (at : ℕ) (q : Pair) → Contains (take at pairs ++ drop (suc at) pairs) q → Contains pairs q
  among_rest pairs at q h = contained q pairs (elim (among_either q (take at pairs) (drop (suc at) pairs) (among q (take at pairs ++ drop (suc at) pairs) h)) [
    | inl first ↦ in_first pairs at first
    | inr rest ↦ in_rest pairs (suc at) rest
  ])
    where
      in_first : (ps : List Pair) (k : ℕ) → Among q (take k ps) → Among q ps
      in_first [] zero g = absurd g
      in_first [] (suc k) g = absurd g
      in_first (p ∷ ps) zero g = absurd g
      in_first (p ∷ ps) (suc k) (inl same) = inl same
      in_first (p ∷ ps) (suc k) (inr g) = inr (in_first ps k g)

      in_rest : (ps : List Pair) (k : ℕ) → Among q (drop k ps) → Among q ps
      in_rest [] zero g = absurd g
      in_rest [] (suc k) g = absurd g
      in_rest (p ∷ ps) zero g = g
      in_rest (p ∷ ps) (suc k) g = inr (in_rest ps k g)

  module _ (free : member_fault o s ≡ None) (apart : AreApart (change_sets o s)) where
    of_cover : (cover : ListedCover) → IsListedCover (setting_by_position o s) cover → (p : Plan) → IsPlanOfListed s cover p → IsPlanInOrder o s p
    of_cover (listed.Covered pairs entries) told (plan.Cleared c) (same, before, are) =
        let is = certificate_is s c pairs.items same before in
        let set = listed_set s pairs.items in
        let differ = (faultless o s free).differ in
        record {
          merge_set = same;
          free = free;
          apart = apart;
          listed = subst AreListedInTurn (sym is) (listed_in_turn o s pairs.items told.listed);
          covered = subst (λ (q : OrderedMergeSet). AreCovered (position_goes_before q) (setting_by_position o s) (entries_in c.entries)) (sym is)
              (subst (λ es. AreCovered (position_goes_before set) (setting_by_position o s) (entries_in es)) (sym are)
              (told.under.covered (position_goes_before set) (keeps o s pairs.items told.listed)));
          needed = λ at less each. (
              let short : at < length pairs.items = counted c pairs.items before at less in
              let split = split_at pairs.items at short in
              let rest = take at pairs.items ++ drop (suc at) pairs.items in
              let on = subst (λ (q : OrderedMergeSet). EachHasCover (position_goes_before (without_pair q at)) (setting_by_position o s)) is each in
              let on_rest = subst (λ (q : OrderedMergeSet). EachHasCover (position_goes_before q) (setting_by_position o s)) (without_is s pairs.items at) on in
              told.needed (take at pairs.items) split.pair (drop (suc at) pairs.items) split.split (position_goes_before (listed_set s rest))
              (said_by o s rest (λ q h. told.listed q (among_rest pairs.items at q h)) differ) on_rest
              );
        }
    of_cover (listed.Broken need count) told (plan.Blocked order cause) (same, is) =
        ordered.of_need need told.first told.second count free apart (record { uncovered = told.uncovered; first = told.least })
        (record { last = told.last; ends = told.ends; blocks = told.blocks; broken = told.broken }) same is
    of_cover (listed.Covered pairs entries) told (plan.Blocked order cause) h = absurd h
    of_cover (listed.Covered pairs entries) told (plan.Unfit v) h = absurd h
    of_cover (listed.Covered pairs entries) told plan.OutOfMemory h = absurd h
    of_cover (listed.Broken need count) told (plan.Cleared c) h = absurd h
    of_cover (listed.Broken need count) told (plan.Unfit v) h = absurd h
    of_cover (listed.Broken need count) told plan.OutOfMemory h = absurd h

  pub listed_in_order : (p : Plan) → IsListedPlan o s p → IsPlanInOrder o s p
  listed_in_order plan.OutOfMemory h = h
  listed_in_order (plan.Cleared c) h = of_cover h.free h.apart h.cover h.told (plan.Cleared c) h.is_plan
  listed_in_order (plan.Blocked order cause) h = of_cover h.free h.apart h.cover h.told (plan.Blocked order cause) h.is_plan
  listed_in_order (plan.Unfit v) h = of_cover h.free h.apart h.cover h.told (plan.Unfit v) h.is_plan

-- promises ---------------------------------------------------------------------------------------------------

not_found : (v : Verdict) → None ≡ Some v → ⊥
not_found v e = absurd (cc)

module _ (o : Office) (s : MergeSet) where
  -- no plan is blocked where a test of names fails
  named : (order : List ℕ) (cause : Verdict) → IsBlockedInOrder o s order cause → names_fault o s ≡ None
  named order cause (ordered.of_conflict at cell count none first same is) = none
  named order cause (ordered.of_shared cell i j none shared same is) = no_name_fault o s none
  named order cause (ordered.of_need n a b count none apart first broken same is) = no_name_fault o s none

  pub unfit_in_order : (p : Plan) → IsPlanInOrder o s p → IsUnfitWhere o s p
  unfit_in_order (plan.Unfit w) h v e = ap plan.Unfit (let both : Some w ≡ Some v = sym h ∙ e in cc)
  unfit_in_order (plan.Blocked order cause) h v e = absurd (not_found v (sym (named order.items cause h) ∙ e))
  unfit_in_order (plan.Cleared c) h v e = absurd (not_found v (sym (no_name_fault o s h.free) ∙ e))
  unfit_in_order plan.OutOfMemory h v e = absurd (not_found v (sym h ∙ e))

  -- the verdict on a certificate is clear
  clear_of : (c : Certificate) → IsClearanceInOrder o s c → IsVerdictInTurn o (ordered_merge_set_of c) (entries_in c.entries) verdict.Clear
  clear_of c h =
      let same = h.merge_set in
      (clear_in_turn o (ordered_merge_set_of c) (entries_in c.entries)).1 (
        record {
          mergeable = subst (AreMergeable o) (sym same) (mergeable_of o s h.free h.apart);
          covered = subst (λ (t : MergeSet). AreCovered (position_goes_before (ordered_merge_set_of c)) (setting_by_position o t) (entries_in c.entries))
              (sym same)
              h.covered;
        },
        h.listed,
      )

  refused_in_order : (order : List ℕ) (cause : Verdict) → IsBlockedInOrder o s order cause → is_order_refused o (members_at s order) ≡ true
  refused_in_order order cause (ordered.of_conflict at cell count none first same is) =
      plans.blocked_plan o s order cause (of_conflict at cell count none first same is)
  refused_in_order order cause (ordered.of_shared cell i j none shared same is) =
      plans.blocked_plan o s order cause (of_shared cell i j none shared same is)
  refused_in_order order cause (ordered.of_need n a b count none apart first broken same is) =
      ap (λ xs. is_order_refused o (members_at s xs)) same
      ∙ beginning_refused o s (mergeable_of o s none apart) apart n a b count first.uncovered broken

  pub promise_in_order : (p : Plan) → IsPlanInOrder o s p → PromisesInOrder o s p
  promise_in_order (plan.Cleared c) h =
      let clear = clear_of c h in
      record { names = h.merge_set; clear = clear; cleared = cleared_in_turn o (ordered_merge_set_of c) (entries_in c.entries) clear }
  promise_in_order (plan.Blocked order cause) h = refused_in_order order.items cause h
  promise_in_order (plan.Unfit v) h = tt
  promise_in_order plan.OutOfMemory h = tt

  -- members that can be merged as they are listed aren't refused
  not_refused : (c : Certificate) → IsClearanceInOrder o s c → is_order_refused o s.members ≡ false
  not_refused c h =
      let cleared = cleared_in_turn o (ordered_merge_set_of c) (entries_in c.entries) (clear_of c h) in
      subst (λ (t : MergeSet). is_order_refused o t.members ≡ false) h.merge_set
      (unrefused o (ordered_merge_set_of c) (merge_set_of c).members cleared.listed)

  -- in a mergeable set no other test fails
  blocked_refuses : (order : List ℕ) (cause : Verdict) → AreMergeable o s → IsBlockedInOrder o s order cause → is_order_refused o s.members ≡ true
  blocked_refuses order cause mergeable (ordered.of_conflict at cell count none first same is) =
      absurd (not_found (verdict.Conflict at cell count) (sym (no_conflict mergeable) ∙ first))
    where
      no_conflict : AreMergeable o s → first_conflict o 0 s.members ≡ None
      no_conflict m = (neither (names_fault o s) (first_conflict o 0 s.members) (no_member_fault o s m)).1
  blocked_refuses order cause mergeable (ordered.of_shared cell i j none shared same is) =
      absurd (not_apart (change_sets o s) cell i j shared (apart_sets o s mergeable cell))
  blocked_refuses order cause mergeable (ordered.of_need n a b count none apart first broken same is) =
      list_refused o s count (few o s mergeable apart n a b count first.uncovered broken)
      (beginning_refused o s mergeable apart n a b count first.uncovered broken)

  pub exact_in_order : (p : Plan) → IsPlanInOrder o s p → IsExactInOrder o s p
  exact_in_order (plan.Cleared c) h mergeable found = (λ e. not_refused c h, λ calm. refl)
  exact_in_order (plan.Blocked order cause) h mergeable found =
      (λ e. absurd (false≢true e), λ calm. absurd (true≢false (sym (blocked_refuses order.items cause mergeable h) ∙ calm)))
  exact_in_order (plan.Unfit v) h mergeable found = absurd (not_found v (sym (no_name_fault o s (no_member_fault o s mergeable)) ∙ h))
  exact_in_order plan.OutOfMemory h mergeable found = absurd (true≢false found)

  -- without pairs --------------------------------------------------------------------------------------------

  pub same_without_pairs : (p : Plan) → IsPlan o s p → IsPlanWithoutPairs o s p
  same_without_pairs p h c e none = h

  -- where a need blocks the members in every order, they aren't covered without pairs
  pub none_without_pairs : (blocked : Plan) → IsPlan o s blocked → is_of_need blocked ≡ true → (p : Plan) → IsPlanInOrder o s p → IsPlanWithoutPairs o s p
  none_without_pairs (plan.Unfit v) h is p in_order c e none = absurd (false≢true is)
  none_without_pairs (plan.Cleared d) h is p in_order c e none = absurd (false≢true is)
  none_without_pairs plan.OutOfMemory h is p in_order c e none = absurd (false≢true is)
  none_without_pairs (plan.Blocked order cause) h is p in_order c e none =
      let cleared : IsClearanceInOrder o s c = subst (IsPlanInOrder o s) e in_order in
      let as_every = without_pairs o s c cleared.merge_set none in
      let covers : CoversInTurn o (without_order s) (entries_in c.entries) = record {
        mergeable = mergeable_of o s cleared.free cleared.apart;
        covered = subst (λ (q : OrderedMergeSet). AreCovered (position_goes_before q) (setting_by_position o s) (entries_in c.entries)) as_every
            cleared.covered;
      } in
      absurd (plans.safe_plan o s order.items cause (safe_law o s (entries_in c.entries) (((every_order o s).covers (entries_in c.entries)).0 covers)) h)

-- the plan of a scene's cover
pub listed_plan : (o : Office) (s : MergeSet) → member_fault o s ≡ None → AreApart (change_sets o s) → (cover : ListedCover)
    → IsListedCover (setting_by_position o s) cover → (p : Plan) → IsPlanOfListed s cover p → IsListedPlan o s p
listed_plan o s free apart cover told (plan.Cleared c) h = record { free = free; apart = apart; cover = cover; told = told; is_plan = h }
listed_plan o s free apart cover told (plan.Blocked order cause) h = record { free = free; apart = apart; cover = cover; told = told; is_plan = h }
listed_plan o s free apart (listed.Covered pairs entries) told (plan.Unfit v) h = absurd h
listed_plan o s free apart (listed.Broken need count) told (plan.Unfit v) h = absurd h
listed_plan o s free apart (listed.Covered pairs entries) told plan.OutOfMemory h = absurd h
listed_plan o s free apart (listed.Broken need count) told plan.OutOfMemory h = absurd h
