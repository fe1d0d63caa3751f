-- What plans promise.
use Rattle.std.proofs.Common.{◌≡◌, ◌∙◌, ℕ, List, Bool, true, false, cond, Option, Some, None, refl, sym, ap, subst}
use Rattle.std.specs.Prelude.{◌↔◌}
use Rattle.std.proofs.lemmas.Bool.{false≢true}
use Rattle.std.specs.Option.{option_or}
use Rattle.clr_steps.specs.Invariants.{HoldsWhereKept}
use Rattle.clr_steps.specs.Offices.{Office, is_kept}
use Rattle.clr_steps.specs.Quiet.{MergeSet, root_content}
use Rattle.clr_clearance.specs.declared.verdicts.Verdict.{Verdict}
use Rattle.clr_clearance.specs.declared.verdicts.Verdict.TheVariants as verdict
use Rattle.clr_clearance.specs.Headline.{NamesTheSame}
use Rattle.clr_clearance.specs.PlanLaws.{StaysClear}
use Rattle.clr_clearance.specs.Plans.{IsBlocked, of_conflict, of_shared, of_unpicked, standing}
use Rattle.clr_clearance.specs.Safety.{Safe}
use Rattle.clr_clearance.specs.MergeSets.{RootHolds}
use Rattle.clr_clearance.specs.Verdicts.{missing_member, names_fault, repeated_member, stray_member}
use Rattle.clr_clearance.proofs.ClearLemmas.{clear_law}
use Rattle.clr_clearance.proofs.HeadlineLemmas.{headline}
use Rattle.clr_clearance.proofs.LastingLemmas.{lasting_reordered}
use Rattle.clr_clearance.proofs.PlanLemmas as plans
use Rattle.clr_merge_sets.specs.declared.plans.Plan.{Plan}
use Rattle.clr_merge_sets.specs.declared.plans.Plan.TheVariants as plan
use Rattle.clr_merge_sets.specs.Certificates.{entries_in}
use Rattle.clr_plan.specs.Plans.{IsPlan}
use Rattle.clr_merge_sets.specs.Plans.{is_cleared, is_out_of_memory}
use Rattle.clr_plan.specs.Promises.{IsExact, IsUnfitWhere, Promises, StaysCleared}
use Rattle.clr_plan.proofs.FaultLaws.{no_name_fault}

not_found : (v : Verdict) → None ≡ Some v → ⊥
not_found v e = absurd (cc)

module _ (o : Office) (s : MergeSet) where
  -- no plan is blocked where a test of names fails
  named : (order : List ℕ) (cause : Verdict) → IsBlocked o s order cause → names_fault o s ≡ None
  named order cause (of_conflict at cell count none first same is) = none
  named order cause (of_shared cell i j none shared same is) = no_name_fault o s none
  named order cause (of_unpicked n none apart first blocks is) = no_name_fault o s none

pub unfit_law : (o : Office) (s : MergeSet) (p : Plan) → IsPlan o s p → IsUnfitWhere o s p
unfit_law o s (plan.Unfit w) h v e = ap plan.Unfit (let both : Some w ≡ Some v = sym h ∙ e in cc)
unfit_law o s (plan.Blocked order cause) h v e = absurd (not_found v (sym (named o s order.items cause h) ∙ e))
unfit_law o s (plan.Cleared c) h v e = absurd (not_found v (sym (no_name_fault o s h.cleared.free) ∙ e))
unfit_law o s plan.OutOfMemory h v e = absurd (not_found v (sym h ∙ e))

pub promise_law : (o : Office) (s : MergeSet) (p : Plan) → IsPlan o s p → Promises o s p
promise_law o s (plan.Cleared c) h =
    let covers = plans.cleared_plan o s (entries_in c.entries) h.cleared in
    let clear = (clear_law o s (entries_in c.entries)).1 covers in
    record {
      names = h.merge_set;
      covers = covers;
      clear = clear;
      safe = plans.cleared_safe o s (entries_in c.entries) h.cleared;
      headline = headline o s (entries_in c.entries) clear;
    }
promise_law o s (plan.Blocked order cause) h =
    record { refused = plans.blocked_plan o s order.items cause h; unsafe = λ safe. plans.safe_plan o s order.items cause safe h }
promise_law o s (plan.Unfit v) h = tt
promise_law o s plan.OutOfMemory h = tt

pub exact_law : (o : Office) (s : MergeSet) (p : Plan) → IsPlan o s p → IsExact o s p
exact_law o s p h none found = by p h found (promise_law o s p h)
  where
    by : (p : Plan) → IsPlan o s p → is_out_of_memory p ≡ false → Promises o s p → (is_cleared p ≡ true) ↔ Safe o s
    by (plan.Cleared c) h found proof = (λ e. proof.safe, λ safe. refl)
    by (plan.Blocked order cause) h found refusal = (λ e. absurd (false≢true e), λ safe. absurd (refusal.unsafe safe))
    by (plan.Unfit v) h found t = absurd (not_found v (sym none ∙ h))
    by plan.OutOfMemory h found t = absurd (false≢true (sym found))

-- where no test fails and no plan is blocked, the plan is cleared
stays : (o : Office) (s : MergeSet) (p : Plan) → StaysClear o s → IsPlan o s p → is_out_of_memory p ≡ false → is_cleared p ≡ true
stays o s (plan.Cleared c) clear h found = refl
stays o s (plan.Blocked order cause) clear h found = absurd (clear.unblocked order.items cause h)
stays o s (plan.Unfit v) clear h found = absurd (not_found v (sym (no_name_fault o s clear.free) ∙ h))
stays o s plan.OutOfMemory clear h found = absurd (false≢true (sym found))

pub lasting_law : (o : Office) (s : MergeSet) (p : Plan) → IsPlan o s p → StaysCleared o s p
lasting_law o s p h first merge_set entries commands lost covers quiet later same once found =
    let clear = lasting_reordered first merge_set entries commands lost covers quiet in
    stays o s p (subst (λ now. (other : MergeSet) → NamesTheSame (standing now merge_set) other → repeated_member other ≡ None → StaysClear now other)
    (sym later) clear
    s same once) h found
