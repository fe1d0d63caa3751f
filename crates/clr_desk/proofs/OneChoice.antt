-- Names that are tried one after another are taken and left in one way alone.
use Rattle.std.proofs.Common.{◌≡◌, ◌∙◌, ◌||◌, ◌++◌, ◌∷◌, ℕ, zero, suc, Bool, true, false, cond, not, List, [], Some, ap, append-nil, append_assoc}
use Rattle.std.proofs.Common.{Option, None, codes, filter, map, refl, slice_get, subst, sym, take}
use Rattle.std.specs.Prelude.{is_none}
use Rattle.std.specs.List.{flat_map, list_any}
use Rattle.std.proofs.lemmas.Bool.{true≢false}
use Rattle.clr_workspaces.specs.Marks.{Name}
use Rattle.clr_steps.specs.Offices.{Office}
use Rattle.clr_cert.specs.declared.certificates.Certificate.{Certificate}
use Rattle.clr_cert.specs.Texts.{certificate_text}
use Rattle.clr_merge_sets.specs.MergeSetNames.{merge_set}
use Rattle.clr_merge_sets.specs.declared.plans.Plan.{Plan}
use Rattle.clr_merge_sets.specs.declared.plans.Plan.TheVariants as plan
use Rattle.clr_merge_sets.specs.Plans.{is_cleared, is_out_of_memory}
use Rattle.clr_plan.proofs.OnePlanLemmas.{one_plan}
use Rattle.clr_desk_prints.specs.Members.{members_or_children}
use Rattle.clr_desk_prints.specs.Printing.{PrintoutOrFault, printout_of}
use Rattle.clr_desk_orders.specs.PlanPrints.{plan_print}
use Rattle.clr_choices.specs.ChoiceLines.{left_text, refusal_if_any}
use Rattle.clr_choices.specs.Clearable.{IsPlanOf}
use Rattle.clr_choices.specs.Trials.{AreTrials, IsTold, IsTrialAt, Trial, is_taken, members_tried, taken_in}
use Rattle.clr_desk_plans.specs.Choices.{IsChoicePrint, of_nobody, of_trials}
use Rattle.clr_desk_orders.specs.ChoicePrints.{choice_print, names_line}
use Rattle.clr_desk.specs.OneAnswer.{FoundMemory, IsOnePrint}
use Rattle.clr_desk.proofs.OneAnswer.{found_plan, same_plan_print, same_text}

module _ (o : Office) (root : Name) where
  -- a trial behind those of some names that are taken
  record IsTrialBehind (front : List Name) (ts : List Trial) (at : ℕ) (t : Trial) : Type 0 where
    before : t.before ≡ front ++ taken_in (take at ts)
    told : IsTold o (merge_set root (members_tried t)) t.refusal

  abbrev AreBehind : List Name → List Trial → Type 0
  AreBehind before ts = (at : ℕ) (t : Trial) → slice_get ts at ≡ Some t → IsTrialBehind before ts at t

  -- trials that take the same names and leave the others with the same lines
  record AreSame (ts us : List Trial) : Type 0 where
    taken : taken_in ts ≡ taken_in us
    left : flat_map (left_text o.schema root) ts ≡ flat_map (left_text o.schema root) us
    any : list_any (λ t. not (is_taken t)) ts ≡ list_any (λ t. not (is_taken t)) us

  -- the name of a trial in a list, where it is taken
  abbrev picked : Trial → List Name
  picked t = cond (is_taken t) (t.name ∷ []) []

  taken_first : (t : Trial) (ts : List Trial) → taken_in (t ∷ ts) ≡ picked t ++ taken_in ts
  taken_first t ts = by (is_taken t)
    where
      by : (b : Bool) → map (λ (u : Trial). u.name) (cond b (t ∷ filter is_taken ts) (filter is_taken ts)) ≡ cond b (t.name ∷ []) [] ++ taken_in ts
      by true = refl
      by false = refl

  -- the trials behind the first
  behind_first : (before : List Name) (t : Trial) (ts : List Trial) → AreBehind before (t ∷ ts) → AreBehind (before ++ picked t) ts
  behind_first before t ts are = λ at u e. let is = are (suc at) u e in record {
    before = is.before ∙ ap (λ l. before ++ l) (taken_first t (take at ts)) ∙ sym (append_assoc before (picked t) (taken_in (take at ts)));
    told = is.told;
  }

  -- what is told of the same members is the same
  same_told : (members : List Name) (name : Name) (p q : Option Plan) → IsTold o (merge_set root members) p → IsTold o (merge_set root members) q
      → (is_none p ≡ is_none q) × (refusal_if_any o.schema root members name p ≡ refusal_if_any o.schema root members name q)
  same_told members name None None one two = (refl, refl)
  same_told members name None (Some q) one two = absurd (true≢false (sym (one.cleared q two.planned.plan two.found) ∙ two.uncleared))
  same_told members name (Some p) None one two = absurd (true≢false (sym (two.cleared p one.planned.plan one.found) ∙ one.uncleared))
  same_told members name (Some p) (Some q) one two =
      let alike = one_plan o (merge_set root members) p q one.planned.plan two.planned.plan one.found two.found in
      (refl, ap (λ text. codes "left " ++ name ++ codes "\n" ++ text) (same_text o.schema members root p q alike).0)

  same_trials : (before : List Name) (ts us : List Trial) → map (λ (t : Trial). t.name) ts ≡ map (λ (t : Trial). t.name) us → AreBehind before ts
      → AreBehind before us
      → AreSame ts us
  same_trials before [] [] names are are_too = record { taken = refl; left = refl; any = refl }
  same_trials before [] (u ∷ us) names are are_too = absurd cc
  same_trials before (t ∷ ts) [] names are are_too = absurd cc
  same_trials before (t ∷ ts) (u ∷ us) names are are_too =
      let name : t.name ≡ u.name = cc in
      let rest_names : map (λ (x : Trial). x.name) ts ≡ map (λ (x : Trial). x.name) us = cc in
      let one = are 0 t refl in
      let two = are_too 0 u refl in
      let same_before : t.before ≡ u.before = one.before ∙ sym two.before in
      let members : members_tried t ≡ members_tried u = (λ i. same_before i ++ name i ∷ []) in
      let told = subst (λ (ms : List Name). IsTold o (merge_set root ms) t.refusal) members one.told in
      let same = same_told (members_tried u) u.name t.refusal u.refusal told two.told in
      let cleared : is_taken t ≡ is_taken u = same.0 in
      let lines : left_text o.schema root t ≡ left_text o.schema root u =
      (λ i. refusal_if_any o.schema root (members i) (name i) t.refusal) ∙ same.1 in
      let pick : picked u ≡ picked t = λ i. cond (sym cleared i) (sym name i ∷ []) [] in
      let rest = same_trials (before ++ picked t) ts us rest_names (behind_first before t ts are)
      (subst (λ l. AreBehind (before ++ l) us) pick (behind_first before u us are_too)) in
      record {
        taken = taken_first t ts ∙ (λ i. sym pick i ++ rest.taken i) ∙ sym (taken_first u us);
        left = λ i. lines i ++ rest.left i;
        any = λ i. not (cleared i) || rest.any i;
      }

  one_of_trials : (names : List Name) (ts us : List Trial) (c d : Certificate) → AreTrials o root names ts → AreTrials o root names us
      → IsPlanOf o (merge_set root (taken_in ts)) (plan.Cleared c)
      → IsPlanOf o (merge_set root (taken_in us)) (plan.Cleared d)
      → choice_print o root ts c ≡ choice_print o root us d
  one_of_trials names ts us c d are are_too planned planned_too =
      let same = same_trials [] ts us (are.names ∙ sym are_too.names) (behind ts are.each) (behind us are_too.each) in
      let here = subst (λ (ms : List Name). IsPlanOf o (merge_set root ms) (plan.Cleared c)) same.taken planned in
      let certificate : c ≡ d = one_plan o (merge_set root (taken_in us)) (plan.Cleared c) (plan.Cleared d) here.plan planned_too.plan refl refl in
      λ i. printout_of (certificate_text o.schema (certificate i)) (names_line (codes "kept") (same.taken i) ++ same.left i) (same.any i) false
    where
      behind : (xs : List Trial) → ((at : ℕ) (t : Trial) → slice_get xs at ≡ Some t → IsTrialAt o root xs at t) → AreBehind [] xs
      behind xs each = λ at t e. let is = each at t e in record { before = is.before; told = is.told }

  -- nobody is cleared, or isn't
  not_both : (nobody : Certificate) (p : Plan) → IsPlanOf o (merge_set root []) (plan.Cleared nobody) → IsPlanOf o (merge_set root []) p → is_cleared p ≡ false
      → is_out_of_memory p ≡ false
      → ⊥
  not_both nobody p planned planned_too blocked found =
      let alike = one_plan o (merge_set root []) (plan.Cleared nobody) p planned.plan planned_too.plan refl found in
      true≢false ((same_text o.schema [] root (plan.Cleared nobody) p alike).1 ∙ blocked)

  pub one_choice_print : (names : List Name) → IsOnePrint (IsChoicePrint root names o)
  one_choice_print names print other (of_trials nobody ts c cleared are planned is) (of_trials any us d clear_too are_too planned_too is_too) found found_too =
      is ∙ one_of_trials (members_or_children o root names) ts us c d are are_too planned planned_too ∙ sym is_too
  one_choice_print names print other (of_trials nobody ts c cleared are planned is) (of_nobody p planned_too blocked is_too) found found_too =
      absurd (not_both nobody p cleared planned_too blocked (found_plan o (merge_set root []) p (subst FoundMemory is_too found_too)))
  one_choice_print names print other (of_nobody p planned blocked is) (of_trials nobody ts c cleared are planned_too is_too) found found_too =
      absurd (not_both nobody p cleared planned blocked (found_plan o (merge_set root []) p (subst FoundMemory is found)))
  one_choice_print names print other (of_nobody p planned blocked is) (of_nobody q planned_too blocked_too is_too) found found_too =
      let one = found_plan o (merge_set root []) p (subst FoundMemory is found) in
      let two = found_plan o (merge_set root []) q (subst FoundMemory is_too found_too) in
      is ∙ same_plan_print o (merge_set root []) p q (one_plan o (merge_set root []) p q planned.plan planned_too.plan one two) ∙ sym is_too
