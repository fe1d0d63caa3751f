-- What is asked of an office has one outcome alone, memory aside.
use Rattle.std.proofs.Common.{◌≡◌, ◌∙◌, Bool, true, false, not, ◌||◌, ◌++◌, codes, refl, sym, ap, subst}
use Rattle.std.proofs.Common.{List, [], ◌∷◌, drop}
use Rattle.std.proofs.lemmas.Bool.{or_parts, true≢false}
use Rattle.std.specs.List.{list_any}
use Rattle.clr_rows.specs.Names.{live_name}
use Rattle.clr_rows.specs.declared.tables.TableDef.{TableDef}
use Rattle.clr_workspaces.specs.Marks.{Name}
use Rattle.clr_steps.specs.declared.commands.Command.{Command}
use Rattle.clr_steps.specs.Offices.{Office}
use Rattle.clr_steps.specs.Quiet.{MergeSet}
use Rattle.clr_clearance.specs.declared.verdicts.Verdict.{Verdict}
use Rattle.clr_clearance.specs.declared.verdicts.Verdict.TheVariants as verdict
use Rattle.clr_clearance.specs.Plans.{merges}
use Rattle.clr_ordered_clearance.specs.Verdicts.{IsVerdictInTurn}
use Rattle.clr_ordered_clearance.proofs.VerdictLemmas.{one_verdict_in_turn}
use Rattle.clr_cert.specs.declared.certificates.Certificate.{Certificate}
use Rattle.clr_check.specs.Answers.{IsCheckAnswer, of_memory, of_verdict}
use Rattle.clr_check.proofs.OneStart.{one_start_in_turn}
use Rattle.clr_merge_sets.specs.Certificates.{entries_in, ordered_merge_set_of}
use Rattle.clr_merge_sets.specs.MergeSetNames.{merge_set}
use Rattle.clr_lines.specs.Verdicts.{verdict_text}
use Rattle.clr_merge_sets.specs.declared.plans.Plan.{Plan}
use Rattle.clr_merge_sets.specs.declared.plans.Plan.TheVariants as plan
use Rattle.clr_plan.specs.OnePlan.{AreAlike}
use Rattle.clr_merge_sets.specs.Plans.{is_cleared, is_out_of_memory}
use Rattle.clr_plan.proofs.OnePlanLemmas.{one_plan}
use Rattle.clr_plan.specs.PlanLines.{blocked_text, cleared_text, plan_text}
use Rattle.clr_scripts.specs.declared.steps.Step.{Step}
use Rattle.clr_scripts.specs.declared.steps.Step.TheVariants.{Act, Report}
use Rattle.clr_scripts.specs.declared.steps.Word.TheVariants as word
use Rattle.clr_command_line.specs.declared.asks.Orders.{Orders}
use Rattle.clr_command_line.specs.declared.asks.Orders.TheVariants.{Every, AsNamed}
use Rattle.clr_office.specs.Clearances as clearances
use Rattle.clr_office.specs.Clearances.{IsMergeOutcome, IsVerdictOutcome, is_without_memory, merge_outcome, of_merges, verdict_outcome}
use Rattle.clr_office.specs.OneSession.{is_order_of_names, plans_as_named}
use Rattle.clr_office.specs.Outcomes.{IsCommandOutcome, IsOutcome, IsPlanOutcome, IsScriptOutcome}
use Rattle.clr_office_reports.specs.Outcomes.{Outcome}
use Rattle.clr_office.specs.Outcomes.{command_outcome, first_name, followed_by}
use Rattle.clr_office_reports.proofs.Outcomes.{parts_are}
use Rattle.clr_office.proofs.OneInOrder.{cleared_alike, one_in_order}
use Rattle.clr_independence.proofs.OneIndependence.{one_independence}
use Rattle.clr_office_reports.proofs.OneOutcome.{IsOne, lost_of, one_equal}

-- outcomes that are alike ---------------------------------------------------------------------

-- one refusal and one office; and, unless members are planned in the order in which they are named, one list of lines
pub record AreAlikeOutcomes (as_named : Bool) (all other : Outcome) : Type 0 where
  pub refused : all.refused ≡ other.refused
  pub office : all.office ≡ other.office
  pub lines : as_named ≡ false → all.lines ≡ other.lines

-- two outcomes in which memory was found are alike
abbrev pub AreAllAlike : Bool → (Outcome → Type 0) → Type 0
AreAllAlike as_named Is = (all other : Outcome) → Is all → Is other → all.lost ≡ false → other.lost ≡ false → AreAlikeOutcomes as_named all other

alike_if_equal : (as_named : Bool) (all other : Outcome) → all ≡ other → AreAlikeOutcomes as_named all other
alike_if_equal as_named all other same = record {
  refused = ap (λ (x : Outcome). x.refused) same;
  office = ap (λ (x : Outcome). x.office) same;
  lines = λ every. ap (λ (x : Outcome). x.lines) same;
}

pub alike_if_one : (as_named : Bool) (Is : Outcome → Type 0) → IsOne Is → AreAllAlike as_named Is
alike_if_one as_named Is one all other is is_other found found_other = alike_if_equal as_named all other (one all other is is_other found found_other)

-- commands -----------------------------------------------------------------------------------

one_command : (o : Office) (c : Command) → IsOne (IsCommandOutcome o c)
one_command o c all other one two found found_other =
    one.answer ∙ ap (λ lost. command_outcome lost o c) (found ∙ sym found_other) ∙ sym two.answer

-- plans --------------------------------------------------------------------------------------

same_lines : (tables : List TableDef) (members : List Name) (root : Name) (p q : Plan) → AreAlike p q
    → (plan_text tables members root p ≡ plan_text tables members root q) × (is_cleared p ≡ is_cleared q)
unfolding plan_text
same_lines tables members root (plan.Cleared c) (plan.Cleared d) same = (ap (cleared_text tables) same, refl)
same_lines tables members root (plan.Blocked order cause) (plan.Blocked other reason) same =
    (λ i. blocked_text tables members root (same.0 i) (same.1 i), refl)
same_lines tables members root (plan.Unfit v) (plan.Unfit w) same = (ap (λ x. codes "unfit " ++ verdict_text tables members root x) same, refl)
same_lines tables members root p q same = absurd same

one_planned : (o : Office) (s : MergeSet) → IsOne (IsPlanOutcome Every o s)
one_planned o s all other (p, planned, is) (q, planned_other, is_other) found found_other =
    let one : is_out_of_memory p ≡ false = sym (ap lost_of is) ∙ found in
    let two : is_out_of_memory q ≡ false = sym (ap lost_of is_other) ∙ found_other in
    let same = same_lines o.schema s.members s.root p q (one_plan o s p q planned.plan planned_other.plan one two) in
    is ∙ parts_are o _ _ _ _ _ _ same.0 (ap not same.1) (one ∙ sym two) ∙ sym is_other

alike_as_named : (o : Office) (s : MergeSet) → AreAllAlike true (IsPlanOutcome AsNamed o s)
alike_as_named o s all other (p, planned, is) (q, planned_other, is_other) found found_other =
    let one : is_out_of_memory p ≡ false = sym (ap lost_of is) ∙ found in
    let two : is_out_of_memory q ≡ false = sym (ap lost_of is_other) ∙ found_other in
    let same = cleared_alike p q (one_in_order o s p q planned planned_other one two) in
    record {
      refused = ap (λ (x : Outcome). x.refused) is ∙ ap not same ∙ sym (ap (λ (x : Outcome). x.refused) is_other);
      office = ap (λ (x : Outcome). x.office) is ∙ sym (ap (λ (x : Outcome). x.office) is_other);
      lines = λ every. absurd (true≢false every);
    }

pub alike_plans : (orders : Orders) (o : Office) (s : MergeSet) → AreAllAlike (is_order_of_names orders) (IsPlanOutcome orders o s)
alike_plans Every o s = alike_if_one false (IsPlanOutcome Every o s) (one_planned o s)
alike_plans AsNamed o s = alike_as_named o s

-- verdicts and merges ------------------------------------------------------------------------

module _ (o : Office) (c : Certificate) where
  abbrev IsSaid : Verdict → Type 0
  IsSaid v = IsCheckAnswer o (ordered_merge_set_of c) (entries_in c.entries) v

  found_verdict : (v : Verdict) → IsSaid v → is_without_memory v ≡ false → IsVerdictInTurn o (ordered_merge_set_of c) (entries_in c.entries) v
  found_verdict v (of_verdict is) found = is
  found_verdict v (of_memory none is) found = absurd (true≢false (sym (ap is_without_memory is) ∙ found))

  module _ (all other : Outcome) (found : all.lost ≡ false) (found_other : other.lost ≡ false) where
    of_verdicts : (v w : Verdict) → IsSaid v → IsSaid w → all ≡ verdict_outcome o c v → other ≡ verdict_outcome o c w → all ≡ other
    of_verdicts v w one two is is_other =
        let first = found_verdict v one (sym (ap lost_of is) ∙ found) in
        let second = found_verdict w two (sym (ap lost_of is_other) ∙ found_other) in
        is ∙ ap (verdict_outcome o c) (one_verdict_in_turn o (ordered_merge_set_of c) (entries_in c.entries) v w first second) ∙ sym is_other

  pub one_check : IsOne (IsVerdictOutcome o c)
  one_check all other (v, judged, is) (w, judged_other, is_other) found found_other =
      of_verdicts all other found found_other v w judged.answer judged_other.answer is is_other

  -- a clear verdict and one that isn't clear
  not_refused : (v : Verdict) → IsVerdictInTurn o (ordered_merge_set_of c) (entries_in c.entries) verdict.Clear → IsSaid v → ¬ (v ≡ verdict.Clear)
      → is_without_memory v ≡ false → ⊥
  not_refused v clear one not_clear found =
      not_clear (one_verdict_in_turn o (ordered_merge_set_of c) (entries_in c.entries) v verdict.Clear (found_verdict v one found) clear)

  pub one_merge : (names : List Name) → IsOne (λ all. IsMergeOutcome o c names all)
  one_merge names all other (of_merges replies stopped left merged is) (of_merges others halted rest merged_other is_other) found found_other =
      let same = one_start_in_turn (ordered_merge_set_of c) o (merges names) replies others left rest stopped halted merged.start merged_other.start
      (sym (ap lost_of is) ∙ found) (sym (ap lost_of is_other) ∙ found_other) in
      is ∙ (λ i. merge_outcome (same.0 i) (same.2 i) (same.1 i)) ∙ sym is_other
  one_merge names all other (of_merges replies stopped left merged is) (clearances.of_verdict v refusal is_other) found found_other =
      absurd (not_refused v merged.clear refusal.answer refusal.not_clear (sym (ap lost_of is_other) ∙ found_other))
  one_merge names all other (clearances.of_verdict v refusal is) (of_merges replies stopped left merged is_other) found found_other =
      absurd (not_refused v merged.clear refusal.answer refusal.not_clear (sym (ap lost_of is) ∙ found))
  one_merge names all other (clearances.of_verdict v refusal is) (clearances.of_verdict w refusal_other is_other) found found_other =
      of_verdicts all other found found_other v w refusal.answer refusal_other.answer is is_other

-- scripts ------------------------------------------------------------------------------------

alike_step : (o : Office) (s : Step) → AreAllAlike (plans_as_named s) (IsOutcome o s)
alike_step o (Act command) = alike_if_one false _ (one_command o command)
alike_step o (Report word.Show names) = alike_if_one false _ (one_equal _)
alike_step o (Report word.Changes names) = alike_if_one false _ (one_equal _)
alike_step o (Report word.Conflicts names) = alike_if_one false _ (one_equal _)
alike_step o (Report word.Audit names) = alike_if_one false _ (one_equal _)
alike_step o (Report word.Workspaces names) = alike_if_one false _ (one_equal _)
alike_step o (Report word.Dump names) = alike_if_one false _ (one_equal _)
alike_step o (Report word.Plan names) = alike_plans Every o (merge_set live_name names)
alike_step o (Report word.PlanUnder names) = alike_plans Every o (merge_set (first_name names) (drop 1 names))
alike_step o (Report word.PlanInOrder names) = alike_plans AsNamed o (merge_set live_name names)
alike_step o (Report word.PlanInOrderUnder names) = alike_plans AsNamed o (merge_set (first_name names) (drop 1 names))
alike_step o (Report word.Independence names) = alike_if_one false _ (one_independence o (merge_set live_name names))
alike_step o (Report word.IndependenceUnder names) = alike_if_one false _ (one_independence o (merge_set (first_name names) (drop 1 names)))

module _ (here later : Bool) (first second next last : Outcome) where
  -- outcomes that follow one another
  alike_followed : AreAlikeOutcomes here first second → AreAlikeOutcomes later next last
      → AreAlikeOutcomes (here || later) (followed_by first next) (followed_by second last)
  alike_followed one two = record {
    refused = λ i. one.refused i || two.refused i;
    office = two.office;
    lines = λ every. let parts = or_parts here later every in λ i. one.lines parts.0 i ++ two.lines parts.1 i;
  }

pub alike_script : (o : Office) (steps : List Step) → AreAllAlike (list_any plans_as_named steps) (IsScriptOutcome o steps)
alike_script o [] all other one two found found_other = alike_if_equal false all other (one ∙ sym two)
alike_script o (s ∷ steps) all other (first, next, now, rest, is) (second, last, now_other, rest_other, is_other) found found_other =
    let one = or_parts first.lost next.lost (sym (ap lost_of is) ∙ found) in
    let two = or_parts second.lost last.lost (sym (ap lost_of is_other) ∙ found_other) in
    let here = alike_step o s first second now now_other one.0 two.0 in
    let from_first : IsScriptOutcome first.office steps last = subst (λ (x : Office). IsScriptOutcome x steps last) (sym here.office) rest_other in
    let later = alike_script first.office steps next last rest from_first one.1 two.1 in
    let both = alike_followed (plans_as_named s) (list_any plans_as_named steps) first second next last here later in
    subst (λ (x : Outcome). AreAlikeOutcomes (list_any plans_as_named (s ∷ steps)) x other) (sym is)
    (subst (λ (x : Outcome). AreAlikeOutcomes (list_any plans_as_named (s ∷ steps)) (followed_by first next) x) (sym is_other) both)
