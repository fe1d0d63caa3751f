-- Where no member goes before another, verdicts, promises and runs are those of the merge set.
use Rattle.std.proofs.Common.{◌≡◌, ◌∙◌, ℕ, false, not, List, [], sym, ap, subst, inl, inr, Option, Some, None, slice_get}
use Rattle.std.specs.Option.{option_map, option_or}
use Rattle.std.proofs.lemmas.Bool.{false≢true}
use Rattle.clr_workspaces.specs.Marks.{Name}
use Rattle.clr_needs.specs.declared.needs.Need.{Need}
use Rattle.clr_needs.specs.Covers.{Entry, HasEntry as HasEntryInEvery}
use Rattle.clr_needs.specs.Needs.{IsPossible}
use Rattle.clr_needs.specs.Settings.{Setting, Lived}
use Rattle.clr_steps.specs.declared.commands.Command.{Command}
use Rattle.clr_steps.specs.declared.commands.Command.TheVariants as command
use Rattle.clr_steps.specs.declared.commands.Reply.{Reply}
use Rattle.clr_steps.specs.Names.{same_name}
use Rattle.clr_steps.specs.Offices.{Office}
use Rattle.clr_steps.specs.Quiet.{MergeSet}
use Rattle.clr_clearance.specs.declared.verdicts.Verdict.{Verdict}
use Rattle.clr_clearance.specs.declared.verdicts.Verdict.TheVariants as verdict
use Rattle.clr_clearance.specs.ClearedRuns.{IsStop}
use Rattle.clr_clearance.specs.MergeSets.{setting_by_position}
use Rattle.clr_clearance.specs.Runs.{merged_in}
use Rattle.clr_clearance.specs.Verdicts.{IsFirstUncovered, IsVerdict, first_conflict, member_fault, missing_member, names_fault, repeated_member, root_fault}
use Rattle.clr_clearance.specs.Verdicts.{stray_member}
use Rattle.clr_clearance.specs.Verdicts as unordered
use Rattle.clr_clearance.proofs.ClearLemmas.{none_found}
use Rattle.clr_clearance.proofs.HeadlineLemmas.{headline}
use Rattle.clr_clearance.proofs.ReplyLemmas.{quiet_run}
use Rattle.clr_clearance.proofs.RunLemmas.{clear_is_safe}
use Rattle.clr_ordered_needs.specs.Turns.{Order, is_earlier, no_order}
use Rattle.clr_ordered_needs.proofs.EmptyOrder.{can_meet, entry_in_every, entry_in_none}
use Rattle.clr_ordered_clearance.specs.Laws.{without_order}
use Rattle.clr_ordered_clearance.specs.MergeSets.{OrderedMergeSet, position_goes_before}
use Rattle.clr_ordered_clearance.specs.Runs.{IsDue, IsStopInTurn}
use Rattle.clr_ordered_clearance.specs.VerdictLaws.{ClearedWithoutOrderLaw, StartWithoutOrderLaw, VerdictWithoutOrderLaw}
use Rattle.clr_ordered_clearance.specs.Verdicts.{IsFirstUncoveredInTurn, IsSettled, IsVerdictInTurn, member_fault_in_turn, misplaced_pair, names_fault_in_turn}
use Rattle.clr_ordered_clearance.specs.Verdicts.{of_cell, of_member, of_need, of_none}
use Rattle.clr_ordered_clearance.proofs.NumberLemmas.{alike, no_order_is}

-- verdicts ----------------------------------------------------------------------------------------------------

module _ (c : Setting ℕ) (entries : List Entry) where
  -- where no member goes before another a possible need is settled exactly where an entry covers it
  settled_entry : (n : Need) (a : Lived ℕ) (b : Option (Lived ℕ)) → IsPossible c n a b → IsSettled no_order c entries n a b → HasEntryInEvery c n a b entries
  settled_entry n a b possible (inl never) = absurd (can_meet c n a b possible never)
  settled_entry n a b possible (inr has) = entry_in_every c n a b entries has

  entry_settled : (n : Need) (a : Lived ℕ) (b : Option (Lived ℕ)) → HasEntryInEvery c n a b entries → IsSettled no_order c entries n a b
  entry_settled n a b has = inr (entry_in_none c n a b entries has)

  first_in_every : (n : Need) (a : Lived ℕ) (b : Option (Lived ℕ)) → IsFirstUncoveredInTurn no_order c entries n a b → IsFirstUncovered c entries n a b
  first_in_every n a b first = record {
    possible = first.possible;
    touched = first.touched;
    uncovered = λ has. first.uncovered (entry_settled n a b has);
    first = λ m d e less possible touched. settled_entry m d e possible (first.first m d e less possible touched);
  }

  first_in_none : (n : Need) (a : Lived ℕ) (b : Option (Lived ℕ)) → IsFirstUncovered c entries n a b → IsFirstUncoveredInTurn no_order c entries n a b
  first_in_none n a b first = record {
    possible = first.possible;
    touched = first.touched;
    uncovered = λ settled. first.uncovered (settled_entry n a b first.possible settled);
    first = λ m d e less possible touched. entry_settled m d e (first.first m d e less possible touched);
  }

module _ (o : Office) (merge_set : MergeSet) (entries : List Entry) where
  abbrev c : Setting ℕ
  c = setting_by_position o merge_set

  abbrev none_before : Order ℕ
  none_before = position_goes_before (without_order merge_set)

  none_misplaced : misplaced_pair (without_order merge_set) ≡ None
  none_misplaced = ap (option_map verdict.NotBefore) (none_found (λ p. not (is_earlier same_name merge_set.members p.0 p.1)) [] nothing)
    where
      nothing : (k : ℕ) (p : Name × Name) → slice_get [] k ≡ Some p → not (is_earlier same_name merge_set.members p.0 p.1) ≡ false
      nothing k p e = absurd (cc)

  same_fault : member_fault_in_turn o (without_order merge_set) ≡ member_fault o merge_set
  unfolding names_fault names_fault_in_turn
  same_fault = ap (λ r. option_or (option_or (root_fault o merge_set) (option_or (repeated_member merge_set)
      (option_or r (option_or (missing_member o merge_set) (stray_member o merge_set))))) (first_conflict o 0 merge_set.members)) none_misplaced

  verdict_in_every : (v : Verdict) → IsVerdictInTurn o (without_order merge_set) entries v → IsVerdict o merge_set entries v
  verdict_in_every v (of_member e) = unordered.of_member (sym same_fault ∙ e)
  verdict_in_every v (of_cell cell i j none shared e) = unordered.of_cell cell i j (sym same_fault ∙ none) shared e
  verdict_in_every v (of_need n a b none apart first e) =
      unordered.of_need n a b (sym same_fault ∙ none) apart
      (first_in_every c entries n a b (subst (λ (before : Order ℕ). IsFirstUncoveredInTurn before c entries n a b) (no_order_is o merge_set) first)) e
  verdict_in_every v (of_none none apart covered e) = unordered.of_none (sym same_fault ∙ none) apart ((alike o merge_set entries).0 covered) e

  verdict_in_none : (v : Verdict) → IsVerdict o merge_set entries v → IsVerdictInTurn o (without_order merge_set) entries v
  verdict_in_none v (unordered.of_member e) = of_member (same_fault ∙ e)
  verdict_in_none v (unordered.of_cell cell i j none shared e) = of_cell cell i j (same_fault ∙ none) shared e
  verdict_in_none v (unordered.of_need n a b none apart first e) =
      of_need n a b (same_fault ∙ none) apart
      (subst (λ (before : Order ℕ). IsFirstUncoveredInTurn before c entries n a b) (sym (no_order_is o merge_set)) (first_in_none c entries n a b first)) e
  verdict_in_none v (unordered.of_none none apart covered e) = of_none (same_fault ∙ none) apart ((alike o merge_set entries).1 covered) e

pub verdict_without_order : VerdictWithoutOrderLaw
verdict_without_order o merge_set entries v = (verdict_in_every o merge_set entries v, verdict_in_none o merge_set entries v)

-- promises ----------------------------------------------------------------------------------------------------

same_without : (ordered : OrderedMergeSet) → ordered.before ≡ [] → ordered ≡ without_order ordered.merge_set
same_without ordered none = λ i. record { merge_set = ordered.merge_set; before = none i }

pub cleared_without_order : ClearedWithoutOrderLaw
cleared_without_order o ordered entries none clear =
    let merge_set = ordered.merge_set in
    let every = verdict_in_every o merge_set entries verdict.Clear
    (subst (λ (s : OrderedMergeSet). IsVerdictInTurn o s entries verdict.Clear) (same_without ordered none) clear) in
    let (free, safe) = clear_is_safe o merge_set entries every in
    record { free = free; safe = safe; headline = headline o merge_set entries every; runs = quiet_run o merge_set safe }

-- runs --------------------------------------------------------------------------------------------------------

module _ (merge_set : MergeSet) where
  due : (merged : List Name) (c : Command) → IsDue (without_order merge_set) merged c
  due merged (command.Merge name remove) = λ member m goes. absurd (false≢true goes)
  due merged _ = tt

  stop_in_every : (merged : List Name) (commands : List Command) (replies : List Reply) (left : Office) (stopped : Option ℕ)
      → IsStopInTurn (without_order merge_set) merged commands replies left stopped → IsStop merge_set commands replies left stopped
  stop_in_every merged commands replies left None stop = stop
  stop_in_every merged commands replies left (Some number) (is, (d, at, inl noisy)) = (is, (d, at, noisy))
  stop_in_every merged commands replies left (Some number) (is, (d, at, inr late)) = absurd (late (due merged d))

  stop_in_none : (merged : List Name) (commands : List Command) (replies : List Reply) (left : Office) (stopped : Option ℕ)
      → IsStop merge_set commands replies left stopped → IsStopInTurn (without_order merge_set) merged commands replies left stopped
  stop_in_none merged commands replies left None stop = stop
  stop_in_none merged commands replies left (Some number) (is, (d, at, noisy)) = (is, (d, at, inl noisy))

pub start_without_order : StartWithoutOrderLaw
start_without_order o merge_set commands replies left stopped = (
  λ start. record {
    answers = start.answers;
    quiet = start.quiet;
    stop = stop_in_every merge_set (merged_in merge_set commands replies) commands replies left stopped start.stop;
  },
  λ start. record {
    answers = start.answers;
    quiet = start.quiet;
    in_turn = λ at name remove e member m goes. absurd (false≢true goes);
    stop = stop_in_none merge_set (merged_in merge_set commands replies) commands replies left stopped start.stop;
  },
)
