-- What an answer says, and what the scene of a merge set tells of its verdict.
use Rattle.std.proofs.Common.{◌≡◌, ◌∙◌, ℕ, List, [], Option, None, Some, length, refl, subst, sym, take}
use Rattle.clr_needs.specs.declared.faults.SceneFault.{SceneFault}
use Rattle.clr_needs.specs.declared.faults.SceneFault.TheVariants as scene
use Rattle.clr_needs.specs.declared.needs.Need.{Need}
use Rattle.clr_needs.specs.Covers.{Entry}
use Rattle.clr_needs.specs.Members.{AreApart, IsSceneFault}
use Rattle.clr_needs.specs.Settings.{Setting}
use Rattle.clr_steps.specs.declared.commands.Command.{Command}
use Rattle.clr_steps.specs.declared.commands.Reply.{Reply}
use Rattle.clr_steps.specs.Offices.{Office}
use Rattle.clr_clearance.specs.declared.verdicts.Verdict.{Verdict}
use Rattle.clr_clearance.specs.declared.verdicts.Verdict.TheVariants as verdict
use Rattle.clr_clearance.specs.MergeSets.{change_sets, setting_by_position}
use Rattle.clr_clearance.specs.Verdicts.{member_fault}
use Rattle.clr_ordered_needs.specs.Covers.{AreCovered}
use Rattle.clr_ordered_needs.specs.Turns.{Order}
use Rattle.clr_ordered_clearance.specs.MergeSets.{OrderedMergeSet, position_goes_before}
use Rattle.clr_ordered_clearance.specs.Runs.{IsClearedRunInTurn, IsQuietStartInTurn}
use Rattle.clr_ordered_clearance.specs.VerdictLaws.{IsClearedInEveryOrder, IsClearedInTurn}
use Rattle.clr_ordered_clearance.specs.Verdicts.{IsVerdictInTurn, names_fault_in_turn, of_cell, of_need, of_none}
use Rattle.clr_ordered_clearance.specs.Verdicts.{of_member as member}
use Rattle.clr_ordered_clearance.proofs.ClearedLemmas.{cleared_in_turn}
use Rattle.clr_ordered_clearance.proofs.RunLemmas.{cleared_run_in_turn}
use Rattle.clr_ordered_clearance.proofs.VerdictLemmas.{clear_in_turn, clear_is_named, names_first, same_member_fault}
use Rattle.clr_ordered_clearance.proofs.WithoutOrderLemmas.{cleared_without_order}
use Rattle.clr_check.specs.Answers.{IsCheckAnswer, IsRefusingVerdict, of_memory, of_verdict}
use Rattle.clr_check.specs.Entries.{IsLeastUncovered}
use Rattle.clr_merge_sets.specs.Faults.{IsMergeSetFault, of_member, verdict_of, without_memory}
use Rattle.clr_merge_sets.specs.PositionPairs.{SayWhoGoesBefore, pairs_say}
use Rattle.clr_merge_sets.specs.declared.precedence_pairs.PositionPair.{PositionPair}

-- what an answer says ------------------------------------------------------------------------------

module _ (o : Office) (ordered : OrderedMergeSet) (entries : List Entry) where
  pub clear_verdict : (v : Verdict) → IsCheckAnswer o ordered entries v → v ≡ verdict.Clear → IsVerdictInTurn o ordered entries verdict.Clear
  clear_verdict v (of_verdict h) e = subst (IsVerdictInTurn o ordered entries) e h
  clear_verdict v (of_memory none f) e = absurd (let both : verdict.OutOfMemory ≡ verdict.Clear = sym f ∙ e in cc)

  -- all that a clear answer promises
  pub clear_promises : (v : Verdict) → IsCheckAnswer o ordered entries v → v ≡ verdict.Clear → IsClearedInTurn o ordered
  clear_promises v answer e = cleared_in_turn o ordered entries (clear_verdict v answer e)

  -- and where no member goes before another
  pub clear_everywhere : (v : Verdict) → IsCheckAnswer o ordered entries v → ordered.before ≡ [] → v ≡ verdict.Clear → IsClearedInEveryOrder o ordered.merge_set
  clear_everywhere v answer none e = cleared_without_order o ordered entries none (clear_verdict v answer e)

  -- a test of names that fails
  pub named_answers : (v : Verdict) → names_fault_in_turn o ordered ≡ Some v → IsCheckAnswer o ordered entries v
  named_answers v e = of_verdict (member (names_first o ordered v e))

  -- no memory for the replies
  pub clear_refused : IsCheckAnswer o ordered entries verdict.Clear → IsRefusingVerdict o ordered entries verdict.OutOfMemory
  clear_refused clear = record {
    answer = of_memory (clear_is_named o ordered entries (clear_verdict verdict.Clear clear refl)) refl;
    not_clear = λ e. absurd (cc);
  }

  -- a run that starts where the answer is clear
  pub clear_run : (commands : List Command) (replies : List Reply) (left : Office) (stopped : Option ℕ) → IsCheckAnswer o ordered entries verdict.Clear
      → IsQuietStartInTurn o ordered commands replies left stopped
      → IsClearedRunInTurn o ordered (take (length replies) commands) replies left
  clear_run commands replies left stopped clear start =
      cleared_run_in_turn o ordered entries commands replies left stopped ((clear_in_turn o ordered entries).0 (clear_verdict verdict.Clear clear refl)).0 start

-- behind the tests of names -------------------------------------------------------------------------

module _ (o : Office) (ordered : OrderedMergeSet) (entries : List Entry) (named : names_fault_in_turn o ordered ≡ None) where
  pub fault_answers : (v : Verdict) → IsMergeSetFault o ordered.merge_set v → IsCheckAnswer o ordered entries v
  fault_answers v (of_member e) = of_verdict (member (same_member_fault o ordered named ∙ e))
  fault_answers v (without_memory e f) = of_memory named f

  module _ (free : member_fault o ordered.merge_set ≡ None) where
    pub scene_answers : (fault : SceneFault) → IsSceneFault (change_sets o ordered.merge_set) fault → IsCheckAnswer o ordered entries (verdict_of fault)
    scene_answers (scene.SharedCell cell i j) shared = of_verdict (of_cell cell i j (same_member_fault o ordered named ∙ free) shared refl)
    scene_answers scene.OutOfMemory h = of_memory named refl

    module _ (pairs : List PositionPair) (say : SayWhoGoesBefore ordered pairs) (c : Setting ℕ) (is : c ≡ setting_by_position o ordered.merge_set)
        (apart : AreApart (change_sets o ordered.merge_set)) where
      same_order : pairs_say pairs ≡ position_goes_before ordered
      same_order = λ i j k. say j k i

      pub clear_answers : AreCovered (pairs_say pairs) c entries → IsCheckAnswer o ordered entries verdict.Clear
      clear_answers covered =
          of_verdict (of_none (same_member_fault o ordered named ∙ free) apart
          (subst (λ (before : Order ℕ). AreCovered before (setting_by_position o ordered.merge_set) entries) same_order
          (subst (λ d. AreCovered (pairs_say pairs) d entries) is covered)) refl)

      pub uncovered_answers : (n : Need) → IsLeastUncovered (pairs_say pairs) c entries n → IsCheckAnswer o ordered entries (verdict.Uncovered n)
      uncovered_answers n least =
          let moved = subst (λ (before : Order ℕ). IsLeastUncovered before (setting_by_position o ordered.merge_set) entries n) same_order
          (subst (λ d. IsLeastUncovered (pairs_say pairs) d entries n) is least) in
          of_verdict (of_need n moved.0 moved.1 (same_member_fault o ordered named ∙ free) apart moved.2 refl)
