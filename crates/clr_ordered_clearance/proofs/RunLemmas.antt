-- Runs in which merges come in turn: the first commands of a list, and one command more.
use Rattle.std.proofs.Common.{◌≡◌, ◌+◌, List, [], ◌∷◌, ◌++◌, sym, ap, subst, length, take}
use Rattle.std.proofs.lemmas.List.{append-nil, append_assoc}
use Rattle.clr_workspaces.specs.Marks.{Name}
use Rattle.clr_steps.specs.declared.commands.Command.{Command}
use Rattle.clr_steps.specs.declared.commands.Reply.{Reply}
use Rattle.clr_steps.specs.Offices.{Office}
use Rattle.clr_steps.specs.Quiet.{MergeSet, root_content}
use Rattle.clr_steps.specs.Steps.{Answer, AreAnswers, Run, is_lost, lost_in, step_or_lost}
use Rattle.clr_steps.proofs.RunLemmas.{lost_later, run_law}
use Rattle.clr_clearance.specs.Runs.{merged_by, merged_in}
use Rattle.clr_clearance.specs.Safety.{IsMergeOf}
use Rattle.clr_clearance.proofs.CheckLemmas.{one_more}
use Rattle.clr_ordered_clearance.specs.Laws.{ClearedRunInTurnLaw, OneMoreInTurnLaw}
use Rattle.clr_ordered_clearance.specs.MergeSets.{OrderedMergeSet}
use Rattle.clr_ordered_clearance.specs.Runs.{IsDue}
use Rattle.clr_ordered_clearance.specs.Safety.{SafeInTurn}
use Rattle.clr_ordered_clearance.specs.VerdictLaws.{RunsAreClearedInTurn}
use Rattle.clr_ordered_clearance.proofs.HeadlineLemmas.{none_clashes}
use Rattle.clr_ordered_clearance.proofs.SafeLemmas.{safe_in_turn}
use Rattle.clr_ordered_clearance.proofs.TurnLemmas.{ComeAfter, come_rest, come_with, due_first}

pub runs_cleared : (o : Office) (ordered : OrderedMergeSet) → SafeInTurn o ordered → RunsAreClearedInTurn o ordered
runs_cleared o ordered safe commands replies left quiet come runs = record {
  runs = runs;
  no_clash = none_clashes o ordered safe commands (lost_in replies) quiet come;
  root = subst (λ (r : Run). IsMergeOf o ordered.merge_set (merged_in ordered.merge_set commands r.replies) (root_content r.office ordered.merge_set)) runs
      (safe commands (lost_in replies) quiet come).root;
}

pub cleared_run_in_turn : ClearedRunInTurnLaw
cleared_run_in_turn o ordered entries commands replies left stopped covers start =
    let performed = take (length replies) commands in
    runs_cleared o ordered (safe_in_turn o ordered entries covers) performed replies left start.quiet start.in_turn
    (run_law o performed replies left start.answers)

module _ (ordered : OrderedMergeSet) where
  abbrev merge_set : MergeSet
  merge_set = ordered.merge_set

  none_merged : (commands : List Command) (names : List Name) (c : Command) → IsDue ordered (names ++ merged_in merge_set [] []) c → IsDue ordered names c
  unfolding merged_in
  none_merged commands names c due = subst (λ ns. IsDue ordered ns c) (append-nil names) due

  one_merged : (names : List Name) (x : Command) (r : Reply) (cs : List Command) (rs : List Reply)
      → (names ++ merged_by merge_set x r) ++ merged_in merge_set cs rs ≡ names ++ merged_in merge_set (x ∷ cs) (r ∷ rs)
  unfolding merged_in
  one_merged names x r cs rs = append_assoc names (merged_by merge_set x r) (merged_in merge_set cs rs)

  come_more : (o : Office) (names : List Name) (commands : List Command) (replies : List Reply) (now : Office) (c : Command) (reply : Reply)
      → AreAnswers o commands replies now → ComeAfter ordered o names commands (lost_in replies) → IsDue ordered (names ++ merged_in merge_set commands replies) c
      → ComeAfter ordered o names (commands ++ c ∷ []) (lost_in (replies ++ reply ∷ []))
  come_more o names [] [] now c reply answers come due =
      come_with ordered o names c [] (lost_in (reply ∷ [])) (none_merged [] names c due) (λ at name remove e. absurd (cc))
  come_more o names [] (r ∷ rs) now c reply answers come due = absurd answers
  come_more o names (x ∷ cs) [] now c reply answers come due = absurd answers
  come_more o names (x ∷ cs) (r ∷ rs) now c reply answers come due =
      let next = answers.0 in
      let given : step_or_lost (is_lost r) o x ≡ record { reply = r; office = next } = sym answers.1 in
      let office : (step_or_lost (is_lost r) o x).office ≡ next = ap (λ (a : Answer). a.office) given in
      let merged : merged_by merge_set x (step_or_lost (is_lost r) o x).reply ≡ merged_by merge_set x r = ap (λ (a : Answer). merged_by merge_set x a.reply) given in
      let lost : (λ k. lost_in (r ∷ rs) (k + 1)) ≡ lost_in rs = λ i k. lost_later r rs k i in
      let lost_more : (λ k. lost_in (r ∷ rs ++ reply ∷ []) (k + 1)) ≡ lost_in (rs ++ reply ∷ []) = λ i k. lost_later r (rs ++ reply ∷ []) k i in
      let behind : ComeAfter ordered next (names ++ merged_by merge_set x r) cs (lost_in rs) =
      subst (λ p. ComeAfter ordered p (names ++ merged_by merge_set x r) cs (lost_in rs)) office
      (subst (λ ms. ComeAfter ordered (step_or_lost (is_lost r) o x).office (names ++ ms) cs (lost_in rs)) merged
      (subst (ComeAfter ordered (step_or_lost (is_lost r) o x).office (names ++ merged_by merge_set x (step_or_lost (is_lost r) o x).reply) cs) lost
      (come_rest ordered o names x cs (lost_in (r ∷ rs)) come))) in
      let rest : ComeAfter ordered next (names ++ merged_by merge_set x r) (cs ++ c ∷ []) (lost_in (rs ++ reply ∷ [])) =
      come_more next (names ++ merged_by merge_set x r) cs rs now c reply answers.2 behind
      (subst (λ ns. IsDue ordered ns c) (sym (one_merged names x r cs rs)) due) in
      come_with ordered o names x (cs ++ c ∷ []) (lost_in (r ∷ rs ++ reply ∷ [])) (due_first ordered o names x cs (lost_in (r ∷ rs)) come)
      (subst (ComeAfter ordered (step_or_lost (is_lost r) o x).office (names ++ merged_by merge_set x (step_or_lost (is_lost r) o x).reply) (cs ++ c ∷ []))
      (sym lost_more)
      (subst (λ ms. ComeAfter ordered (step_or_lost (is_lost r) o x).office (names ++ ms) (cs ++ c ∷ []) (lost_in (rs ++ reply ∷ []))) (sym merged)
      (subst (λ p. ComeAfter ordered p (names ++ merged_by merge_set x r) (cs ++ c ∷ []) (lost_in (rs ++ reply ∷ []))) (sym office) rest)))

pub one_more_in_turn : OneMoreInTurnLaw
one_more_in_turn o ordered commands replies now c reply left answers quiet come is due last =
    let more = one_more o ordered.merge_set commands replies now c reply left answers quiet is last in
    (more.0, more.1, come_more ordered o [] commands replies now c reply answers come due)
