-- No list of commands has two quiet starts in turn.
use Rattle.std.proofs.Common.{◌≡◌, ◌⊎◌, ℕ, suc, ◌+◌, true, false, inl, inr, refl, sym, ap, ◌∙◌, subst, arith}
use Rattle.std.proofs.Common.{List, [], ◌∷◌, ◌++◌, length, slice_get, take, Option, Some, None}
use Rattle.std.specs.List.{list_any}
use Rattle.std.proofs.lemmas.Bool.{or_parts, true≢false}
use Rattle.std.proofs.lemmas.List.{append-nil, append_assoc}
use Rattle.std.proofs.lemmas.Option.{slice_get_within}
use Rattle.clr_workspaces.specs.Marks.{Name}
use Rattle.clr_steps.specs.declared.commands.Command.{Command}
use Rattle.clr_steps.specs.declared.commands.Reply.{Reply}
use Rattle.clr_steps.specs.Offices.{Office}
use Rattle.clr_steps.specs.Quiet.{MergeSet, is_quiet}
use Rattle.clr_steps.specs.Steps.{Answer, AreAnswers, answer, is_lost, lost_in, step, step_or_lost}
use Rattle.clr_steps.proofs.RunLemmas.{lost_later}
use Rattle.clr_clearance.specs.Runs.{AreQuiet, merged_by, merged_in}
use Rattle.clr_ordered_clearance.specs.MergeSets.{OrderedMergeSet}
use Rattle.clr_ordered_clearance.specs.Runs.{IsDue, IsQuietStartInTurn, IsStopInTurn}
use Rattle.clr_ordered_clearance.proofs.TurnLemmas.{ComeAfter, come_rest, due_first}

module _ (ordered : OrderedMergeSet) where
  abbrev merge_set : MergeSet
  merge_set = ordered.merge_set

  -- the command isn't quiet, or isn't due
  abbrev IsHalt : Office → List Name → Command → Type 0
  IsHalt now merged c = (is_quiet now merge_set c ≡ false) ⊎ ¬ (IsDue ordered merged c)

  -- where some members are merged already, the replies end with the list, or at a command that isn't quiet or isn't due
  abbrev Ends : List Name → List Command → List Reply → Office → Type 0
  Ends names commands replies left = (length replies ≡ length commands)
      ⊎ ((c : Command) × (slice_get commands (length replies) ≡ Some c) × IsHalt left (names ++ merged_in merge_set commands replies) c)

  record IsStart (o : Office) (names : List Name) (commands : List Command) (replies : List Reply) (left : Office) : Type 0 where
    answers : AreAnswers o (take (length replies) commands) replies left
    quiet : AreQuiet o merge_set (take (length replies) commands) (lost_in replies)
    come : ComeAfter ordered o names (take (length replies) commands) (lost_in replies)
    ends : Ends names commands replies left
    found : list_any is_lost replies ≡ false

  ends_of : (commands : List Command) (replies : List Reply) (left : Office) (stopped : Option ℕ)
      → IsStopInTurn ordered (merged_in merge_set commands replies) commands replies left stopped → Ends [] commands replies left
  ends_of commands replies left None stop = inl stop
  ends_of commands replies left (Some number) stop = inr stop.1

  start_of : (o : Office) (commands : List Command) (replies : List Reply) (left : Office) (stopped : Option ℕ)
      → IsQuietStartInTurn o ordered commands replies left stopped → list_any is_lost replies ≡ false → IsStart o [] commands replies left
  start_of o commands replies left stopped start found = record {
    answers = start.answers;
    quiet = start.quiet;
    come = start.in_turn;
    ends = ends_of commands replies left stopped start.stop;
    found = found;
  }

  module _ (c : Command) (cs : List Command) where
    -- a first reply that isn't lost, and the rest
    record IsFirst (o : Office) (names : List Name) (reply : Reply) (replies : List Reply) (left : Office) : Type 0 where
      quiet : is_quiet o merge_set c ≡ true
      due : IsDue ordered names c
      is : reply ≡ (step o c).reply
      rest : IsStart (step o c).office (names ++ merged_by merge_set c reply) cs replies left

    ends_later : (names : List Name) (reply : Reply) (replies : List Reply) (left : Office) → Ends names (c ∷ cs) (reply ∷ replies) left
        → Ends (names ++ merged_by merge_set c reply) cs replies left
    unfolding merged_in
    ends_later names reply replies left (inl same) = inl (omega (arith, same))
    ends_later names reply replies left (inr (d, at, halt)) =
        inr (d, at, subst (λ ns. IsHalt left ns d) (sym (append_assoc names (merged_by merge_set c reply) (merged_in merge_set cs replies))) halt)

    first_of_start : (o : Office) (names : List Name) (reply : Reply) (replies : List Reply) (left : Office)
        → IsStart o names (c ∷ cs) (reply ∷ replies) left → IsFirst o names reply replies left
    first_of_start o names reply replies left start =
        let (next, is, rest) = start.answers in
        let parts = or_parts (is_lost reply) (list_any is_lost replies) start.found in
        let done : answer reply next ≡ step o c = is ∙ ap (λ b. step_or_lost b o c) parts.0 in
        let office : next ≡ (step o c).office = ap (λ (a : Answer). a.office) done in
        let given = (step_or_lost (is_lost reply) o c).office in
        let said : (step_or_lost (is_lost reply) o c).reply ≡ reply = ap (λ (a : Answer). a.reply) (sym is) in
        let same : given ≡ (step o c).office = ap (λ b. (step_or_lost b o c).office) parts.0 in
        let lost : (λ k. lost_in (reply ∷ replies) (k + 1)) ≡ lost_in replies = λ i k. lost_later reply replies k i in
        let performed = take (length replies) cs in
        let behind : AreQuiet given merge_set performed (λ k. lost_in (reply ∷ replies) (k + 1)) = λ k x g. start.quiet (suc k) x g in
        let come : ComeAfter ordered (step o c).office (names ++ merged_by merge_set c reply) performed (lost_in replies) =
        subst (λ p. ComeAfter ordered p (names ++ merged_by merge_set c reply) performed (lost_in replies)) same
        (subst (λ r. ComeAfter ordered given (names ++ merged_by merge_set c r) performed (lost_in replies)) said
        (subst (ComeAfter ordered given (names ++ merged_by merge_set c (step_or_lost (is_lost reply) o c).reply) performed) lost
        (come_rest ordered o names c performed (lost_in (reply ∷ replies)) start.come))) in
        record {
          quiet = start.quiet 0 c refl;
          due = due_first ordered o names c performed (lost_in (reply ∷ replies)) start.come;
          is = ap (λ (a : Answer). a.reply) done;
          rest = record {
            answers = subst (λ p. AreAnswers p performed replies left) office rest;
            quiet = subst (λ p. AreQuiet p merge_set performed (lost_in replies)) same (subst (AreQuiet given merge_set performed) lost behind);
            come = come;
            ends = ends_later names reply replies left start.ends;
            found = parts.1;
          };
        }

    -- where nothing is answered the first command isn't quiet, or isn't due
    stops_first : (o left : Office) (names : List Name) → IsStart o names (c ∷ cs) [] left → IsHalt o names c
    unfolding merged_in
    stops_first o left names start = by start.ends
      where
        by : Ends names (c ∷ cs) [] left → IsHalt o names c
        by (inl same) = absurd (omega (arith, same))
        by (inr (d, at, halt)) =
            let one : c ≡ d = cc in
            subst (λ x. IsHalt o names x) (sym one)
            (subst (λ p. IsHalt p names d) start.answers (subst (λ ns. IsHalt left ns d) (append-nil names) halt))

    -- no list of replies stops where another goes on
    not_both_ways : (o left rest : Office) (names : List Name) (reply : Reply) (replies : List Reply)
        → IsStart o names (c ∷ cs) [] left → IsStart o names (c ∷ cs) (reply ∷ replies) rest → ⊥
    not_both_ways o left rest names reply replies one two =
        let first = first_of_start o names reply replies rest two in
        elim (stops_first o left names one) [ inl noisy ↦ true≢false (sym first.quiet ∙ noisy) | inr early ↦ early first.due ]

  same_start : (o : Office) (names : List Name) (commands : List Command) (replies others : List Reply) (left rest : Office)
      → IsStart o names commands replies left → IsStart o names commands others rest → (replies ≡ others) × (left ≡ rest)
  same_start o names commands [] [] left rest one two = (refl, one.answers ∙ sym two.answers)
  same_start o names [] [] (s ∷ ss) left rest one two = absurd two.answers
  same_start o names [] (r ∷ rs) others left rest one two = absurd one.answers
  same_start o names (c ∷ cs) [] (s ∷ ss) left rest one two = absurd (not_both_ways c cs o left rest names s ss one two)
  same_start o names (c ∷ cs) (r ∷ rs) [] left rest one two = absurd (not_both_ways c cs o rest left names r rs two one)
  same_start o names (c ∷ cs) (r ∷ rs) (s ∷ ss) left rest one two =
      let head = first_of_start c cs o names r rs left one in
      let head_too = first_of_start c cs o names s ss rest two in
      let same : r ≡ s = head.is ∙ sym head_too.is in
      let other = subst (λ x. IsStart (step o c).office (names ++ merged_by merge_set c x) cs ss rest) (sym same) head_too.rest in
      let more = same_start (step o c).office (names ++ merged_by merge_set c r) cs rs ss left rest head.rest other in
      (λ i. same i ∷ more.0 i, more.1)

  -- a command at which replies stop isn't past the end
  not_past : (commands : List Command) (replies : List Reply) (c : Command)
      → length replies ≡ length commands → slice_get commands (length replies) ≡ Some c → ⊥
  not_past commands replies c same e = let within = slice_get_within commands (length replies) c e in omega (arith, same, within)

  same_stop : (names : List Name) (commands : List Command) (replies : List Reply) (left : Office) (stopped halted : Option ℕ)
      → IsStopInTurn ordered names commands replies left stopped → IsStopInTurn ordered names commands replies left halted → stopped ≡ halted
  same_stop names commands replies left None None one two = refl
  same_stop names commands replies left None (Some number) one two = absurd (not_past commands replies two.1.0 one two.1.1)
  same_stop names commands replies left (Some number) None one two = absurd (not_past commands replies one.1.0 two one.1.1)
  same_stop names commands replies left (Some number) (Some other) one two = ap Some (one.0 ∙ sym two.0)

  -- no list of commands has two quiet starts in turn, memory aside
  pub one_start_in_turn : (o : Office) (commands : List Command) (replies others : List Reply) (left rest : Office) (stopped halted : Option ℕ)
      → IsQuietStartInTurn o ordered commands replies left stopped
      → IsQuietStartInTurn o ordered commands others rest halted
      → list_any is_lost replies ≡ false
      → list_any is_lost others ≡ false
      → (replies ≡ others) × (left ≡ rest) × (stopped ≡ halted)
  one_start_in_turn o commands replies others left rest stopped halted one two found found_too =
      let (same, office) = same_start o [] commands replies others left rest (start_of o commands replies left stopped one found)
      (start_of o commands others rest halted two found_too) in
      let stop = subst (λ p. IsStopInTurn ordered (merged_in merge_set commands others) commands others p stopped) office
      (subst (λ rs. IsStopInTurn ordered (merged_in merge_set commands rs) commands rs left stopped) same one.stop) in
      (same, office, same_stop (merged_in merge_set commands others) commands others rest stopped halted stop two.stop)
