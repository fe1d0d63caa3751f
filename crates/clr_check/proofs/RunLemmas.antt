-- The members that commands merge, as one command after another is performed.
use Rattle.std.proofs.Common.{◌≡◌, ◌∙◌, ◌⊎◌, ◌+◌, ◌<◌, ℕ, Bool, true, false, ◌&&◌, cond, inl, inr, Some, List, [], ◌∷◌, ◌++◌, refl, sym, ap, subst, arith, get_or, length, take}
use Rattle.std.specs.Prelude.{slice_get}
use Rattle.std.proofs.lemmas.List.{append_assoc, append-nil, take_more}
use Rattle.std.proofs.lemmas.Option.{slice_get-get_or}
use Rattle.clr_workspaces.specs.Marks.{Name}
use Rattle.clr_steps.specs.declared.commands.Command.{Command}
use Rattle.clr_steps.specs.declared.commands.Command.TheVariants as command
use Rattle.clr_steps.specs.declared.commands.Reply.{Reply}
use Rattle.clr_steps.specs.declared.commands.Reply.TheVariants.{Done}
use Rattle.clr_steps.specs.Names.{has}
use Rattle.clr_steps.specs.Offices.{Office}
use Rattle.clr_steps.specs.Quiet.{MergeSet, is_quiet}
use Rattle.clr_steps.specs.Steps.{AreAnswers, IsAnswer, lost_in}
use Rattle.clr_clearance.specs.Runs.{AreQuiet, merged_by, merged_in}
use Rattle.clr_ordered_clearance.specs.MergeSets.{OrderedMergeSet}
use Rattle.clr_ordered_clearance.specs.Runs.{IsDue, IsQuietStartInTurn}
use Rattle.clr_ordered_clearance.specs.Turns.{MergesComeInTurn}
use Rattle.clr_ordered_clearance.proofs.RunLemmas.{one_more_in_turn}
use Rattle.clr_check.specs.Turns.{is_done}

module _ (merge_set : MergeSet) where
  pub none_merged : (cs : List Command) → merged_in merge_set cs [] ≡ []
  unfolding merged_in
  none_merged [] = refl
  none_merged (c ∷ cs) = refl

  -- what one command merges
  pub nobody_merged : (c : Command) (r : Reply) → ((name : Name) (remove : Bool) → ¬ (c ≡ command.Merge name remove)) → merged_by merge_set c r ≡ []
  nobody_merged (command.Merge name remove) r other = absurd (other name remove refl)
  nobody_merged _ r other = refl

  merged_alone : (name : Name) (remove : Bool) (r : Reply)
      → merged_by merge_set (command.Merge name remove) r ≡ cond (is_done r && has merge_set.members name) (name ∷ []) []
  merged_alone name remove Done = refl
  merged_alone name remove _ = refl

  pub one_merged : (c : Command) (name : Name) (remove : Bool) (r : Reply) (told : Bool) → c ≡ command.Merge name remove
      → told ≡ (is_done r && has merge_set.members name) → merged_by merge_set c r ≡ cond told (name ∷ []) []
  one_merged c name remove r told is same =
      ap (λ x. merged_by merge_set x r) is ∙ merged_alone name remove r ∙ ap (λ b. cond b (name ∷ []) []) (sym same)

  -- the replies alone say how many commands count
  pub merged_cut : (cs : List Command) (rs : List Reply) → merged_in merge_set (take (length rs) cs) rs ≡ merged_in merge_set cs rs
  unfolding merged_in
  merged_cut [] [] = refl
  merged_cut [] (r ∷ rs) = refl
  merged_cut (c ∷ cs) [] = refl
  merged_cut (c ∷ cs) (r ∷ rs) = ap (λ names. merged_by merge_set c r ++ names) (merged_cut cs rs)

  pub merged_more : (cs : List Command) (rs : List Reply) (d : Command) (r : Reply) → length rs < length cs
      → merged_in merge_set cs (rs ++ r ∷ []) ≡ merged_in merge_set cs rs ++ merged_by merge_set (get_or cs (length rs) d) r
  unfolding merged_in
  merged_more [] rs d r less = absurd (omega (arith, less))
  merged_more (c ∷ cs) [] d r less = ap (λ names. merged_by merge_set c r ++ names) (none_merged cs) ∙ append-nil (merged_by merge_set c r)
  merged_more (c ∷ cs) (x ∷ rs) d r less =
      ap (λ names. merged_by merge_set c x ++ names) (merged_more cs rs d r (omega (arith, less)))
      ∙ sym (append_assoc (merged_by merge_set c x) (merged_in merge_set cs rs) (merged_by merge_set (get_or cs (length rs) d) r))

-- one command more --------------------------------------------------------------------------------

-- the commands are quiet and come in turn, and were answered
pub record ArePerformed (o : Office) (ordered : OrderedMergeSet) (commands : List Command) (replies : List Reply) (now : Office) : Type 0 where
  pub answers : AreAnswers o commands replies now
  pub quiet : AreQuiet o ordered.merge_set commands (lost_in replies)
  pub in_turn : MergesComeInTurn o ordered commands (lost_in replies)

module _ (o : Office) (ordered : OrderedMergeSet) (commands : List Command) where
  pub none_performed : ArePerformed o ordered (take 0 commands) [] o
  none_performed = by commands
    where
      by : (cs : List Command) → ArePerformed o ordered (take 0 cs) [] o
      by [] = record { answers = refl; quiet = λ at c e. absurd (cc); in_turn = λ at name remove e. absurd (cc) }
      by (c ∷ cs) = record { answers = refl; quiet = λ at c e. absurd (cc); in_turn = λ at name remove e. absurd (cc) }

  pub one_performed : (at : ℕ) (replies : List Reply) (now : Office) (c d : Command) (reply : Reply) (left : Office) (names : List Name)
      → at < length commands
      → c ≡ get_or commands at d
      → length replies ≡ at
      → ArePerformed o ordered (take at commands) replies now
      → names ≡ merged_in ordered.merge_set commands replies
      → is_quiet now ordered.merge_set c ≡ true
      → IsDue ordered names c
      → IsAnswer now c reply left
      → ArePerformed o ordered (take (at + 1) commands) (replies ++ reply ∷ []) left
  one_performed at replies now c d reply left names less is long before same quiet due answer =
      let merged : names ≡ merged_in ordered.merge_set (take at commands) replies =
      same ∙ sym (merged_cut ordered.merge_set commands replies) ∙ ap (λ k. merged_in ordered.merge_set (take k commands) replies) long in
      let more = one_more_in_turn o ordered (take at commands) replies now c reply left before.answers before.quiet before.in_turn quiet
      (subst (λ ns. IsDue ordered ns c) merged due) answer in
      let here : take at commands ++ c ∷ [] ≡ take (at + 1) commands = ap (λ x. take at commands ++ x ∷ []) is ∙ sym (take_more commands at d less) in
      subst (λ cs. ArePerformed o ordered cs (replies ++ reply ∷ []) left) here (record { answers = more.0; quiet = more.1; in_turn = more.2 })

  pub names_more : (at : ℕ) (replies : List Reply) (c d : Command) (reply : Reply) (names more : List Name)
      → at < length commands
      → c ≡ get_or commands at d
      → length replies ≡ at
      → names ≡ merged_in ordered.merge_set commands replies
      → more ≡ names ++ merged_by ordered.merge_set c reply
      → more ≡ merged_in ordered.merge_set commands (replies ++ reply ∷ [])
  names_more at replies c d reply names more less is long same added =
      let here : c ≡ get_or commands (length replies) d = is ∙ ap (λ k. get_or commands k d) (sym long) in
      added ∙ (λ i. same i ++ merged_by ordered.merge_set (here i) reply)
      ∙ sym (merged_more ordered.merge_set commands replies d reply (omega (arith, less, long)))

-- a reply that isn't Done
pub not_done : (r : Reply) (b : Bool) → ¬ (r ≡ Done) → false ≡ (is_done r && b)
not_done Done b other = absurd (other refl)
not_done _ b other = refl

-- where a run stops -----------------------------------------------------------------------------------

module _ (o : Office) (ordered : OrderedMergeSet) (commands : List Command) (at : ℕ) (replies : List Reply) (now : Office) (c d : Command)
    (less : at < length commands) (is : c ≡ get_or commands at d) (long : length replies ≡ at)
    (before : ArePerformed o ordered (take at commands) replies now) where
  halted : ((is_quiet now ordered.merge_set c ≡ false) ⊎ ¬ (IsDue ordered (merged_in ordered.merge_set commands replies) c))
      → IsQuietStartInTurn o ordered commands replies now (Some (length replies + 1))
  halted halt = record {
    answers = subst (λ k. AreAnswers o (take k commands) replies now) (sym long) before.answers;
    quiet = subst (λ k. AreQuiet o ordered.merge_set (take k commands) (lost_in replies)) (sym long) before.quiet;
    in_turn = subst (λ k. MergesComeInTurn o ordered (take k commands) (lost_in replies)) (sym long) before.in_turn;
    stop = (refl, (c, ap (slice_get commands) long ∙ slice_get-get_or commands at d less ∙ ap Some (sym is), halt));
  }

  pub stops_at_noise : is_quiet now ordered.merge_set c ≡ false → IsQuietStartInTurn o ordered commands replies now (Some (length replies + 1))
  stops_at_noise noisy = halted (inl noisy)

  pub stops_too_early : (names : List Name) → names ≡ merged_in ordered.merge_set commands replies → ¬ (IsDue ordered names c)
      → IsQuietStartInTurn o ordered commands replies now (Some (length replies + 1))
  stops_too_early names same early = halted (inr (λ due. early (subst (λ ns. IsDue ordered ns c) (sym same) due)))
