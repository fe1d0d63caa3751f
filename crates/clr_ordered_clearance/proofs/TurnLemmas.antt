-- The members that commands merge in turn have come in turn.
use Rattle.std.proofs.Common.{◌≡◌, ◌∙◌, ◌+◌, ℕ, zero, suc, Bool, true, false, cond, List, [], ◌∷◌, ◌++◌, inl, inr, refl, sym, ap, subst, Some, slice_get}
use Rattle.std.proofs.lemmas.Bool.{false≢true, or_cases, or_left, or_right}
use Rattle.std.proofs.lemmas.List.{append-nil, append_assoc}
use Rattle.clr_workspaces.specs.Marks.{Name}
use Rattle.clr_needs.specs.Settings.{has as has_by}
use Rattle.clr_steps.specs.declared.commands.Command.{Command}
use Rattle.clr_steps.specs.declared.commands.Command.TheVariants as command
use Rattle.clr_steps.specs.declared.commands.Reply.{Reply}
use Rattle.clr_steps.specs.declared.commands.Reply.TheVariants.{Done}
use Rattle.clr_steps.specs.Names.{same_name, has}
use Rattle.clr_steps.specs.Offices.{Office}
use Rattle.clr_steps.specs.Quiet.{MergeSet, is_member}
use Rattle.clr_steps.specs.Steps.{run, step_or_lost}
use Rattle.clr_steps.proofs.FindLemmas.{same_is}
use Rattle.clr_clearance.specs.Headline.{merged_after}
use Rattle.clr_clearance.specs.Runs.{merged_by, merged_in}
use Rattle.clr_clearance.proofs.NameLemmas.{has_is, has_last}
use Rattle.clr_ordered_clearance.specs.MergeSets.{HaveComeInTurn, OrderedMergeSet, goes_before}
use Rattle.clr_ordered_clearance.specs.Runs.{IsDue}
use Rattle.clr_ordered_clearance.specs.Turns.{IsTurnOf, MergesComeInTurn, merged_before}

module _ (ordered : OrderedMergeSet) where
  abbrev merge_set : MergeSet
  merge_set = ordered.merge_set

  -- one member more ---------------------------------------------------------------------------------------------

  module _ (first : Office) where
    -- a member whose turn it is joins those that have come, in front or at the end
    pub joins : (names : List Name) (name : Name) → HaveComeInTurn first ordered names → IsTurnOf ordered names name → HaveComeInTurn first ordered (name ∷ names)
    joins names name come turn m p goes member h = or_right (same_name name m) (has_by same_name names m)
        (elim (or_cases (same_name name p) (has_by same_name names p) h) [
          | inl same ↦ has_is names m ∙ turn m (ap (goes_before ordered m) (same_is name p same) ∙ goes) (sym (has_is merge_set.members m) ∙ member)
          | inr merged ↦ come m p goes member merged
        ])

    joins_last : (names : List Name) (name : Name) → HaveComeInTurn first ordered names → IsTurnOf ordered names name
        → HaveComeInTurn first ordered (names ++ name ∷ [])
    joins_last names name come turn m p goes member h =
        at_end (elim (or_cases (has names p) (same_name name p) (sym (has_last names name p) ∙ sym (has_is (names ++ name ∷ []) p) ∙ h)) [
          | inl merged ↦ sym (has_is names m) ∙ come m p goes member (has_is names p ∙ merged)
          | inr same ↦ turn m (ap (goes_before ordered m) (same_is name p same) ∙ goes) (sym (has_is merge_set.members m) ∙ member)
        ])
      where
        at_end : has names m ≡ true → has_by same_name (names ++ name ∷ []) m ≡ true
        at_end h = has_is (names ++ name ∷ []) m ∙ has_last names name m ∙ or_left (has names m) (same_name name m) h

    pub none_come : HaveComeInTurn first ordered []
    none_come m p goes member h = absurd (false≢true h)

    -- what one command merges that is due joins them
    pub one_comes : (names : List Name) (c : Command) (reply : Reply) → HaveComeInTurn first ordered names → IsDue ordered names c
        → HaveComeInTurn first ordered (names ++ merged_by merge_set c reply)
    one_comes names (command.Merge name remove) Done come due = by (is_member merge_set name) refl
      where
        by : (b : Bool) → is_member merge_set name ≡ b → HaveComeInTurn first ordered (names ++ cond b (name ∷ []) [])
        by true member = joins_last names name come (due member)
        by false out = subst (HaveComeInTurn first ordered) (sym (append-nil names)) come
    one_comes names (command.Merge name remove) _ come due = subst (HaveComeInTurn first ordered) (sym (append-nil names)) come
    one_comes names _ reply come due = subst (HaveComeInTurn first ordered) (sym (append-nil names)) come

  -- commands after some members are merged ------------------------------------------------------------------------

  -- each merge of a member comes in turn, where some members are merged already
  abbrev pub ComeAfter : Office → List Name → List Command → (ℕ → Bool) → Type 0
  ComeAfter now names commands lost = (at : ℕ) (name : Name) (remove : Bool) → slice_get commands at ≡ Some (command.Merge name remove)
      → is_member merge_set name ≡ true → IsTurnOf ordered (names ++ merged_before now merge_set commands lost at) name

  none_before : (now : Office) (commands : List Command) (lost : ℕ → Bool) (names : List Name) → names ++ merged_before now merge_set commands lost 0 ≡ names
  unfolding merged_in
  none_before now commands lost names = append-nil names

  one_before : (now : Office) (names : List Name) (c : Command) (cs : List Command) (lost : ℕ → Bool) (at : ℕ)
      → let a = step_or_lost (lost 0) now c in
      (names ++ merged_by merge_set c a.reply) ++ merged_before a.office merge_set cs (λ k. lost (k + 1)) at
      ≡ names ++ merged_before now merge_set (c ∷ cs) lost (suc at)
  unfolding merged_in
  one_before now names c cs lost at =
      let a = step_or_lost (lost 0) now c in
      append_assoc names (merged_by merge_set c a.reply) (merged_before a.office merge_set cs (λ k. lost (k + 1)) at)

  pub due_first : (now : Office) (names : List Name) (c : Command) (cs : List Command) (lost : ℕ → Bool) → ComeAfter now names (c ∷ cs) lost
      → IsDue ordered names c
  due_first now names (command.Merge name remove) cs lost come =
      λ member. subst (λ ns. IsTurnOf ordered ns name) (none_before now (command.Merge name remove ∷ cs) lost names) (come 0 name remove refl member)
  due_first now names _ cs lost come = tt

  pub come_rest : (now : Office) (names : List Name) (c : Command) (cs : List Command) (lost : ℕ → Bool) → ComeAfter now names (c ∷ cs) lost
      → let a = step_or_lost (lost 0) now c in ComeAfter a.office (names ++ merged_by merge_set c a.reply) cs (λ k. lost (k + 1))
  come_rest now names c cs lost come = λ at name remove e member.
      subst (λ ns. IsTurnOf ordered ns name) (sym (one_before now names c cs lost at)) (come (suc at) name remove e member)

  pub come_with : (now : Office) (names : List Name) (c : Command) (cs : List Command) (lost : ℕ → Bool) → IsDue ordered names c
      → (let a = step_or_lost (lost 0) now c in ComeAfter a.office (names ++ merged_by merge_set c a.reply) cs (λ k. lost (k + 1)))
      → ComeAfter now names (c ∷ cs) lost
  come_with now names c cs lost due come zero name remove e member =
      let one : c ≡ command.Merge name remove = cc in
      subst (λ ns. IsTurnOf ordered ns name) (sym (none_before now (c ∷ cs) lost names)) (subst (IsDue ordered names) one due member)
  come_with now names c cs lost due come (suc at) name remove e member =
      subst (λ ns. IsTurnOf ordered ns name) (one_before now names c cs lost at) (come at name remove e member)

  all_come : (first : Office) (commands : List Command) (lost : ℕ → Bool) (names : List Name) (now : Office) → HaveComeInTurn first ordered names
      → ComeAfter now names commands lost → HaveComeInTurn first ordered (names ++ merged_after now merge_set commands lost)
  unfolding merged_in
  all_come first [] lost names now come turns = subst (HaveComeInTurn first ordered) (sym (append-nil names)) come
  all_come first (c ∷ cs) lost names now come turns =
      let a = step_or_lost (lost 0) now c in
      let done = run a.office cs (λ k. lost (k + 1)) in
      subst (HaveComeInTurn first ordered) (append_assoc names (merged_by merge_set c a.reply) (merged_in merge_set cs done.replies))
      (all_come first cs (λ k. lost (k + 1)) (names ++ merged_by merge_set c a.reply) a.office
      (one_comes first names c a.reply come (due_first now names c cs lost turns))
      (come_rest now names c cs lost turns))

  -- the members that commands merge in turn have come in turn
  pub merged_have_come : (o : Office) (commands : List Command) (lost : ℕ → Bool) → MergesComeInTurn o ordered commands lost
      → HaveComeInTurn o ordered (merged_after o merge_set commands lost)
  merged_have_come o commands lost come = all_come o commands lost [] o (none_come o) come
