-- A member that isn't merged stands: quiet commands remove no member but by its merge.
use Rattle.std.proofs.Common.{◌≡◌, ◌∙◌, ℕ, ◌+◌, suc, Bool, true, false, ◌||◌, cond, List, [], ◌∷◌, ◌++◌, inl, inr, refl, sym, ap, subst, Option, Some, None, is_some}
use Rattle.std.specs.Option.{option_map, option_map_or}
use Rattle.std.proofs.lemmas.Bool.{cases_Bool, false≢true, true≢false}
use Rattle.std.proofs.lemmas.List.{append_assoc}
use Rattle.clr_workspaces.specs.Marks.{Name}
use Rattle.clr_workspaces.specs.Workspaces.{Workspace}
use Rattle.clr_rows.specs.Contents.{Content}
use Rattle.clr_steps.specs.declared.commands.Command.{Command}
use Rattle.clr_steps.specs.declared.commands.Command.TheVariants as command
use Rattle.clr_steps.specs.declared.commands.Reply.{Reply}
use Rattle.clr_steps.specs.declared.commands.Reply.TheVariants.{Done}
use Rattle.clr_steps.specs.Effects.{after_merge, after_refresh, after_remove, effect}
use Rattle.clr_steps.specs.Names.{same_name, has}
use Rattle.clr_steps.specs.Offices.{Office, workspace}
use Rattle.clr_steps.specs.Quiet.{Member, MergeSet, is_member, is_of_member, is_quiet, is_root, member_of}
use Rattle.clr_steps.specs.Refusals.{refusal}
use Rattle.clr_steps.specs.Steps.{Answer, run, step, step_or_lost}
use Rattle.clr_steps.proofs.FindLemmas.{found_name, same_is}
use Rattle.clr_steps.proofs.QuietLemmas.{quiet_law}
use Rattle.clr_clearance.specs.Invariants.{Invariant}
use Rattle.clr_clearance.specs.MergeSets.{AreMergeable}
use Rattle.clr_clearance.specs.Runs.{AreQuiet, merged_by, merged_in}
use Rattle.clr_clearance.proofs.AnswerLemmas.{step_as}
use Rattle.clr_clearance.proofs.EffectLemmas.{StepsTo, merge_steps, refresh_steps, remove_steps, shown}
use Rattle.clr_clearance.proofs.MemberLemmas.{it, not_root}
use Rattle.clr_clearance.proofs.NameLemmas.{has_last}
use Rattle.clr_clearance.proofs.SafeLemmas.{answer_lasts, at_first}
use Rattle.clr_clearance.proofs.StaticLemmas.{child_under}

-- who isn't in a longer list isn't in its beginning
not_first : (names more : List Name) (name : Name) → has (names ++ more) name ≡ false → has names name ≡ false
not_first [] more name h = refl
not_first (n ∷ ns) more name h = by (same_name n name) h (not_first ns more name)
  where
    by : (b : Bool) → b || has (ns ++ more) name ≡ false → (has (ns ++ more) name ≡ false → has ns name ≡ false) → b || has ns name ≡ false
    by true h rest = absurd (true≢false h)
    by false h rest = rest h

not_last : (names : List Name) (n name : Name) → has (names ++ n ∷ []) name ≡ false → (has names name ≡ false) × (same_name n name ≡ false)
not_last names n name h = both (has names name) (same_name n name) (sym (has_last names n name) ∙ h)
  where
    both : (a b : Bool) → a || b ≡ false → (a ≡ false) × (b ≡ false)
    both true b h = absurd (true≢false h)
    both false b h = (refl, h)

abbrev after_either : Office → Bool → Workspace → Office
after_either o remove w = cond remove (after_remove (after_merge o w) w) (after_merge o w)

merge_effect : (o : Office) (name : Name) (remove : Bool) → effect o (command.Merge name remove) ≡ option_map_or (after_either o remove) (workspace o name) o
unfolding effect
merge_effect o name remove = refl

refresh_effect : (o : Office) (name : Name) → effect o (command.Refresh name) ≡ option_map_or (after_refresh o) (workspace o name) o
unfolding effect
refresh_effect o name = refl

module _ (first : Office) (merge_set : MergeSet) (mergeable : AreMergeable first merge_set) where
  -- each member that isn't among these stands
  abbrev pub OthersStand : List Name → Office → Type 0
  OthersStand names now = (name : Name) → is_member merge_set name ≡ true → has names name ≡ false → is_some (shown now name) ≡ true

  pub all_stand : OthersStand [] first
  all_stand name member h = let child = child_under first merge_set name (mergeable.children name member) in ap (λ r. is_some (option_map member_of r)) child.is

  fewer_stand : (names more : List Name) (now : Office) → OthersStand names now → OthersStand (names ++ more) now
  fewer_stand names more now stand name member out = stand name member (not_first names more name out)

  module _ (names : List Name) (now : Office) (inv : Invariant first merge_set names now) (stand : OthersStand names now) where
    -- a step on one member leaves the others
    others_of : (n : Name) (next : Office) (content : Content) (left : Option Member) → StepsTo merge_set now next n content left
        → (name : Name) → is_member merge_set name ≡ true → has names name ≡ false → same_name n name ≡ false → is_some (shown next name) ≡ true
    others_of n next content left steps name member out apart =
        ap is_some (steps.others name (not_root first merge_set mergeable names now inv name member) apart) ∙ stand name member out

    module _ (name : Name) (member : is_member merge_set name ≡ true) (w : Workspace) (is : workspace now name ≡ Some w) where
      same : w.name ≡ name
      same = found_name now name w is

      own : workspace now w.name ≡ Some w
      own = ap (workspace now) same ∙ is

      own_member : is_member merge_set w.name ≡ true
      own_member = ap (is_member merge_set) same ∙ member

      under : is_root merge_set w.parent ≡ true
      under = (it first merge_set mergeable names now inv w.name own_member w own).under

      apart_root : is_root merge_set w.name ≡ false
      apart_root = not_root first merge_set mergeable names now inv w.name own_member

      merged_stand : (remove : Bool) → OthersStand (names ++ name ∷ []) (after_either now remove w)
      merged_stand remove = subst (λ n. OthersStand (names ++ n ∷ []) (after_either now remove w)) same (by remove)
        where
          by : (b : Bool) → OthersStand (names ++ w.name ∷ []) (after_either now b w)
          by true other there h = let (out, apart) = not_last names w.name other h in
              others_of w.name _ _ _ (remove_steps merge_set now w inv.kept own apart_root under) other there out apart
          by false other there h = let (out, apart) = not_last names w.name other h in
              others_of w.name _ _ _ (merge_steps merge_set now w inv.kept own apart_root under) other there out apart

      refreshed_stand : OthersStand names (after_refresh now w)
      refreshed_stand other there out =
          let steps = refresh_steps merge_set now w inv.kept own apart_root under in
          elim (cases_Bool (same_name w.name other)) [
            | inl here ↦ ap (λ k. is_some (shown (after_refresh now w) k)) (sym (same_is w.name other here)) ∙ ap is_some steps.here
            | inr apart ↦ others_of w.name _ _ _ steps other there out apart
          ]

    merge_stands : (name : Name) (remove : Bool) → is_member merge_set name ≡ true → let a = step now (command.Merge name remove) in
        OthersStand (names ++ merged_by merge_set (command.Merge name remove) a.reply) a.office
    merge_stands name remove member = by (refusal now (command.Merge name remove)) refl
      where
        After : Answer → Type 0
        After a = OthersStand (names ++ merged_by merge_set (command.Merge name remove) a.reply) a.office

        at : (r : Option Workspace) → workspace now name ≡ r → OthersStand (names ++ name ∷ []) (option_map_or (after_either now remove) r now)
        at None e = fewer_stand names (name ∷ []) now stand
        at (Some w) e = merged_stand name member w e remove

        named : merged_by merge_set (command.Merge name remove) Done ≡ name ∷ []
        named = ap (λ b. cond b (name ∷ []) []) member

        by : (r : Option Reply) → refusal now (command.Merge name remove) ≡ r → After (step now (command.Merge name remove))
        by (Some reply) e = subst After (sym (step_as now (command.Merge name remove) (Some reply) e)) (fewer_stand names _ now stand)
        by None e = subst After (sym (step_as now (command.Merge name remove) None e))
            (subst (λ ns. OthersStand (names ++ ns) (effect now (command.Merge name remove))) (sym named)
            (subst (OthersStand (names ++ name ∷ [])) (sym (merge_effect now name remove)) (at (workspace now name) refl)))

    refresh_stands : (name : Name) → is_member merge_set name ≡ true → OthersStand names (step now (command.Refresh name)).office
    refresh_stands name member = by (refusal now (command.Refresh name)) refl
      where
        at : (r : Option Workspace) → workspace now name ≡ r → OthersStand names (option_map_or (after_refresh now) r now)
        at None e = stand
        at (Some w) e = refreshed_stand name member w e

        by : (r : Option Reply) → refusal now (command.Refresh name) ≡ r → OthersStand names (step now (command.Refresh name)).office
        by (Some reply) e = subst (λ (a : Answer). OthersStand names a.office) (sym (step_as now (command.Refresh name) (Some reply) e)) stand
        by None e = subst (λ (a : Answer). OthersStand names a.office) (sym (step_as now (command.Refresh name) None e))
            (subst (OthersStand names) (sym (refresh_effect now name)) (at (workspace now name) refl))

    step_stands : (c : Command) → is_quiet now merge_set c ≡ true → let a = step now c in OthersStand (names ++ merged_by merge_set c a.reply) a.office
    step_stands c quiet = elim (cases_Bool (is_of_member merge_set c)) [
      | inl member ↦ of_member c member
      | inr plain ↦ fewer_stand names _ (step now c).office (λ name member out.
          ap is_some ((quiet_law merge_set now c inv.kept quiet plain).members name member) ∙ stand name member out)
    ]
      where
        of_member : (c : Command) → is_of_member merge_set c ≡ true → let a = step now c in OthersStand (names ++ merged_by merge_set c a.reply) a.office
        of_member (command.Merge name remove) member = merge_stands name remove member
        of_member (command.Refresh name) member = fewer_stand names _ (step now (command.Refresh name)).office (refresh_stands name member)
        of_member _ member = absurd (false≢true member)

    pub answer_stands : (lost : Bool) (c : Command) → is_quiet now merge_set c ≡ true → let a = step_or_lost lost now c in
        OthersStand (names ++ merged_by merge_set c a.reply) a.office
    answer_stands true c quiet = fewer_stand names _ now stand
    answer_stands false c quiet = step_stands c quiet

  list_stands : (commands : List Command) (lost : ℕ → Bool) (names : List Name) (now : Office) → Invariant first merge_set names now → OthersStand names now
      → AreQuiet now merge_set commands lost
      → let done = run now commands lost in OthersStand (names ++ merged_in merge_set commands done.replies) done.office
  unfolding merged_in
  list_stands [] lost names now inv stand quiet = fewer_stand names [] now stand
  list_stands (c ∷ cs) lost names now inv stand quiet =
      let a = step_or_lost (lost 0) now c in
      let done = run a.office cs (λ k. lost (k + 1)) in
      subst (λ ns. OthersStand ns done.office) (append_assoc names (merged_by merge_set c a.reply) (merged_in merge_set cs done.replies))
      (list_stands cs (λ k. lost (k + 1)) (names ++ merged_by merge_set c a.reply) a.office
      (answer_lasts first merge_set mergeable (lost 0) names now c inv (quiet 0 c refl))
      (answer_stands names now inv stand (lost 0) c (quiet 0 c refl))
      (λ at d e. quiet (suc at) d e))

  pub others_stand : (commands : List Command) (lost : ℕ → Bool) → AreQuiet first merge_set commands lost
      → let done = run first commands lost in OthersStand (merged_in merge_set commands done.replies) done.office
  others_stand commands lost quiet = list_stands commands lost [] first (at_first first merge_set mergeable) all_stand quiet
