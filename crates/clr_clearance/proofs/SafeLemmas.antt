-- What every quiet list of commands leaves, and that a covered merge set is safe.
use Rattle.std.proofs.Common.{◌≡◌, ℕ, suc, ◌+◌, Bool, true, false, cond, List, [], ◌∷◌, ◌++◌, inl, inr, refl, sym, ap, ◌∙◌, subst}
use Rattle.std.specs.Option.{option_map}
use Rattle.std.proofs.lemmas.Bool.{cases_Bool, false≢true}
use Rattle.std.proofs.lemmas.List.{append-nil, append_assoc}
use Rattle.clr_rows.specs.Contents.{row_at}
use Rattle.clr_workspaces.specs.Marks.{Name}
use Rattle.clr_needs.proofs.Merges.{root_is}
use Rattle.clr_steps.specs.declared.commands.Command.{Command}
use Rattle.clr_steps.specs.declared.commands.Command.TheVariants as command
use Rattle.clr_steps.specs.declared.commands.Reply.{Reply}
use Rattle.clr_steps.specs.declared.commands.Reply.TheVariants.{Done, OutOfMemory}
use Rattle.clr_steps.specs.Offices.{Office}
use Rattle.clr_steps.specs.Quiet.{MergeSet, is_of_member, is_quiet, member_of, root_content}
use Rattle.clr_steps.specs.Steps.{run, step, step_or_lost}
use Rattle.clr_steps.proofs.FirstLemmas.{some_is}
use Rattle.clr_steps.proofs.QuietLemmas.{quiet_law}
use Rattle.clr_steps.proofs.SchemaLemmas.{schema_law}
use Rattle.clr_clearance.specs.Invariants.{Invariant, IsMemberNow}
use Rattle.clr_clearance.specs.Laws.{QuietListLaw, SafeLaw}
use Rattle.clr_clearance.specs.Runs.{AreQuiet, merged_by, merged_in}
use Rattle.clr_clearance.specs.Safety.{IsSafeAnswer, IsSafeAt}
use Rattle.clr_clearance.specs.MergeSets.{AreMergeable, MembersBreakNoMore, setting_of}
use Rattle.clr_clearance.proofs.AnswerLemmas.{merge_claim, refresh_claim}
use Rattle.clr_clearance.proofs.MergeSetLemmas.{changed_by-standing}
use Rattle.clr_clearance.proofs.StaticLemmas.{child_under, member_agrees, is_merge_of, no_more_broken}

-- the invariant holds before any command
pub at_first : (first : Office) (merge_set : MergeSet) → AreMergeable first merge_set → Invariant first merge_set [] first
at_first first merge_set mergeable = record {
  book = refl;
  kept = mergeable.kept;
  part = λ name h. absurd (false≢true h);
  rows = λ cell. sym (root_is (setting_of first merge_set) cell);
  members = λ name m member e. (let child = child_under first merge_set name (mergeable.children name member) in
      subst (IsMemberNow first merge_set [] first name) (some_is (member_of child.at) m (sym (ap (option_map member_of) child.is) ∙ e)) (record {
        under = child.under;
        changes = λ cell. sym (changed_by-standing first name child.at cell child.is);
        agrees = member_agrees first merge_set name child.at mergeable member child.is;
      }));
}

-- what no merge or refresh of a member leaves
others_last : (first : Office) (merge_set : MergeSet) (names : List Name) (now : Office) (c : Command) → Invariant first merge_set names now
    → is_quiet now merge_set c ≡ true
    → is_of_member merge_set c ≡ false → Invariant first merge_set names (step now c).office
others_last first merge_set names now c inv quiet plain =
    let left = quiet_law merge_set now c inv.kept quiet plain in
    record {
      book = (schema_law now c).1 ∙ inv.book;
      kept = left.kept inv.kept;
      part = inv.part;
      rows = λ cell. ap (λ content. row_at content cell) left.root ∙ inv.rows cell;
      members = λ name m member e. (let old = inv.members name m member (sym (left.members name member) ∙ e) in
          record {
            under = old.under;
            changes = old.changes;
            agrees = λ cell changed. ap (λ content. row_at content cell) left.root
                ∙ old.agrees cell changed;
          });
    }

merged_by-lost : (merge_set : MergeSet) (c : Command) → merged_by merge_set c OutOfMemory ≡ []
merged_by-lost merge_set (command.Merge name remove) = refl
merged_by-lost merge_set _ = refl

merged_by-other : (merge_set : MergeSet) (c : Command) (reply : Reply) → is_of_member merge_set c ≡ false → merged_by merge_set c reply ≡ []
merged_by-other merge_set (command.Merge name remove) Done e = ap (λ b. cond b (name ∷ []) []) e
merged_by-other merge_set (command.Merge name remove) _ e = refl
merged_by-other merge_set _ reply e = refl

module _ (first : Office) (merge_set : MergeSet) (mergeable : AreMergeable first merge_set) where
  no_more : (names more : List Name) (next : Office) → more ≡ [] → Invariant first merge_set names next → Invariant first merge_set (names ++ more) next
  no_more names more next e inv = subst (λ ns. Invariant first merge_set ns next) (sym (ap (λ ns. names ++ ns) e ∙ append-nil names)) inv

  pub step_lasts : (names : List Name) (now : Office) (c : Command) → Invariant first merge_set names now → is_quiet now merge_set c ≡ true
      → let a = step now c in Invariant first merge_set (names ++ merged_by merge_set c a.reply) a.office
  step_lasts names now c inv quiet = elim (cases_Bool (is_of_member merge_set c)) [
    | inl member ↦ of_member c member
    | inr plain ↦ no_more names _ (step now c).office (merged_by-other merge_set c (step now c).reply plain)
        (others_last first merge_set names now c inv quiet plain)
  ]
    where
      of_member : (c : Command) → is_of_member merge_set c ≡ true → let a = step now c in Invariant first merge_set (names ++ merged_by merge_set c a.reply)
          a.office
      of_member (command.Merge name remove) member = (merge_claim first merge_set names now name remove mergeable inv member).0
      of_member (command.Refresh name) member = no_more names [] (step now (command.Refresh name)).office refl
          (refresh_claim first merge_set names now name mergeable inv member).0
      of_member _ member = absurd (false≢true member)

  pub answer_lasts : (lost : Bool) (names : List Name) (now : Office) (c : Command) → Invariant first merge_set names now → is_quiet now merge_set c ≡ true
      → let a = step_or_lost lost now c in Invariant first merge_set (names ++ merged_by merge_set c a.reply) a.office
  answer_lasts true names now c inv quiet = no_more names _ now (merged_by-lost merge_set c) inv
  answer_lasts false names now c inv quiet = step_lasts names now c inv quiet

  list_lasts : (commands : List Command) (lost : ℕ → Bool) (names : List Name) (now : Office) → Invariant first merge_set names now
      → AreQuiet now merge_set commands lost
      → let done = run now commands lost in Invariant first merge_set (names ++ merged_in merge_set commands done.replies) done.office
  unfolding merged_in
  list_lasts [] lost names now inv quiet = no_more names [] now refl inv
  list_lasts (c ∷ cs) lost names now inv quiet =
      let a = step_or_lost (lost 0) now c in
      let done = run a.office cs (λ k. lost (k + 1)) in
      subst (λ ns. Invariant first merge_set ns done.office) (append_assoc names (merged_by merge_set c a.reply) (merged_in merge_set cs done.replies))
      (list_lasts cs (λ k. lost (k + 1)) (names ++ merged_by merge_set c a.reply) a.office (answer_lasts (lost 0) names now c inv (quiet 0 c refl))
      (λ at d e. quiet (suc at) d e))

pub quiet_list_law : QuietListLaw
quiet_list_law o merge_set commands lost mergeable quiet = list_lasts o merge_set mergeable commands lost [] o (at_first o merge_set mergeable) quiet

-- what an office that keeps the invariant promises
pub safe_at : (first : Office) (merge_set : MergeSet) (names : List Name) (now : Office) → AreMergeable first merge_set → MembersBreakNoMore first merge_set
    → Invariant first merge_set names now → IsSafeAt first merge_set names now
safe_at first merge_set names now mergeable keeps inv = record {
  book = inv.book;
  root = is_merge_of first merge_set keeps names (root_content now merge_set) inv.part inv.rows;
  answers = answers;
  refreshes = λ name w member. ((refresh_claim first merge_set names now name mergeable inv member).1 keeps).content w;
}
  where
    answers : (c : Command) → is_of_member merge_set c ≡ true → IsSafeAnswer now c
    answers (command.Merge name remove) member = (merge_claim first merge_set names now name remove mergeable inv member).1 keeps
    answers (command.Refresh name) member = ((refresh_claim first merge_set names now name mergeable inv member).1 keeps).answer
    answers _ member = absurd (false≢true member)

pub safe_law : SafeLaw
safe_law o merge_set entries covers commands lost quiet =
    safe_at o merge_set _ _ covers.mergeable (no_more_broken o merge_set entries covers) (quiet_list_law o merge_set commands lost covers.mergeable quiet)
