-- The headline in turn: what covers under an order promise of every list of quiet commands.
use Rattle.std.proofs.Common.{◌≡◌, ◌∙◌, ℕ, Bool, true, false, List, refl, sym, ap, subst, take, slice_get, Some}
use Rattle.std.proofs.lemmas.Bool.{false≢true}
use Rattle.clr_rows.specs.declared.cells.CellId.{CellId}
use Rattle.clr_rows.specs.Contents.{row_at}
use Rattle.clr_rules.specs.declared.rules.Rule.{Rule}
use Rattle.clr_rules.specs.Needs.{BreaksNoMore, Holds}
use Rattle.clr_workspaces.specs.Marks.{Name}
use Rattle.clr_needs.specs.Settings.{AreAmong}
use Rattle.clr_steps.specs.declared.commands.Command.{Command}
use Rattle.clr_steps.specs.declared.commands.Command.TheVariants as command
use Rattle.clr_steps.specs.declared.commands.Reply.{Reply}
use Rattle.clr_steps.specs.Names.{has}
use Rattle.clr_steps.specs.Offices.{Office}
use Rattle.clr_steps.specs.Quiet.{MergeSet, is_member, is_of_member, root_content}
use Rattle.clr_steps.specs.Refusals.{name_in}
use Rattle.clr_steps.specs.Steps.{run, step_or_lost}
use Rattle.clr_clearance.specs.Headline.{AreAllMerged, merged_after, root_after}
use Rattle.clr_clearance.specs.MergeSets.{AreMergeable, RootHolds, setting_of}
use Rattle.clr_clearance.specs.Runs.{AreQuiet, office_before}
use Rattle.clr_clearance.specs.Safety.{is_clash}
use Rattle.clr_clearance.proofs.MergeSetLemmas.{order_law}
use Rattle.clr_clearance.proofs.NameLemmas.{has_is}
use Rattle.clr_clearance.proofs.ReplyLemmas.{first_quiet, reply_at}
use Rattle.clr_clearance.proofs.SafeLemmas.{quiet_list_law}
use Rattle.clr_ordered_clearance.specs.Headlines.{NoneClashesInTurn, NoneConflicts}
use Rattle.clr_ordered_clearance.specs.Laws.{HeadlineInTurnLaw}
use Rattle.clr_ordered_clearance.specs.MergeSets.{OrderedMergeSet}
use Rattle.clr_ordered_clearance.specs.Safety.{IsSafeInTurnAt, SafeInTurn, is_conflict}
use Rattle.clr_ordered_clearance.specs.Turns.{IsTurnOf, MergesComeInTurn, merged_before}
use Rattle.clr_ordered_clearance.proofs.AnswersInTurn.{answer_free}
use Rattle.clr_ordered_clearance.proofs.Prefixes.{first_come}
use Rattle.clr_ordered_clearance.proofs.SafeLemmas.{safe_in_turn}

-- replies ---------------------------------------------------------------------------------------------------------

module _ (o : Office) (ordered : OrderedMergeSet) (safe : SafeInTurn o ordered) (commands : List Command) (lost : ℕ → Bool)
    (quiet : AreQuiet o ordered.merge_set commands lost) (come : MergesComeInTurn o ordered commands lost) where
  -- the office in which the command of a position is given
  safe_before : (at : ℕ) → IsSafeInTurnAt o ordered (merged_before o ordered.merge_set commands lost at) (office_before o commands lost at)
  safe_before at = safe (take at commands) lost (first_quiet o ordered.merge_set commands lost at quiet) (first_come o ordered commands lost at come)

  no_clash_at : (at : ℕ) (c : Command) (reply : Reply) → slice_get commands at ≡ Some c → slice_get (run o commands lost).replies at ≡ Some reply
      → is_of_member ordered.merge_set c ≡ true → IsTurnOf ordered (merged_before o ordered.merge_set commands lost at) (name_in c) → is_clash reply ≡ false
  no_clash_at at c reply e f member turn = ap is_clash (sym (reply_at o commands lost at c reply e f)) ∙ by (lost at)
    where
      by : (b : Bool) → is_clash (step_or_lost b (office_before o commands lost at) c).reply ≡ false
      by true = refl
      by false = ((safe_before at).answers c member turn).no_clash

  pub none_clashes : NoneClashesInTurn o ordered commands lost
  none_clashes = record {
    merges = λ at name remove reply e f member. no_clash_at at (command.Merge name remove) reply e f member (come at name remove e member);
    refreshes = λ at name reply e f member turn. no_clash_at at (command.Refresh name) reply e f member turn;
  }

  no_more_before : (at : ℕ) → BreaksNoMore o.book (row_at (root_content o ordered.merge_set))
      (row_at (root_content (office_before o commands lost at) ordered.merge_set))
  no_more_before at = (safe_before at).root.no_more

  holds_before : RootHolds o ordered.merge_set → (at : ℕ) → RootHolds (office_before o commands lost at) ordered.merge_set
  holds_before holds at =
      subst (λ (book : List Rule). Holds book (row_at (root_content (office_before o commands lost at) ordered.merge_set))) (sym (safe_before at).book)
      ((safe_before at).root.holds holds)

-- whatever comes in turn or not ---------------------------------------------------------------------------------------

module _ (o : Office) (merge_set : MergeSet) (mergeable : AreMergeable o merge_set) where
  none_conflicts : (commands : List Command) (lost : ℕ → Bool) → AreQuiet o merge_set commands lost → NoneConflicts merge_set commands (run o commands lost).replies
  none_conflicts commands lost quiet at c reply e f member = ap is_conflict (sym (reply_at o commands lost at c reply e f)) ∙ by (lost at)
    where
      by : (b : Bool) → is_conflict (step_or_lost b (office_before o commands lost at) c).reply ≡ false
      by true = refl
      by false = answer_free o merge_set mergeable _ _
          (quiet_list_law o merge_set (take at commands) lost mergeable (first_quiet o merge_set commands lost at quiet)) c member

  -- no member is merged that isn't one
  merged_are_members : (names : List Name) → AreAmong (setting_of o merge_set) names merge_set.members → (name : Name) → is_member merge_set name ≡ false
      → has names name ≡ false
  merged_are_members names part name out = by (has names name) refl
    where
      by : (b : Bool) → has names name ≡ b → b ≡ false
      by false e = refl
      by true e = absurd (false≢true (sym out ∙ sym (has_is merge_set.members name) ∙ part name (has_is names name ∙ e)))

  module _
      (commands others : List Command) (lost lost_of_others : ℕ → Bool)
      (quiet : AreQuiet o merge_set commands lost) (quiet_too : AreQuiet o merge_set others lost_of_others)
    where
      abbrev AreMergedAlike : Type 0
      AreMergedAlike = (name : Name) → has (merged_after o merge_set commands lost) name ≡ has (merged_after o merge_set others lost_of_others) name

      same_rows : AreMergedAlike → (cell : CellId) → root_after o merge_set commands lost cell ≡ root_after o merge_set others lost_of_others cell
      same_rows alike cell =
          let one = quiet_list_law o merge_set commands lost mergeable quiet in
          let two = quiet_list_law o merge_set others lost_of_others mergeable quiet_too in
          one.rows cell
          ∙ order_law o merge_set (merged_after o merge_set commands lost) (merged_after o merge_set others lost_of_others) mergeable one.part alike cell
          ∙ sym (two.rows cell)

      all_alike : AreAllMerged o merge_set commands lost → AreAllMerged o merge_set others lost_of_others → AreMergedAlike
      all_alike all all_too name = by (is_member merge_set name) refl
        where
          by : (b : Bool) → is_member merge_set name ≡ b → has (merged_after o merge_set commands lost) name
              ≡ has (merged_after o merge_set others lost_of_others) name
          by true e = all name e ∙ sym (all_too name e)
          by false e =
              merged_are_members (merged_after o merge_set commands lost) (quiet_list_law o merge_set commands lost mergeable quiet).part name e
              ∙ sym (merged_are_members (merged_after o merge_set others lost_of_others)
              (quiet_list_law o merge_set others lost_of_others mergeable quiet_too).part name e)

pub headline_in_turn : HeadlineInTurnLaw
headline_in_turn o ordered entries covers =
    let safe = safe_in_turn o ordered entries covers in
    record {
      no_clash = none_clashes o ordered safe;
      no_more = no_more_before o ordered safe;
      holds = λ holds commands lost quiet come. holds_before o ordered safe commands lost quiet come holds;
      no_conflict = none_conflicts o ordered.merge_set covers.mergeable;
      same_rows = same_rows o ordered.merge_set covers.mergeable;
      all_merged = λ commands others lost lost_of_others quiet quiet_too all all_too.
          same_rows o ordered.merge_set covers.mergeable commands others lost lost_of_others quiet quiet_too
          (all_alike o ordered.merge_set covers.mergeable commands others lost lost_of_others quiet quiet_too all all_too);
    }
