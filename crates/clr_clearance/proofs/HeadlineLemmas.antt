-- The headline: what a clear verdict promises of every list of quiet commands.
use Rattle.std.proofs.Common.{◌≡◌, ℕ, Bool, true, false, List, sym, ◌∙◌, subst, take, refl}
use Rattle.std.proofs.lemmas.Bool.{false≢true}
use Rattle.clr_rows.specs.declared.cells.CellId.{CellId}
use Rattle.clr_rows.specs.Contents.{row_at}
use Rattle.clr_rules.specs.declared.rules.Rule.{Rule}
use Rattle.clr_rules.specs.Needs.{BreaksNoMore, Holds}
use Rattle.clr_workspaces.specs.Marks.{Name}
use Rattle.clr_needs.specs.Settings.{AreAmong}
use Rattle.clr_steps.specs.declared.commands.Command.{Command}
use Rattle.clr_steps.specs.Names.{has}
use Rattle.clr_steps.specs.Offices.{Office}
use Rattle.clr_steps.specs.Quiet.{MergeSet, is_member, root_content}
use Rattle.clr_clearance.specs.Headline.{AreAllMerged, HeadlineLaw, merged_after, root_after}
use Rattle.clr_clearance.specs.Runs.{AreQuiet, office_before}
use Rattle.clr_clearance.specs.Safety.{Safe}
use Rattle.clr_clearance.specs.MergeSets.{AreMergeable, RootHolds, setting_of}
use Rattle.clr_clearance.proofs.ClearLemmas.{clear_covers}
use Rattle.clr_clearance.proofs.NameLemmas.{has_is}
use Rattle.clr_clearance.proofs.ReplyLemmas.{first_quiet, quiet_reply}
use Rattle.clr_clearance.proofs.SafeLemmas.{quiet_list_law, safe_law}
use Rattle.clr_clearance.proofs.MergeSetLemmas.{order_law}

module _ (o : Office) (merge_set : MergeSet) (mergeable : AreMergeable o merge_set) where
  -- no member is merged that isn't one
  merged_are_members : (names : List Name) → AreAmong (setting_of o merge_set) names merge_set.members → (name : Name) → is_member merge_set name ≡ false
      → has names name ≡ false
  merged_are_members names part name out = by (has names name) refl
    where
      by : (b : Bool) → has names name ≡ b → b ≡ false
      by false e = refl
      by true e = absurd (false≢true (sym out ∙ sym (has_is merge_set.members name) ∙ part name (has_is names name ∙ e)))

  module _
      (commands others : List Command) (lost lost_of_others : ℕ → Bool)
      (quiet : AreQuiet o merge_set commands lost) (quiet_too : AreQuiet o merge_set others lost_of_others)
    where
      abbrev AreMergedAlike : Type 0
      AreMergedAlike = (name : Name) → has (merged_after o merge_set commands lost) name ≡ has (merged_after o merge_set others lost_of_others) name

      same_rows : AreMergedAlike → (cell : CellId) → root_after o merge_set commands lost cell ≡ root_after o merge_set others lost_of_others cell
      same_rows alike cell =
          let one = quiet_list_law o merge_set commands lost mergeable quiet in
          let two = quiet_list_law o merge_set others lost_of_others mergeable quiet_too in
          one.rows cell
          ∙ order_law o merge_set (merged_after o merge_set commands lost) (merged_after o merge_set others lost_of_others) mergeable one.part alike cell
          ∙ sym (two.rows cell)

      all_alike : AreAllMerged o merge_set commands lost → AreAllMerged o merge_set others lost_of_others → AreMergedAlike
      all_alike all all_too name = by (is_member merge_set name) refl
        where
          by : (b : Bool) → is_member merge_set name ≡ b → has (merged_after o merge_set commands lost) name
              ≡ has (merged_after o merge_set others lost_of_others) name
          by true e = all name e ∙ sym (all_too name e)
          by false e =
              merged_are_members (merged_after o merge_set commands lost) (quiet_list_law o merge_set commands lost mergeable quiet).part name e
              ∙ sym (merged_are_members (merged_after o merge_set others lost_of_others)
              (quiet_list_law o merge_set others lost_of_others mergeable quiet_too).part name e)

  no_more_before : Safe o merge_set → (commands : List Command) (lost : ℕ → Bool) → AreQuiet o merge_set commands lost → (at : ℕ)
      → BreaksNoMore o.book (row_at (root_content o merge_set)) (row_at (root_content (office_before o commands lost at) merge_set))
  no_more_before safe commands lost quiet at = (safe (take at commands) lost (first_quiet o merge_set commands lost at quiet)).root.no_more

  holds_before : Safe o merge_set → RootHolds o merge_set → (commands : List Command) (lost : ℕ → Bool) → AreQuiet o merge_set commands lost → (at : ℕ)
      → RootHolds (office_before o commands lost at) merge_set
  holds_before safe holds commands lost quiet at =
      let now = safe (take at commands) lost (first_quiet o merge_set commands lost at quiet) in
      subst (λ (book : List Rule). Holds book (row_at (root_content (office_before o commands lost at) merge_set))) (sym now.book)
      (λ ask s t need. no_more_before safe commands lost quiet at ask s t (λ before. holds ask s t before) need)

pub headline : HeadlineLaw
headline o merge_set entries clear =
    let covers = clear_covers o merge_set entries clear in
    let safe = safe_law o merge_set entries covers in
    record {
      no_clash = λ commands lost. quiet_reply o merge_set commands lost safe;
      no_more = no_more_before o merge_set covers.mergeable safe;
      holds = holds_before o merge_set covers.mergeable safe;
      same_rows = same_rows o merge_set covers.mergeable;
      all_merged = λ commands others lost lost_of_others quiet quiet_too all all_too.
          same_rows o merge_set covers.mergeable commands others lost lost_of_others quiet quiet_too
          (all_alike o merge_set covers.mergeable commands others lost lost_of_others quiet quiet_too all all_too);
    }
