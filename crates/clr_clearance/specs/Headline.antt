-- What a clear verdict promises, in one sentence, and that it depends on which members there are, and not on the order in which they are named.
use Rattle.std.specs.Prelude.{◌≡◌, ℕ, Bool, true, List, None}
use Rattle.clr_rows.specs.declared.cells.CellId.{CellId}
use Rattle.clr_rows.specs.Contents.{row_at}
use Rattle.clr_rules.specs.Needs.{BreaksNoMore, View}
use Rattle.clr_workspaces.specs.Marks.{Name}
use Rattle.clr_needs.specs.Covers.{Entry}
use Rattle.clr_steps.specs.declared.commands.Command.{Command}
use Rattle.clr_steps.specs.declared.commands.Reply.{Reply}
use Rattle.clr_steps.specs.Names.{has}
use Rattle.clr_steps.specs.Offices.{Office}
use Rattle.clr_steps.specs.Quiet.{MergeSet, is_member, root_content}
use Rattle.clr_steps.specs.Steps.{lost_in, run}
use Rattle.clr_clearance.specs.declared.verdicts.Verdict.TheVariants as verdict
use Rattle.clr_clearance.specs.ClearedRuns.{IsClearedRun}
use Rattle.clr_clearance.specs.Runs.{AreQuiet, merged_in, office_before}
use Rattle.clr_clearance.specs.Safety.{NoneClashes, Safe}
use Rattle.clr_clearance.specs.MergeSets.{Covers, RootHolds}
use Rattle.clr_clearance.specs.Verdicts.{IsVerdict, repeated_member}

-- a run of a list of commands -----------------------------------------------------------------------

-- the members that a run merges
abbrev pub merged_after : Office → MergeSet → List Command → (ℕ → Bool) → List Name
merged_after o merge_set commands lost = merged_in merge_set commands (run o commands lost).replies

-- the rows that the root has after a run
abbrev pub root_after : Office → MergeSet → List Command → (ℕ → Bool) → View
root_after o merge_set commands lost = row_at (root_content (run o commands lost).office merge_set)

-- every member is merged in a run
abbrev pub AreAllMerged : Office → MergeSet → List Command → (ℕ → Bool) → Type 0
AreAllMerged o merge_set commands lost = (name : Name) → is_member merge_set name ≡ true → has (merged_after o merge_set commands lost) name ≡ true

-- every list of quiet commands ------------------------------------------------------------------------

-- in every list of commands that are quiet for the members, whichever of them find no memory, no merge or refresh of a member meets a conflict or
-- breaks a rule; after each command the root breaks no need but those that it broke at first, and so every rule holds in it if every rule held; after
-- any two such lists that merge the same members the root has the same rows, and so it has once all members are merged
pub record Headline (o : Office) (merge_set : MergeSet) : Type 0 where
  pub no_clash : (commands : List Command) (lost : ℕ → Bool) → AreQuiet o merge_set commands lost → NoneClashes merge_set commands (run o commands lost).replies
  pub no_more : (commands : List Command) (lost : ℕ → Bool) → AreQuiet o merge_set commands lost → (at : ℕ)
      → BreaksNoMore o.book (row_at (root_content o merge_set)) (row_at (root_content (office_before o commands lost at) merge_set))
  pub holds : RootHolds o merge_set → (commands : List Command) (lost : ℕ → Bool) → AreQuiet o merge_set commands lost → (at : ℕ)
      → RootHolds (office_before o commands lost at) merge_set
  pub same_rows : (commands others : List Command) (lost lost_of_others : ℕ → Bool) → AreQuiet o merge_set commands lost
      → AreQuiet o merge_set others lost_of_others
      → ((name : Name) → has (merged_after o merge_set commands lost) name ≡ has (merged_after o merge_set others lost_of_others) name)
      → (cell : CellId) → root_after o merge_set commands lost cell ≡ root_after o merge_set others lost_of_others cell
  pub all_merged : (commands others : List Command) (lost lost_of_others : ℕ → Bool) → AreQuiet o merge_set commands lost
      → AreQuiet o merge_set others lost_of_others
      → AreAllMerged o merge_set commands lost → AreAllMerged o merge_set others lost_of_others
      → (cell : CellId) → root_after o merge_set commands lost cell ≡ root_after o merge_set others lost_of_others cell

-- the headline holds where the verdict is clear
abbrev pub HeadlineLaw : Type 0
HeadlineLaw = (o : Office) (merge_set : MergeSet) (entries : List Entry) → IsVerdict o merge_set entries verdict.Clear
    → Headline o merge_set

-- no reply of a run of quiet commands to a merge or a refresh of a member of a safe merge set is a clash
abbrev pub QuietReplyLaw : Type 0
QuietReplyLaw = (o : Office) (merge_set : MergeSet) (commands : List Command) (lost : ℕ → Bool)
    → Safe o merge_set
    → AreQuiet o merge_set commands lost
    → NoneClashes merge_set commands (run o commands lost).replies

-- a run of quiet commands, in which those answered OutOfMemory are lost, is a cleared one
abbrev pub RunsAreCleared : Office → MergeSet → Type 0
RunsAreCleared o merge_set = (commands : List Command) (replies : List Reply) (left : Office)
    → AreQuiet o merge_set commands (lost_in replies)
    → run o commands (lost_in replies) ≡ record { replies = replies; office = left }
    → IsClearedRun o merge_set commands replies left

abbrev pub QuietRunLaw : Type 0
QuietRunLaw = (o : Office) (merge_set : MergeSet) → Safe o merge_set → RunsAreCleared o merge_set

-- the order in which members are named ----------------------------------------------------------------

-- two merge sets of the same root and the same members, in whatever order
pub record NamesTheSame (merge_set other : MergeSet) : Type 0 where
  pub root : other.root ≡ merge_set.root
  pub members : (name : Name) → is_member other name ≡ is_member merge_set name

-- a merge set of the same members as a safe one is safe too
abbrev pub SafeReorderedLaw : Type 0
SafeReorderedLaw = (o : Office) (merge_set other : MergeSet) → NamesTheSame merge_set other → Safe o merge_set → Safe o other

-- entries that cover a merge set cover every merge set of the same members, where none is named twice
abbrev pub CoversReorderedLaw : Type 0
CoversReorderedLaw = (o : Office) (merge_set other : MergeSet) (entries : List Entry)
    → NamesTheSame merge_set other
    → repeated_member other ≡ None
    → Covers o merge_set entries
    → Covers o other entries
