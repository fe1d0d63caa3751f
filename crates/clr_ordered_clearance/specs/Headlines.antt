-- What covers under an order promise, in one sentence.
use Rattle.std.specs.Prelude.{◌≡◌, ℕ, Bool, true, false, List, Some, slice_get}
use Rattle.clr_rows.specs.declared.cells.CellId.{CellId}
use Rattle.clr_rows.specs.Contents.{row_at}
use Rattle.clr_rules.specs.Needs.{BreaksNoMore}
use Rattle.clr_workspaces.specs.Marks.{Name}
use Rattle.clr_steps.specs.declared.commands.Command.{Command}
use Rattle.clr_steps.specs.declared.commands.Command.TheVariants as command
use Rattle.clr_steps.specs.declared.commands.Reply.{Reply}
use Rattle.clr_steps.specs.Names.{has}
use Rattle.clr_steps.specs.Offices.{Office}
use Rattle.clr_steps.specs.Quiet.{MergeSet, is_member, is_of_member, root_content}
use Rattle.clr_steps.specs.Steps.{run}
use Rattle.clr_clearance.specs.Headline.{AreAllMerged, merged_after, root_after}
use Rattle.clr_clearance.specs.MergeSets.{RootHolds}
use Rattle.clr_clearance.specs.Runs.{AreQuiet, office_before}
use Rattle.clr_clearance.specs.Safety.{is_clash}
use Rattle.clr_ordered_clearance.specs.MergeSets.{OrderedMergeSet}
use Rattle.clr_ordered_clearance.specs.Safety.{is_conflict}
use Rattle.clr_ordered_clearance.specs.Turns.{IsTurnOf, MergesComeInTurn, merged_before}

-- no reply to a merge of a member is a clash, and none to a refresh of a member whose turn it is
pub record NoneClashesInTurn (o : Office) (ordered : OrderedMergeSet) (commands : List Command) (lost : ℕ → Bool) : Type 0 where
  pub merges : (at : ℕ) (name : Name) (remove : Bool) (reply : Reply) → slice_get commands at ≡ Some (command.Merge name remove)
      → slice_get (run o commands lost).replies at ≡ Some reply → is_member ordered.merge_set name ≡ true → is_clash reply ≡ false
  pub refreshes : (at : ℕ) (name : Name) (reply : Reply) → slice_get commands at ≡ Some (command.Refresh name)
      → slice_get (run o commands lost).replies at ≡ Some reply → is_member ordered.merge_set name ≡ true
      → IsTurnOf ordered (merged_before o ordered.merge_set commands lost at) name → is_clash reply ≡ false

-- no reply to a merge or a refresh of a member names a conflict
abbrev pub NoneConflicts : MergeSet → List Command → List Reply → Type 0
NoneConflicts merge_set commands replies = (at : ℕ) (c : Command) (reply : Reply) → slice_get commands at ≡ Some c → slice_get replies at ≡ Some reply
    → is_of_member merge_set c ≡ true → is_conflict reply ≡ false

-- in every list of commands that are quiet for the members and in which each merge of a member comes in turn, whichever of them find no memory, no merge of
-- a member meets a conflict or breaks a rule, and no refresh of one whose turn it is; after each command the root breaks no need but those that it broke at
-- first, and so every rule holds in it if every rule held. Whatever comes in turn or not, no merge or refresh of a member meets a conflict, and after any two
-- lists of quiet commands that merge the same members the root has the same rows, and so it has once all members are merged
pub record HeadlineInTurn (o : Office) (ordered : OrderedMergeSet) : Type 0 where
  pub no_clash : (commands : List Command) (lost : ℕ → Bool) → AreQuiet o ordered.merge_set commands lost → MergesComeInTurn o ordered commands lost
      → NoneClashesInTurn o ordered commands lost
  pub no_more : (commands : List Command) (lost : ℕ → Bool) → AreQuiet o ordered.merge_set commands lost → MergesComeInTurn o ordered commands lost → (at : ℕ)
      → BreaksNoMore o.book (row_at (root_content o ordered.merge_set)) (row_at (root_content (office_before o commands lost at) ordered.merge_set))
  pub holds : RootHolds o ordered.merge_set → (commands : List Command) (lost : ℕ → Bool) → AreQuiet o ordered.merge_set commands lost
      → MergesComeInTurn o ordered commands lost → (at : ℕ) → RootHolds (office_before o commands lost at) ordered.merge_set
  pub no_conflict : (commands : List Command) (lost : ℕ → Bool) → AreQuiet o ordered.merge_set commands lost
      → NoneConflicts ordered.merge_set commands (run o commands lost).replies
  pub same_rows : (commands others : List Command) (lost lost_of_others : ℕ → Bool) → AreQuiet o ordered.merge_set commands lost
      → AreQuiet o ordered.merge_set others lost_of_others
      → ((name : Name) → has (merged_after o ordered.merge_set commands lost) name ≡ has (merged_after o ordered.merge_set others lost_of_others) name)
      → (cell : CellId) → root_after o ordered.merge_set commands lost cell ≡ root_after o ordered.merge_set others lost_of_others cell
  pub all_merged : (commands others : List Command) (lost lost_of_others : ℕ → Bool) → AreQuiet o ordered.merge_set commands lost
      → AreQuiet o ordered.merge_set others lost_of_others
      → AreAllMerged o ordered.merge_set commands lost → AreAllMerged o ordered.merge_set others lost_of_others
      → (cell : CellId) → root_after o ordered.merge_set commands lost cell ≡ root_after o ordered.merge_set others lost_of_others cell
