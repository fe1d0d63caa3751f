-- What a merge set promises over every list of quiet commands, whichever of them find no memory.
use Rattle.std.specs.Prelude.{◌≡◌, ℕ, Bool, true, false, not, ◌&&◌, List, ◌∷◌, Some, is_some, slice_get}
use Rattle.clr_rows.specs.declared.cells.CellId.{CellId}
use Rattle.clr_rows.specs.Contents.{Content, row_at}
use Rattle.clr_rules.specs.Needs.{BreaksNoMore, Holds}
use Rattle.clr_workspaces.specs.Marks.{Name}
use Rattle.clr_workspaces.specs.Workspaces.{Workspace}
use Rattle.clr_steps.specs.declared.commands.Command.{Command}
use Rattle.clr_steps.specs.declared.commands.Command.TheVariants as command
use Rattle.clr_steps.specs.declared.commands.Reply.{Reply}
use Rattle.clr_steps.specs.declared.commands.Reply.TheVariants.{Conflict, Done, RuleBroken}
use Rattle.clr_steps.specs.Offices.{Office, workspace}
use Rattle.clr_steps.specs.Quiet.{MergeSet, is_member, is_of_member, root_content}
use Rattle.clr_steps.specs.Refusals.{has_child}
use Rattle.clr_steps.specs.Steps.{run, step}
use Rattle.clr_clearance.specs.Runs.{AreQuiet, merged_in}
use Rattle.clr_clearance.specs.MergeSets.{RootHolds, rows_with}

-- a content has the root's rows with the changes of some members over them, and breaks no need but those that the root breaks; so every rule holds in it
-- where every rule holds in the root
pub record IsMergeOf (o : Office) (merge_set : MergeSet) (names : List Name) (content : Content) : Type 0 where
  pub rows : (cell : CellId) → row_at content cell ≡ rows_with o merge_set names cell
  pub no_more : BreaksNoMore o.book (row_at (root_content o merge_set)) (row_at content)
  pub holds : RootHolds o merge_set → Holds o.book (row_at content)

-- a reply that names a conflict or a broken rule
abbrev pub is_clash : Reply → Bool
is_clash (Conflict cell count) = true
is_clash (RuleBroken need) = true
is_clash _ = false

-- no reply to a merge or a refresh of a member is a clash
abbrev pub NoneClashes : MergeSet → List Command → List Reply → Type 0
NoneClashes merge_set commands replies = (at : ℕ) (c : Command) (reply : Reply) → slice_get commands at ≡ Some c → slice_get replies at ≡ Some reply
    → is_of_member merge_set c ≡ true → is_clash reply ≡ false

-- the workspace that is to be merged or refreshed stands and, where it is to go, has no children
abbrev pub is_ready : Office → Command → Bool
is_ready o (command.Merge name remove) = is_some (workspace o name) && not (remove && has_child o name)
is_ready o (command.Refresh name) = is_some (workspace o name)
is_ready o _ = false

-- an answer that is no clash, and that is Done where the workspace is ready
pub record IsSafeAnswer (o : Office) (c : Command) : Type 0 where
  pub no_clash : is_clash (step o c).reply ≡ false
  pub is_done : is_ready o c ≡ true → (step o c).reply ≡ Done

-- an office after commands that merged some members: the root is their merge, each merge and each refresh of a member is safe, and a refresh that is
-- done gives the member the merge of those and itself
pub record IsSafeAt (first : Office) (merge_set : MergeSet) (names : List Name) (now : Office) : Type 0 where
  pub book : now.book ≡ first.book
  pub root : IsMergeOf first merge_set names (root_content now merge_set)
  pub answers : (c : Command) → is_of_member merge_set c ≡ true → IsSafeAnswer now c
  pub refreshes : (name : Name) (w : Workspace) → is_member merge_set name ≡ true → (step now (command.Refresh name)).reply ≡ Done
      → workspace (step now (command.Refresh name)).office name ≡ Some w → IsMergeOf first merge_set (name ∷ names) w.current

-- the office is safe in this sense after every list of quiet commands
abbrev pub Safe : Office → MergeSet → Type 0
Safe o merge_set = (commands : List Command) (lost : ℕ → Bool) → AreQuiet o merge_set commands lost
    → let done = run o commands lost in IsSafeAt o merge_set (merged_in merge_set commands done.replies) done.office
