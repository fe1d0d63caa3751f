-- What covered merge sets promise, by definitions alone.
use Rattle.std.specs.Prelude.{◌≡◌, ◌↔◌, ℕ, Bool, true, false, List, ◌∷◌, ◌++◌, Option, Some, length, take}
use Rattle.clr_rows.specs.declared.cells.CellId.{CellId}
use Rattle.clr_workspaces.specs.Marks.{Name}
use Rattle.clr_workspaces.specs.Workspaces.{Workspace}
use Rattle.clr_needs.specs.Covers.{Entry}
use Rattle.clr_needs.specs.Laws.{SayTheSame}
use Rattle.clr_needs.specs.Settings.{AreAmong}
use Rattle.clr_steps.specs.declared.commands.Command.{Command}
use Rattle.clr_steps.specs.declared.commands.Command.TheVariants as command
use Rattle.clr_steps.specs.declared.commands.Reply.{Reply}
use Rattle.clr_steps.specs.declared.commands.Reply.TheVariants.{Done}
use Rattle.clr_steps.specs.Names.{has}
use Rattle.clr_steps.specs.Offices.{Office, workspace}
use Rattle.clr_steps.specs.Quiet.{MergeSet, is_member}
use Rattle.clr_steps.specs.Steps.{run, step}
use Rattle.clr_clearance.specs.declared.verdicts.Verdict.{Verdict}
use Rattle.clr_clearance.specs.declared.verdicts.Verdict.TheVariants as verdict
use Rattle.clr_clearance.specs.ClearedRuns.{IsClearedRun, IsQuietStart}
use Rattle.clr_clearance.specs.Invariants.{Invariant}
use Rattle.clr_clearance.specs.Runs.{AreQuiet, merged_by, merged_in}
use Rattle.clr_clearance.specs.Safety.{IsMergeOf, IsSafeAnswer, Safe}
use Rattle.clr_clearance.specs.MergeSets.{AgreesWith, AreMergeable, Covers, KeepsRules, MembersBreakNoMore, RootHolds}
use Rattle.clr_clearance.specs.MergeSets.{setting_by_position, rows_with, setting_of}
use Rattle.clr_clearance.specs.Verdicts.{IsVerdict}

-- members by name and by position --------------------------------------------------------------------

abbrev pub NumberLaw : Type 0
NumberLaw = (o : Office) (merge_set : MergeSet) → SayTheSame (setting_of o merge_set) (setting_by_position o merge_set)

-- without commands between merges -------------------------------------------------------------------

-- the changes of some members give the same rows, in whatever order they are taken over
abbrev pub OrderLaw : Type 0
OrderLaw = (o : Office) (merge_set : MergeSet) (names others : List Name)
    → AreMergeable o merge_set
    → AreAmong (setting_of o merge_set) names merge_set.members
    → ((name : Name) → has names name ≡ has others name)
    → (cell : CellId) → rows_with o merge_set names cell ≡ rows_with o merge_set others cell

-- the rows that more members give break no need but those that fewer give break; where every rule holds in the root, it holds in the rows that any
-- members give; and no other member is in conflict with those rows
pub record StaysFree (o : Office) (merge_set : MergeSet) : Type 0 where
  pub no_more : MembersBreakNoMore o merge_set
  pub keeps : RootHolds o merge_set → KeepsRules o merge_set
  pub free : (names : List Name) (name : Name) (w : Workspace)
      → AreAmong (setting_of o merge_set) names merge_set.members
      → is_member merge_set name ≡ true
      → has names name ≡ false
      → workspace o name ≡ Some w
      → AgreesWith (rows_with o merge_set names) w.base w.current

abbrev pub StaticLaw : Type 0
StaticLaw = (o : Office) (merge_set : MergeSet) (entries : List Entry) → Covers o merge_set entries → StaysFree o merge_set

-- where every rule holds in the root, every rule holds in the rows that any members give
abbrev pub RootHeldLaw : Type 0
RootHeldLaw = (o : Office) (merge_set : MergeSet) → MembersBreakNoMore o merge_set → RootHolds o merge_set → KeepsRules o merge_set

-- a merge of a member, and a refresh ------------------------------------------------------------------

-- a merge of a member keeps the invariant, whatever rules say; where no more is broken whichever members are merged, its answer is safe
abbrev pub MergeLaw : Type 0
MergeLaw = (first : Office) (merge_set : MergeSet) (names : List Name) (now : Office) (name : Name) (remove : Bool)
    → AreMergeable first merge_set
    → Invariant first merge_set names now
    → is_member merge_set name ≡ true
    → let c = command.Merge name remove in
    let a = step now c in
    Invariant first merge_set (names ++ merged_by merge_set c a.reply) a.office × (MembersBreakNoMore first merge_set → IsSafeAnswer now c)

pub record IsSafeRefresh (first : Office) (merge_set : MergeSet) (names : List Name) (now : Office) (name : Name) : Type 0 where
  pub answer : IsSafeAnswer now (command.Refresh name)
  pub content : (w : Workspace) → (step now (command.Refresh name)).reply ≡ Done → workspace (step now (command.Refresh name)).office name ≡ Some w
      → IsMergeOf first merge_set (name ∷ names) w.current

abbrev pub RefreshLaw : Type 0
RefreshLaw = (first : Office) (merge_set : MergeSet) (names : List Name) (now : Office) (name : Name)
    → AreMergeable first merge_set
    → Invariant first merge_set names now
    → is_member merge_set name ≡ true
    → Invariant first merge_set names (step now (command.Refresh name)).office
    × (MembersBreakNoMore first merge_set → IsSafeRefresh first merge_set names now name)

-- every quiet list ---------------------------------------------------------------------------------------

abbrev pub QuietListLaw : Type 0
QuietListLaw = (o : Office) (merge_set : MergeSet) (commands : List Command) (lost : ℕ → Bool)
    → AreMergeable o merge_set
    → AreQuiet o merge_set commands lost
    → let done = run o commands lost in
    Invariant o merge_set (merged_in merge_set commands done.replies) done.office

abbrev pub SafeLaw : Type 0
SafeLaw = (o : Office) (merge_set : MergeSet) (entries : List Entry) → Covers o merge_set entries → Safe o merge_set

-- verdicts -------------------------------------------------------------------------------------------------

-- clear exactly where the entries cover the merge set
abbrev pub ClearLaw : Type 0
ClearLaw = (o : Office) (merge_set : MergeSet) (entries : List Entry) → IsVerdict o merge_set entries verdict.Clear ↔ Covers o merge_set entries

-- no merge set has two verdicts
abbrev pub OneVerdictLaw : Type 0
OneVerdictLaw = (o : Office) (merge_set : MergeSet) (entries : List Entry) (v w : Verdict) → IsVerdict o merge_set entries v → IsVerdict o merge_set entries w
    → v ≡ w

-- where the verdict is clear, no merge breaks more, and the merge set is safe
abbrev pub ClearIsSafeLaw : Type 0
ClearIsSafeLaw = (o : Office) (merge_set : MergeSet) (entries : List Entry) → IsVerdict o merge_set entries verdict.Clear
    → StaysFree o merge_set × Safe o merge_set

-- the first commands of a list, up to one that isn't quiet, make a cleared run
abbrev pub ClearedRunLaw : Type 0
ClearedRunLaw = (o : Office) (merge_set : MergeSet) (entries : List Entry) (commands : List Command) (replies : List Reply) (left : Office) (stopped : Option ℕ)
    → IsVerdict o merge_set entries verdict.Clear
    → IsQuietStart o merge_set commands replies left stopped
    → IsClearedRun o merge_set (take (length replies) commands) replies left
