-- What a clear verdict promises where some members go before others, and how one comes about need by need.
use Rattle.std.specs.Prelude.{◌≡◌, ◌↔◌, ℕ, ◌<◌, Bool, true, false, ◌&&◌, List, [], Option, Some, Contains, filter, is_some, slice_get}
use Rattle.clr_workspaces.specs.Marks.{Name}
use Rattle.clr_workspaces.specs.Workspaces.{Workspace}
use Rattle.clr_needs.specs.declared.needs.Need.{Need}
use Rattle.clr_needs.specs.Covers.{Entry}
use Rattle.clr_needs.specs.Needs.{AreTouchedNeeds, IsPossible}
use Rattle.clr_needs.specs.Settings.{Setting, AreAmong, Lived}
use Rattle.clr_steps.specs.declared.commands.Command.{Command}
use Rattle.clr_steps.specs.declared.commands.Reply.{Reply}
use Rattle.clr_steps.specs.Names.{has}
use Rattle.clr_steps.specs.Offices.{Office, workspace}
use Rattle.clr_steps.specs.Quiet.{MergeSet, is_member}
use Rattle.clr_steps.specs.Steps.{lost_in, run}
use Rattle.clr_clearance.specs.declared.verdicts.Verdict.{Verdict}
use Rattle.clr_clearance.specs.declared.verdicts.Verdict.TheVariants as verdict
use Rattle.clr_clearance.specs.ClearedRuns.{IsQuietStart}
use Rattle.clr_clearance.specs.Headline.{Headline, RunsAreCleared}
use Rattle.clr_clearance.specs.Laws.{StaysFree}
use Rattle.clr_clearance.specs.MergeSets.{AgreesWith, RootHolds, rows_with, setting_of}
use Rattle.clr_clearance.specs.Plans.{standing}
use Rattle.clr_clearance.specs.Runs.{AreQuiet}
use Rattle.clr_clearance.specs.Safety.{Safe}
use Rattle.clr_clearance.specs.Verdicts.{IsVerdict}
use Rattle.clr_ordered_needs.specs.Covers.{AreCovered}
use Rattle.clr_ordered_needs.specs.Turns.{Order}
use Rattle.clr_ordered_clearance.specs.Headlines.{HeadlineInTurn}
use Rattle.clr_ordered_clearance.specs.Laws.{CanBeMergedAs, without_order}
use Rattle.clr_ordered_clearance.specs.MergeSets.{AreListedInTurn, CoversInTurn, KeepsRulesInTurn, ListsInTurn, MembersBreakNoMoreInTurn, OrderedMergeSet}
use Rattle.clr_ordered_clearance.specs.Runs.{IsClearedRunInTurn, IsQuietStartInTurn}
use Rattle.clr_ordered_clearance.specs.Safety.{SafeInTurn}
use Rattle.clr_ordered_clearance.specs.Turns.{MergesComeInTurn}
use Rattle.clr_ordered_clearance.specs.Verdicts.{IsFirstUncoveredInTurn, IsSettled, IsVerdictInTurn}

-- what a clear verdict promises --------------------------------------------------------------------------

-- the rows that members give who have come in turn break no need but those that fewer of them give break; where every rule holds in the root, it holds in
-- those rows; and no other member is in conflict with the rows that any members give
pub record StaysFreeInTurn (o : Office) (ordered : OrderedMergeSet) : Type 0 where
  pub no_more : MembersBreakNoMoreInTurn o ordered
  pub keeps : RootHolds o ordered.merge_set → KeepsRulesInTurn o ordered
  pub free : (names : List Name) (name : Name) (w : Workspace)
      → AreAmong (setting_of o ordered.merge_set) names ordered.merge_set.members
      → is_member ordered.merge_set name ≡ true
      → has names name ≡ false
      → workspace o name ≡ Some w
      → AgreesWith (rows_with o ordered.merge_set names) w.base w.current

-- a run of quiet commands in which merges come in turn, and in which those answered OutOfMemory are lost, is a cleared one
abbrev pub RunsAreClearedInTurn : Office → OrderedMergeSet → Type 0
RunsAreClearedInTurn o ordered = (commands : List Command) (replies : List Reply) (left : Office)
    → AreQuiet o ordered.merge_set commands (lost_in replies)
    → MergesComeInTurn o ordered commands (lost_in replies)
    → run o commands (lost_in replies) ≡ record { replies = replies; office = left }
    → IsClearedRunInTurn o ordered commands replies left

-- all that a clear verdict promises: of the merges as the members are listed, and as any other list in turn has them, too
pub record IsClearedInTurn (o : Office) (ordered : OrderedMergeSet) : Type 0 where
  pub free : StaysFreeInTurn o ordered
  pub safe : SafeInTurn o ordered
  pub headline : HeadlineInTurn o ordered
  pub listed : CanBeMergedAs o ordered ordered.merge_set.members
  pub lists : (names : List Name) → ListsInTurn o ordered names → CanBeMergedAs o ordered names
  pub runs : RunsAreClearedInTurn o ordered

abbrev pub ClearedInTurnLaw : Type 0
ClearedInTurnLaw = (o : Office) (ordered : OrderedMergeSet) (entries : List Entry) → IsVerdictInTurn o ordered entries verdict.Clear
    → IsClearedInTurn o ordered

-- the members that stand, and the pairs of which both do
abbrev pub standing_pairs : Office → OrderedMergeSet → OrderedMergeSet
standing_pairs now ordered = record {
  merge_set = standing now ordered.merge_set;
  before = filter (λ p. is_some (workspace now p.0) && is_some (workspace now p.1)) ordered.before;
}

-- after quiet commands in which merges come in turn the verdict is clear, with some entries, on the members that stand and the pairs of them
abbrev pub ClearLastsInTurnLaw : Type 0
ClearLastsInTurnLaw = (o : Office) (ordered : OrderedMergeSet) (entries : List Entry) (commands : List Command) (lost : ℕ → Bool)
    → IsVerdictInTurn o ordered entries verdict.Clear
    → AreQuiet o ordered.merge_set commands lost
    → MergesComeInTurn o ordered commands lost
    → let now = (run o commands lost).office in (more : List Entry) × IsVerdictInTurn now (standing_pairs now ordered) more verdict.Clear

-- verdicts -------------------------------------------------------------------------------------------------

-- clear exactly where the entries cover the ordered merge set, and the first of each pair is listed before the second
abbrev pub ClearInTurnLaw : Type 0
ClearInTurnLaw = (o : Office) (ordered : OrderedMergeSet) (entries : List Entry)
    → IsVerdictInTurn o ordered entries verdict.Clear ↔ (CoversInTurn o ordered entries × AreListedInTurn ordered)

-- no ordered merge set has two verdicts
abbrev pub OneVerdictInTurnLaw : Type 0
OneVerdictInTurnLaw = (o : Office) (ordered : OrderedMergeSet) (entries : List Entry) (v w : Verdict)
    → IsVerdictInTurn o ordered entries v → IsVerdictInTurn o ordered entries w → v ≡ w

-- without pairs the verdict is that on the merge set
abbrev pub VerdictWithoutOrderLaw : Type 0
VerdictWithoutOrderLaw = (o : Office) (merge_set : MergeSet) (entries : List Entry) (v : Verdict)
    → IsVerdictInTurn o (without_order merge_set) entries v ↔ IsVerdict o merge_set entries v

-- where no member goes before another, a clear verdict promises what one on the merge set promises, of merges in every order
pub record IsClearedInEveryOrder (o : Office) (merge_set : MergeSet) : Type 0 where
  pub free : StaysFree o merge_set
  pub safe : Safe o merge_set
  pub headline : Headline o merge_set
  pub runs : RunsAreCleared o merge_set

abbrev pub ClearedWithoutOrderLaw : Type 0
ClearedWithoutOrderLaw = (o : Office) (ordered : OrderedMergeSet) (entries : List Entry) → ordered.before ≡ [] → IsVerdictInTurn o ordered entries verdict.Clear
    → IsClearedInEveryOrder o ordered.merge_set

-- and the first commands of a list, up to one that isn't quiet or due, are those up to one that isn't quiet
abbrev pub StartWithoutOrderLaw : Type 0
StartWithoutOrderLaw = (o : Office) (merge_set : MergeSet) (commands : List Command) (replies : List Reply) (left : Office) (stopped : Option ℕ)
    → IsQuietStartInTurn o (without_order merge_set) commands replies left stopped ↔ IsQuietStart o merge_set commands replies left stopped

-- need by need -----------------------------------------------------------------------------------------------

-- the need is settled, whatever rows and lives its subjects have
abbrev pub IsSettledNeed : Order ℕ → Setting ℕ → List Entry → Need → Type 0
IsSettledNeed before c entries n = (a : Lived ℕ) (b : Option (Lived ℕ)) → IsPossible c n a b → IsSettled before c entries n a b

-- where each of the touched needs, listed, is settled, the entries cover all touched needs
abbrev pub AllSettledLaw : Type 0
AllSettledLaw = (before : Order ℕ) (c : Setting ℕ) (entries : List Entry) (needs : List Need)
    → AreTouchedNeeds c needs
    → ((n : Need) → Contains needs n → IsSettledNeed before c entries n)
    → AreCovered before c entries

-- the first of the touched needs, listed, that isn't settled is the least such need
abbrev pub FirstUnsettledLaw : Type 0
FirstUnsettledLaw = (before : Order ℕ) (c : Setting ℕ) (entries : List Entry) (needs : List Need) (at : ℕ) (n : Need)
    → AreTouchedNeeds c needs
    → slice_get needs at ≡ Some n
    → ((earlier : ℕ) (m : Need) → earlier < at → slice_get needs earlier ≡ Some m → IsSettledNeed before c entries m)
    → ¬ (IsSettledNeed before c entries n)
    → (a : Lived ℕ) × (b : Option (Lived ℕ)) × IsFirstUncoveredInTurn before c entries n a b
