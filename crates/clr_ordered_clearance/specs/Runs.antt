-- Runs of the first commands of a list, up to one that isn't quiet, or that merges a member before its turn.
use Rattle.std.specs.Prelude.{◌≡◌, ℕ, ◌+◌, true, false, List, Option, Some, None, ⊤, ◌⊎◌, length, slice_get, take}
use Rattle.clr_workspaces.specs.Marks.{Name}
use Rattle.clr_steps.specs.declared.commands.Command.{Command}
use Rattle.clr_steps.specs.declared.commands.Command.TheVariants as command
use Rattle.clr_steps.specs.declared.commands.Reply.{Reply}
use Rattle.clr_steps.specs.Offices.{Office}
use Rattle.clr_steps.specs.Quiet.{is_member, is_quiet, root_content}
use Rattle.clr_steps.specs.Steps.{AreAnswers, lost_in, run}
use Rattle.clr_clearance.specs.Runs.{AreQuiet, merged_in}
use Rattle.clr_clearance.specs.Safety.{IsMergeOf}
use Rattle.clr_ordered_clearance.specs.Headlines.{NoneClashesInTurn}
use Rattle.clr_ordered_clearance.specs.MergeSets.{OrderedMergeSet}
use Rattle.clr_ordered_clearance.specs.Turns.{IsTurnOf, MergesComeInTurn}

-- where the command merges a member, it is the member's turn
abbrev pub IsDue : OrderedMergeSet → List Name → Command → Type 0
IsDue ordered merged (command.Merge name remove) = is_member ordered.merge_set name ≡ true → IsTurnOf ordered merged name
IsDue ordered merged _ = ⊤

-- no command is left, or the next one, numbered from 1, isn't quiet in this office, or isn't due once these members are merged
abbrev pub IsStopInTurn : OrderedMergeSet → List Name → List Command → List Reply → Office → Option ℕ → Type 0
IsStopInTurn ordered merged commands replies left None = length replies ≡ length commands
IsStopInTurn ordered merged commands replies left (Some number) =
    (number ≡ length replies + 1)
    × ((c : Command) × (slice_get commands (length replies) ≡ Some c) × ((is_quiet left ordered.merge_set c ≡ false) ⊎ ¬ (IsDue ordered merged c)))

-- the replies to the first commands of a list, each quiet and due when it was given, the office that is left, and why the replies stop there
pub record IsQuietStartInTurn (o : Office) (ordered : OrderedMergeSet) (commands : List Command) (replies : List Reply) (left : Office) (stopped : Option ℕ) :
    Type 0
  where
    pub answers : AreAnswers o (take (length replies) commands) replies left
    pub quiet : AreQuiet o ordered.merge_set (take (length replies) commands) (lost_in replies)
    pub in_turn : MergesComeInTurn o ordered (take (length replies) commands) (lost_in replies)
    pub stop : IsStopInTurn ordered (merged_in ordered.merge_set commands replies) commands replies left stopped

-- a run in which no merge of a member clashes, and no refresh of one whose turn it is, and that leaves the root as the merge of the members whose merge was
-- done
pub record IsClearedRunInTurn (o : Office) (ordered : OrderedMergeSet) (commands : List Command) (replies : List Reply) (left : Office) : Type 0 where
  pub runs : run o commands (lost_in replies) ≡ record { replies = replies; office = left }
  pub no_clash : NoneClashesInTurn o ordered commands (lost_in replies)
  pub root : IsMergeOf o ordered.merge_set (merged_in ordered.merge_set commands replies) (root_content left ordered.merge_set)
