-- Runs of the first commands of a list, up to one that isn't quiet.
use Rattle.std.specs.Prelude.{◌≡◌, ℕ, ◌+◌, false, List, Option, Some, None, length, slice_get, take}
use Rattle.clr_steps.specs.declared.commands.Command.{Command}
use Rattle.clr_steps.specs.declared.commands.Reply.{Reply}
use Rattle.clr_steps.specs.Offices.{Office}
use Rattle.clr_steps.specs.Quiet.{MergeSet, is_quiet, root_content}
use Rattle.clr_steps.specs.Steps.{AreAnswers, lost_in, run}
use Rattle.clr_clearance.specs.Runs.{AreQuiet, merged_in}
use Rattle.clr_clearance.specs.Safety.{IsMergeOf, NoneClashes}

-- no command is left, or the next one, numbered from 1, isn't quiet in this office
abbrev pub IsStop : MergeSet → List Command → List Reply → Office → Option ℕ → Type 0
IsStop merge_set commands replies left None = length replies ≡ length commands
IsStop merge_set commands replies left (Some number) =
    (number ≡ length replies + 1)
    × ((c : Command) × (slice_get commands (length replies) ≡ Some c) × (is_quiet left merge_set c ≡ false))

-- the replies to the first commands of a list, each quiet in the office in which it was given, the office that is left, and why the replies stop
-- there
pub record IsQuietStart (o : Office) (merge_set : MergeSet) (commands : List Command) (replies : List Reply) (left : Office) (stopped : Option ℕ) : Type 0 where
  pub answers : AreAnswers o (take (length replies) commands) replies left
  pub quiet : AreQuiet o merge_set (take (length replies) commands) (lost_in replies)
  pub stop : IsStop merge_set commands replies left stopped

-- a run in which no merge and no refresh of a member clashes, and that leaves the root as the merge of the members whose merge was done
pub record IsClearedRun (o : Office) (merge_set : MergeSet) (commands : List Command) (replies : List Reply) (left : Office) : Type 0 where
  pub runs : run o commands (lost_in replies) ≡ record { replies = replies; office = left }
  pub no_clash : NoneClashes merge_set commands replies
  pub root : IsMergeOf o merge_set (merged_in merge_set commands replies) (root_content left merge_set)
