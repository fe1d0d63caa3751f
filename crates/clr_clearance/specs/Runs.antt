-- Lists of commands that are quiet for a merge set, and the members that they merge.
use Rattle.std.specs.Prelude.{◌≡◌, ℕ, Bool, true, List, [], ◌∷◌, ◌++◌, Some, if◌then◌else◌, slice_get, take}
use Rattle.clr_workspaces.specs.Marks.{Name}
use Rattle.clr_steps.specs.declared.commands.Command.{Command}
use Rattle.clr_steps.specs.declared.commands.Command.TheVariants as command
use Rattle.clr_steps.specs.declared.commands.Reply.{Reply}
use Rattle.clr_steps.specs.declared.commands.Reply.TheVariants.{Done}
use Rattle.clr_steps.specs.Offices.{Office}
use Rattle.clr_steps.specs.Quiet.{MergeSet, is_member, is_quiet}
use Rattle.clr_steps.specs.Steps.{run}

-- the office in which the command of a position is given
abbrev pub office_before : Office → List Command → (ℕ → Bool) → ℕ → Office
office_before o commands lost at = (run o (take at commands) lost).office

-- each command is quiet in the office in which it is given
abbrev pub AreQuiet : Office → MergeSet → List Command → (ℕ → Bool) → Type 0
AreQuiet o merge_set commands lost = (at : ℕ) (c : Command) → slice_get commands at ≡ Some c → is_quiet (office_before o commands lost at) merge_set c ≡ true

-- the member whose merge was done, if the command was such a merge
abbrev pub merged_by : MergeSet → Command → Reply → List Name
merged_by merge_set (command.Merge name remove) Done = if is_member merge_set name then name ∷ [] else []
merged_by merge_set _ _ = []

-- the members that had a merge done
unfoldable pub merged_in : MergeSet → List Command → List Reply → List Name
merged_in merge_set (c ∷ cs) (reply ∷ replies) = merged_by merge_set c reply ++ merged_in merge_set cs replies
merged_in merge_set _ _ = []
