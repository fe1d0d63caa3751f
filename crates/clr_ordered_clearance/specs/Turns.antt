-- Lists of commands in which each merge of a member comes in turn, as the replies tell.
use Rattle.std.specs.Prelude.{◌≡◌, ℕ, Bool, true, List, Some, slice_get, take}
use Rattle.clr_workspaces.specs.Marks.{Name}
use Rattle.clr_steps.specs.declared.commands.Command.{Command}
use Rattle.clr_steps.specs.declared.commands.Command.TheVariants as command
use Rattle.clr_steps.specs.Names.{has}
use Rattle.clr_steps.specs.Offices.{Office}
use Rattle.clr_steps.specs.Quiet.{MergeSet, is_member}
use Rattle.clr_clearance.specs.Headline.{merged_after}
use Rattle.clr_ordered_clearance.specs.MergeSets.{OrderedMergeSet, goes_before}

-- it is a member's turn: each member that goes before it is merged
abbrev pub IsTurnOf : OrderedMergeSet → List Name → Name → Type 0
IsTurnOf ordered merged name = (m : Name) → goes_before ordered m name ≡ true → is_member ordered.merge_set m ≡ true → has merged m ≡ true

-- the members that are merged when the command of a position is given
abbrev pub merged_before : Office → MergeSet → List Command → (ℕ → Bool) → ℕ → List Name
merged_before o merge_set commands lost at = merged_after o merge_set (take at commands) lost

-- each merge of a member is given when it is the member's turn
abbrev pub MergesComeInTurn : Office → OrderedMergeSet → List Command → (ℕ → Bool) → Type 0
MergesComeInTurn o ordered commands lost = (at : ℕ) (name : Name) (remove : Bool) → slice_get commands at ≡ Some (command.Merge name remove)
    → is_member ordered.merge_set name ≡ true
    → IsTurnOf ordered (merged_before o ordered.merge_set commands lost at) name
