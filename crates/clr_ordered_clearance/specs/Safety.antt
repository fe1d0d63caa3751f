-- What an ordered merge set promises over every list of quiet commands in which each merge of a member comes in turn.
use Rattle.std.specs.Prelude.{◌≡◌, ℕ, Bool, true, false, List, ◌∷◌, Some}
use Rattle.clr_rows.specs.declared.cells.CellId.{CellId}
use Rattle.clr_rows.specs.Contents.{row_at}
use Rattle.clr_workspaces.specs.Marks.{Name}
use Rattle.clr_workspaces.specs.Workspaces.{Workspace}
use Rattle.clr_steps.specs.declared.commands.Command.{Command}
use Rattle.clr_steps.specs.declared.commands.Command.TheVariants as command
use Rattle.clr_steps.specs.declared.commands.Reply.{Reply}
use Rattle.clr_steps.specs.declared.commands.Reply.TheVariants.{Conflict, Done}
use Rattle.clr_steps.specs.Offices.{Office, workspace}
use Rattle.clr_steps.specs.Quiet.{is_member, is_of_member, root_content}
use Rattle.clr_steps.specs.Refusals.{name_in}
use Rattle.clr_steps.specs.Steps.{run, step}
use Rattle.clr_clearance.specs.MergeSets.{rows_with}
use Rattle.clr_clearance.specs.Runs.{AreQuiet, merged_in}
use Rattle.clr_clearance.specs.Safety.{IsMergeOf, IsSafeAnswer}
use Rattle.clr_ordered_clearance.specs.MergeSets.{OrderedMergeSet}
use Rattle.clr_ordered_clearance.specs.Turns.{IsTurnOf, MergesComeInTurn}

-- a reply that names a conflict
abbrev pub is_conflict : Reply → Bool
is_conflict (Conflict cell count) = true
is_conflict _ = false

-- an office after commands that merged some members: the root is their merge; each merge and each refresh of a member whose turn it is is safe; no merge
-- and no refresh of a member meets a conflict; and a refresh that is done gives the member the rows of the merge of those and itself, which in turn breaks
-- no more than the root
pub record IsSafeInTurnAt (first : Office) (ordered : OrderedMergeSet) (names : List Name) (now : Office) : Type 0 where
  pub book : now.book ≡ first.book
  pub root : IsMergeOf first ordered.merge_set names (root_content now ordered.merge_set)
  pub answers : (c : Command) → is_of_member ordered.merge_set c ≡ true → IsTurnOf ordered names (name_in c) → IsSafeAnswer now c
  pub no_conflict : (c : Command) → is_of_member ordered.merge_set c ≡ true → is_conflict (step now c).reply ≡ false
  pub refreshed_rows : (name : Name) (w : Workspace) → is_member ordered.merge_set name ≡ true → (step now (command.Refresh name)).reply ≡ Done
      → workspace (step now (command.Refresh name)).office name ≡ Some w
      → (cell : CellId) → row_at w.current cell ≡ rows_with first ordered.merge_set (name ∷ names) cell
  pub refreshes : (name : Name) (w : Workspace) → is_member ordered.merge_set name ≡ true → IsTurnOf ordered names name
      → (step now (command.Refresh name)).reply ≡ Done
      → workspace (step now (command.Refresh name)).office name ≡ Some w → IsMergeOf first ordered.merge_set (name ∷ names) w.current

-- the office is safe in this sense after every list of quiet commands in which each merge of a member comes in turn
abbrev pub SafeInTurn : Office → OrderedMergeSet → Type 0
SafeInTurn o ordered = (commands : List Command) (lost : ℕ → Bool) → AreQuiet o ordered.merge_set commands lost → MergesComeInTurn o ordered commands lost
    → let done = run o commands lost in IsSafeInTurnAt o ordered (merged_in ordered.merge_set commands done.replies) done.office
