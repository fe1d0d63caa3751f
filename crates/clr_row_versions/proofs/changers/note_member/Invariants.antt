use Rattle.clr_row_versions.specs.Changers.{noted_changers}
use Rattle.clr_row_versions.proofs.ChangedCells.{cells_of}
use Rattle.clr_row_versions.proofs.ChangerSteps.{IsNoting}
use Rattle.clr_row_versions.proofs.Searches.{sets_of}
use Rattle.clr_row_versions.proofs.changers.note_member.Given as goal

-- the member is noted at the cells so far
abbrev pub invariant-loop-cell : goal.invariant-loop-cell
invariant-loop-cell l = IsNoting (sets_of l.sets) l.position (noted_changers l.changers) (cells_of l.cell-iterator)
