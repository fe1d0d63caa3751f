use Rattle.clr_row_versions.specs.Changers.{AreChangersBelow}
use Rattle.clr_row_versions.proofs.Searches.{sets_of}
use Rattle.clr_row_versions.proofs.changers.changers_of.Given as goal

-- the changers among the members so far
abbrev pub invariant-loop-position : goal.invariant-loop-position
invariant-loop-position l = AreChangersBelow (sets_of l.sets) l.position l.changers
