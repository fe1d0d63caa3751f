use Rattle.std.proofs.Common.{◌≡◌}
use Rattle.std.specs.FinMap as finite
use Rattle.clr_desk_edits.specs.Proposals.{first_unsayable_row}
use Rattle.clr_desk_edits.proofs.proposals.first_unsayable_row.Given as goal

-- no row so far has such a text
abbrev pub invariant-loop-cell : goal.invariant-loop-cell
invariant-loop-cell l = first_unsayable_row l.cell-iterator ≡ first_unsayable_row (finite.entries l.rows)
