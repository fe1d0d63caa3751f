use Rattle.std.proofs.Common.{◌≡◌}
use Rattle.std.specs.FinMap as finite
use Rattle.clr_guarded_edits.specs.Fits.{first_unsayable}
use Rattle.clr_guarded_edits.proofs.fits.first_unsayable.Given as goal

-- no row so far has such a text
abbrev pub invariant-loop-cell : goal.invariant-loop-cell
invariant-loop-cell l = first_unsayable l.cell-iterator ≡ first_unsayable (finite.entries l.rows)
