use Rattle.std.proofs.Common.{◌≡◌, drop}
use Rattle.clr_guarded_edits.specs.Fits.{first_wkt_column}
use Rattle.clr_guarded_edits.proofs.fits.first_wkt_column.Given as goal

-- no table so far has such a column
abbrev pub invariant-loop-at : goal.invariant-loop-at
invariant-loop-at l = first_wkt_column l.at (drop l.at l.tables) ≡ first_wkt_column 0 l.tables
