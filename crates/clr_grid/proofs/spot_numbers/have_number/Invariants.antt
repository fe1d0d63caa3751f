use Rattle.std.proofs.Common.{◌≡◌, false, take}
use Rattle.std.specs.List.{list_any}
use Rattle.clr_grid.specs.SpotNumbers.{has_number}
use Rattle.clr_grid.proofs.spot_numbers.have_number.Given as goal

-- none of the spots so far has the number
abbrev pub invariant-loop-spot : goal.invariant-loop-spot
invariant-loop-spot l = list_any (has_number l.number) (take l.spot-index l.spots) ≡ false
