use Rattle.std.proofs.Common.{◌≡◌, false, take}
use Rattle.clr_finders.proofs.CommonSpots.{some_in}
use Rattle.clr_finders.proofs.meetings.have_common_spot.Given as goal

-- none of the spots so far is in the second list
abbrev pub invariant-loop-spot : goal.invariant-loop-spot
invariant-loop-spot l = some_in l.second (take l.spot-index l.first) ≡ false
