use Rattle.std.proofs.Common.{◌≡◌, false, take}
use Rattle.clr_spots.specs.Spots.{are_many, boxes_of_parts, squares_of_all}
use Rattle.clr_spots.proofs.parts.spots_of_parts.Given as goal

-- the squares of the parts so far are listed, and aren't too many
abbrev pub invariant-loop-position : goal.invariant-loop-position
invariant-loop-position l = record {
  listed : l.list.items ≡ squares_of_all (take l.position (boxes_of_parts l.shape));
  few : are_many l.list.items ≡ false;
}
