use Rattle.std.proofs.Common.{◌≡◌, true, take}
use Rattle.std.specs.List.{list_all}
use Rattle.clr_rows.specs.Ranges.{is_place_within}
use Rattle.clr_rows.proofs.numbers.read_places.Given as goal

-- the coordinates so far are within 64 bits
abbrev pub invariant-loop-place : goal.invariant-loop-place
invariant-loop-place l = list_all is_place_within (take l.place-index l.places) ≡ true
