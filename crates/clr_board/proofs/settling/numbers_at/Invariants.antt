use Rattle.std.proofs.Common.{◌≡◌, slice_get, take}
use Rattle.std.specs.List.{filter_map}
use Rattle.clr_board.proofs.settling.numbers_at.Given as goal

-- the numbers at the places so far
abbrev pub invariant-loop-place : goal.invariant-loop-place
invariant-loop-place l = l.list.items ≡ filter_map (slice_get l.numbers) (take l.place-index l.places)
