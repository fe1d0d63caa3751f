use Rattle.std.proofs.Common.{◌≡◌, take}
use Rattle.std.specs.List.{fold}
use Rattle.clr_grid.specs.SpotNumbers.{mix_in}
use Rattle.clr_grid.proofs.spot_numbers.mix_bytes.Given as goal

-- the bytes so far are mixed in
abbrev pub invariant-loop-byte : goal.invariant-loop-byte
invariant-loop-byte l = l.mixed ≡ fold mix_in l.number (take l.byte-index l.bytes)
