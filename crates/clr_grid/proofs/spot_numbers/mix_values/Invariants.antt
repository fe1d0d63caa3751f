use Rattle.std.proofs.Common.{◌≡◌, take}
use Rattle.std.specs.List.{fold}
use Rattle.clr_grid.specs.SpotNumbers.{mix_value}
use Rattle.clr_grid.proofs.spot_numbers.mix_values.Given as goal

-- the values so far are mixed in
abbrev pub invariant-loop-value : goal.invariant-loop-value
invariant-loop-value l = l.mixed ≡ fold mix_value l.number (take l.value-index l.values)
