use Rattle.std.proofs.Common.{◌≡◌, ◌+◌, ◌++◌, drop}
use Rattle.clr_desk_faults.specs.LayerFaults.{degrees_lines}
use Rattle.clr_desk_faults.proofs.layer_faults.degrees_lines.Given as goal

-- the lines so far, with those of the layers that are left, are all of them
abbrev pub invariant-loop-at : goal.invariant-loop-at
invariant-loop-at l = l.lines.items ++ degrees_lines l.files (l.first + l.at) (drop l.at l.layers) ≡ degrees_lines l.files l.first l.layers
