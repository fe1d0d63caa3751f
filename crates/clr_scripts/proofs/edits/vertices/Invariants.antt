use Rattle.std.proofs.Common.{◌≡◌, ◌-◌, drop, length}
use Rattle.csv.specs.Records.{fields_of}
use Rattle.clr_scripts.specs.Edits.{vertices_of}
use Rattle.clr_readings.proofs.Fronts.{with_front}
use Rattle.clr_scripts.proofs.edits.vertices.Given as goal

-- the vertices so far, with those of the fields that are left, are all the vertices
abbrev pub invariant-loop-list : goal.invariant-loop-list
invariant-loop-list l = with_front l.list.items (vertices_of (drop l.at (fields_of l.fields))) ≡ vertices_of (drop l.first (fields_of l.fields))

abbrev pub decreases-loop-list : goal.decreases-loop-list
decreases-loop-list l = length (fields_of l.fields) - l.at
