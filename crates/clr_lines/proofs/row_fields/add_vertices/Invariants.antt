use Rattle.std.proofs.Common.{◌≡◌, ◌++◌, [], take}
use Rattle.std.specs.List.{flat_map}
use Rattle.csv.specs.Records.{fields_of, partial_of}
use Rattle.clr_lines.specs.Rows.{place_fields}
use Rattle.clr_lines.proofs.row_fields.add_vertices.Given as goal

-- the vertices so far are added, each coordinate a whole field
abbrev pub invariant-loop-vertex : goal.invariant-loop-vertex
invariant-loop-vertex l = (partial_of l.fields ≡ []) × (fields_of l.fields ≡ fields_of l.initial.fields
    ++ flat_map place_fields (take l.vertex-index l.vertices))
