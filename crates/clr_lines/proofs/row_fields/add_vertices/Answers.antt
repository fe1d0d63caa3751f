use Rattle.clr_rows.proofs.BeginningLaws.{begun_at}
use Rattle.clr_lines.specs.Rows.{place_fields}
use Rattle.clr_lines.proofs.row_fields.add_vertices.Goals as goal

pub returns-in_err-add_place-clause-begun : goal.returns-in_err-add_place-clause-begun
returns-in_err-add_place-clause-begun c =
    begun_at place_fields c.args.vertices.now c.loop-vertex.vertex-index _ _ _ _ c.loop-vertex-test.true c.loop-vertex.invariant.1
    c.in_err-add_place.ensures.begun
