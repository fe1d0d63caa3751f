use Rattle.clr_rows.proofs.BeginningLaws.{begun_before}
use Rattle.clr_lines.specs.Rows.{place_fields}
use Rattle.clr_lines.proofs.row_fields.add_shape.Goals as goal

pub returns-in_err-add_place-in-Line-clause-begun : goal.returns-in_err-add_place-in-Line-clause-begun
returns-in_err-add_place-in-Line-clause-begun c =
    rw c.in-Line.is (begun_before _ (place_fields c.in-Line.first) (place_fields c.in-Line.second) _ c.in_err-add_place-in-Line.ensures.begun)
