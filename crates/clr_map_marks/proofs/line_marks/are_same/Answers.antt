use Rattle.std.specs.Bool.{one_answer}
use Rattle.clr_rows.specs.Same.{same_shape}
use Rattle.clr_map_marks.proofs.ShapeLemmas.{shapes_decide}
use Rattle.clr_map_marks.proofs.line_marks.are_same.Goals as goal

pub returns : goal.returns
returns c = one_answer c.same.result (same_shape c.args.a.now c.args.b.now) c.same.ensures (shapes_decide c.args.a.now c.args.b.now)
