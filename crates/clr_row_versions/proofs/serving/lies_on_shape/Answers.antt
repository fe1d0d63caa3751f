use Rattle.std.proofs.Common.{◌∙◌, ap, sym}
use Rattle.clr_rows.specs.Parts.{part_of}
use Rattle.clr_row_versions.specs.Serving.{is_on_part}
use Rattle.clr_row_versions.proofs.serving.lies_on_shape.Goals as goal

pub returns-in-None : goal.returns-in-None
returns-in-None c told number = ap (λ p. is_on_part p (part_of c.args.shape.now number)) (sym c.point_in.ensures.value ∙ c.in-None.is)

pub returns-in-Some : goal.returns-in-Some
returns-in-Some c told number = ap (λ p. is_on_part p (part_of c.args.shape.now number)) (sym c.point_in.ensures.value ∙ c.in-Some.is)
    ∙ c.is_on_shape.ensures told number
