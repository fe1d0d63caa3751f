use Rattle.std.proofs.Common.{◌≤◌, subst}
use Rattle.clr_row_versions.proofs.ServingLaws.{on_no_part}
use Rattle.clr_row_versions.proofs.serving.is_on_shape.Goals as goal

pub returns : goal.returns
returns c told number =
    on_no_part c.args.place c.args.shape.now c.loop-position.position c.requires.sound (subst (λ n. n ≤ c.loop-position.position) c.parts-position-end.ensures
    c.loop-position-test.false) c.loop-position.invariant number
