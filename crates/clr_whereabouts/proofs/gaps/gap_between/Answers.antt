use Rattle.std.proofs.Common.{ℤ, subst, to_z-of_z}
use Rattle.clr_whereabouts.specs.Gaps.{IsGapOfSquare}
use Rattle.clr_whereabouts.proofs.GapLemmas.{gap_by}
use Rattle.clr_whereabouts.proofs.gaps.gap_between.Goals as goal

pub returns : goal.returns
returns c =
    gap_by c.args.p c.args.q c.square_between.result c.args.d c.gap_of_square.result c.square_between.ensures
    (subst (λ (z : ℤ). IsGapOfSquare c.square_between.result z c.gap_of_square.result) (to_z-of_z c.ranges.d) c.gap_of_square.ensures)
