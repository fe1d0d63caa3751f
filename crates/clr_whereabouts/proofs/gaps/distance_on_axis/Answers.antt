use Rattle.std.proofs.Common.{arith}
use Rattle.clr_segments.proofs.Integers.{size-sub}
use Rattle.clr_whereabouts.proofs.GapLemmas.{axis_is}
use Rattle.clr_whereabouts.proofs.gaps.distance_on_axis.Goals as goal

pub returns-clause-value : goal.returns-clause-value
returns-clause-value c = axis_is c.args.to c.args.from c.abs_diff.result c.requires.to_in c.requires.from_in c.abs_diff.ensures

pub returns-clause-bound : goal.returns-clause-bound
returns-clause-bound c =
    let is = axis_is c.args.to c.args.from c.abs_diff.result c.requires.to_in c.requires.from_in c.abs_diff.ensures in
    omega (arith, is, size-sub c.args.to c.args.from, c.requires.to_in, c.requires.from_in)
